-- Two bases side by side: each operation acts on both parts.
use Rattle.std.specs.Prelude.{ℕ, ◌+◌, min, Bool, ◌&&◌, ◌||◌, List, Option, Some, None}
use Rattle.std.specs.List.{filter}
use Rattle.base_trait.specs.Algebra.{Algebra, Words}
use Rattle.base_trait.specs.PairedNotes.{paired_notes}
use Rattle.base_trait.specs.declared.tri.Tri.{Tri}

-- a flag may be what both allow
abbrev pub both_allow : Tri → Tri → Tri
both_allow t u = record { may_true = t.may_true && u.may_true; may_false = t.may_false && u.may_false }

-- the first, or else the second
abbrev pub first_of : Option ℕ → Option ℕ → Option ℕ
first_of None y = y
first_of (Some x) y = Some x

-- the first list less what the second part excludes, or else the second list less what the first part excludes
abbrev pub shared_members : Option (List ℕ) → (ℕ → Bool) → Option (List ℕ) → (ℕ → Bool) → Option (List ℕ)
shared_members (Some xs) may_first ys may_second = Some (filter may_second xs)
shared_members None may_first (Some ys) may_second = Some (filter may_first ys)
shared_members None may_first None may_second = None

module _ {V W C D : Type 0} (A : Words V C) (B : Words W D) where
  abbrev pub paired_words : Words (V × W) (C × D)
  paired_words = record {
    describes = λ valuation w n x. A.describes valuation w n x.0 × B.describes valuation w n x.1;
    fits = λ c w x. A.fits c.0 w x.0 × B.fits c.1 w x.1;
    fits_test = λ c w x. A.fits_test c.0 w x.0 && B.fits_test c.1 w x.1;
    looks = A.looks || B.looks;
    constant = λ c w v. (A.constant c.0 w v, B.constant c.1 w v);
    any = λ c w. (A.any c.0 w, B.any c.1 w);
    range = λ c w low high. (A.range c.0 w low high, B.range c.1 w low high);
    op1 = λ c op w x. (A.op1 c.0 op w x.0, B.op1 c.1 op w x.1);
    op2 = λ c op w x y. (A.op2 c.0 op w x.0 y.0, B.op2 c.1 op w x.1 y.1);
    cmp = λ c k w x y. both_allow (A.cmp c.0 k w x.0 y.0) (B.cmp c.1 k w x.1 y.1);
    zext = λ c from to x. (A.zext c.0 from to x.0, B.zext c.1 from to x.1);
    sext = λ c from to x. (A.sext c.0 from to x.0, B.sext c.1 from to x.1);
    trunc = λ c from to x. (A.trunc c.0 from to x.0, B.trunc c.1 from to x.1);
    join = λ c w x y. (A.join c.0 w x.0 y.0, B.join c.1 w x.1 y.1);
    widen = λ c w old new. (A.widen c.0 w old.0 new.0, B.widen c.1 w old.1 new.1);
    absorbs = λ c w old new. A.absorbs c.0 w old.0 new.0 && B.absorbs c.1 w old.1 new.1;
    rank = λ c w x. A.rank c.0 w x.0 + B.rank c.1 w x.1;
    height = λ w. A.height w + B.height w;
    exact = λ c w x. first_of (A.exact c.0 w x.0) (B.exact c.1 w x.1);
    may = λ c w x k. A.may c.0 w x.0 k && B.may c.1 w x.1 k;
    members = λ c w x limit. shared_members (A.members c.0 w x.0 limit) (A.may c.0 w x.0) (B.members c.1 w x.1 limit) (B.may c.1 w x.1);
    size = λ c w x. min (A.size c.0 w x.0) (B.size c.1 w x.1);
  }

abbrev pub paired : {V W M N C D : Type 0} → Algebra V M C → Algebra W N D → Algebra (V × W) (M × N) (C × D)
paired A B = record { joins = A.joins && B.joins; words = paired_words A.words B.words; notes = paired_notes A.notes B.notes }
