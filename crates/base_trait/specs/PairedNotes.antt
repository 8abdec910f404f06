-- Notes of two kinds side by side: each call acts on both parts.
use Rattle.std.specs.Prelude.{◌+◌, ◌&&◌, ◌||◌, ◌++◌}
use Rattle.std.proofs.Common.{ap₂}
use Rattle.base_trait.specs.Algebra.{Notes}
use Rattle.base_trait.specs.Notes.{HaveSameCalls}

module _ {M N : Type 0} (A : Notes M) (B : Notes N) where
  abbrev pub paired_notes : Notes (M × N)
  paired_notes = record {
    describes = λ s x. A.describes s x.0 × B.describes s x.1;
    stamped = A.stamped || B.stamped;
    listed = λ x. A.listed x.0 ++ B.listed x.1;
    entry = (A.entry, B.entry);
    at = λ a. (A.at a, B.at a);
    join = λ x y. (A.join x.0 y.0, B.join x.1 y.1);
    widen = λ old new. (A.widen old.0 new.0, B.widen old.1 new.1);
    absorbs = λ old new. A.absorbs old.0 new.0 && B.absorbs old.1 new.1;
    rank = λ stamps x. A.rank stamps x.0 + B.rank stamps x.1;
    height = λ n. A.height n + B.height n;
    reads = λ m key x. A.reads m key x.0 ++ B.reads m key x.1;
  }

-- of parts with the same calls
module _ {M N : Type 0} (A A' : Notes M) (B B' : Notes N) where
  pub paired_calls : HaveSameCalls A A' → HaveSameCalls B B' → HaveSameCalls (paired_notes A B) (paired_notes A' B')
  paired_calls a b = record {
    entry = ap₂ (λ f g. (f, g)) a.entry b.entry;
    at = ap₂ (λ f g n. (f n, g n)) a.at b.at;
    join = ap₂ (λ f g x y. (f x.0 y.0, g x.1 y.1)) a.join b.join;
    widen = ap₂ (λ f g x y. (f x.0 y.0, g x.1 y.1)) a.widen b.widen;
    absorbs = ap₂ (λ f g x y. f x.0 y.0 && g x.1 y.1) a.absorbs b.absorbs;
    reads = ap₂ (λ f g m key x. f m key x.0 ++ g m key x.1) a.reads b.reads;
  }
