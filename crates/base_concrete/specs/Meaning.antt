-- The base of single numbers: every operation is that of the words themselves.
use Rattle.std.specs.Prelude.{◌≡◌, ℕ, ◌^◌, ◌<◌, Bool, true, false, not, ◌==◌, nat_lt, nat_le, [], ◌∷◌, Some, None, if◌then◌else◌}
use Rattle.word_operations.specs.Op1.{op1_of}
use Rattle.word_operations.specs.Op2.{op2_of}
use Rattle.word_operations.specs.Cmp.{cmp_of}
use Rattle.word_operations.specs.Casts.{zext_of, sext_of, trunc_of}
use Rattle.base_trait.specs.Algebra.{Algebra, Words}
use Rattle.base_trait.specs.OneStamp.{one_stamp}
use Rattle.base_trait.specs.declared.tri.Tri.{Tri}
use Rattle.base_trait.specs.declared.uses.Stamp.{Stamp}

-- a flag that is this truth value
abbrev pub only : Bool → Tri
only b = record { may_true = b; may_false = not b }

abbrev pub words : Words ℕ (Unit {0})
words = record {
  describes = λ valuation w n x. (n ≡ x) × (n < 2 ^ w);
  fits = λ c w x. x < 2 ^ w;
  fits_test = λ c w x. nat_lt x (2 ^ w);
  looks = false;
  constant = λ c w v. v;
  any = λ c w. 0;
  range = λ c w low high. low;
  op1 = λ c op w x. op1_of op w x;
  op2 = λ c op w x y. op2_of op w x y;
  cmp = λ c k w x y. only (cmp_of k w x y);
  zext = λ c from to x. zext_of from to x;
  sext = λ c from to x. sext_of from to x;
  trunc = λ c from to x. trunc_of from to x;
  join = λ c w x y. x;
  widen = λ c w old new. old;
  absorbs = λ c w old new. old == new;
  rank = λ c w x. 0;
  height = λ w. 0;
  exact = λ c w x. Some x;
  may = λ c w x k. x == k;
  members = λ c w x limit. if nat_le 1 limit then Some (x ∷ []) else None;
  size = λ c w x. 1;
}

abbrev pub concrete : Algebra ℕ Stamp (Unit {0})
concrete = record { joins = false; words = words; notes = one_stamp }
