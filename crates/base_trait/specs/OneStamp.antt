-- Notes of one stamp each, for words of one number each: sides that join are equal.
use Rattle.std.specs.Prelude.{◌≡◌, true, [], ◌∷◌}
use Rattle.base_trait.specs.Algebra.{Notes}
use Rattle.base_trait.specs.Stamps.{same_stamp}
use Rattle.base_trait.specs.declared.uses.Stamp.{Stamp}
use Rattle.base_trait.specs.declared.uses.Stamp.TheVariants.{Entry, At}

abbrev pub one_stamp : Notes Stamp
one_stamp = record {
  describes = λ s x. s ≡ x;
  stamped = true;
  listed = λ x. x ∷ [];
  entry = Entry;
  at = λ a. At a;
  join = λ x y. x;
  widen = λ old new. old;
  absorbs = λ old new. same_stamp old new;
  rank = λ stamps x. 0;
  height = λ n. 0;
  reads = λ m key x. record { of_map = m; key = key; stamps = x ∷ [] } ∷ [];
}
