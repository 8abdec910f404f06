-- Sets of stamps: ascending lists without doubles.
use Rattle.std.specs.Prelude.{ℕ, ◌+◌, Bool, true, List, [], ◌∷◌, if◌then◌else◌}
use Rattle.std.specs.List.{list_all}
use Rattle.base_trait.specs.Algebra.{Notes}
use Rattle.base_trait.specs.Lists.{IsAmong}
use Rattle.base_trait.specs.Stamps.{is_before, is_listed}
use Rattle.base_trait.specs.declared.uses.Stamp.{Stamp}
use Rattle.base_trait.specs.declared.uses.Stamp.TheVariants.{Entry, At}

-- the stamp in its place
abbrev pub placed : Stamp → List Stamp → List Stamp
placed s [] = s ∷ []
placed s (t ∷ ts) = if is_before s t then s ∷ t ∷ ts else t ∷ placed s ts

-- the stamps with one more
abbrev pub with_stamp : List Stamp → Stamp → List Stamp
with_stamp xs s = if is_listed xs s then xs else placed s xs

abbrev pub union : List Stamp → List Stamp → List Stamp
union xs [] = xs
union xs (y ∷ ys) = union (with_stamp xs y) ys

abbrev pub has_all : List Stamp → List Stamp → Bool
has_all xs ys = list_all (is_listed xs) ys

-- how many stamps of the list the note lacks
abbrev pub lacking : List Stamp → List Stamp → ℕ
lacking [] xs = 0
lacking (s ∷ ss) xs = if is_listed xs s then lacking ss xs else lacking ss xs + 1

abbrev pub stamp_notes : Notes (List Stamp)
stamp_notes = record {
  describes = λ s x. IsAmong s x;
  stamped = true;
  listed = λ x. x;
  entry = Entry ∷ [];
  at = λ a. At a ∷ [];
  join = λ x y. union x y;
  widen = λ old new. union old new;
  absorbs = λ old new. has_all old new;
  rank = λ stamps x. lacking stamps x;
  height = λ n. n;
  reads = λ m key x. record { of_map = m; key = key; stamps = x } ∷ [];
}
