-- Stamps, and lists of them. The entry comes first, then addresses, ascending.
use Rattle.std.specs.Prelude.{◌≡◌, Bool, true, false, List, [], ◌∷◌, ◌==◌, nat_lt, IsTrue, ⊤}
use Rattle.std.specs.List.{list_any}
use Rattle.std.specs.Ordering.{is_lt}
use Rattle.std.specs.declared.cmp.Ordering.{Ordering}
use Rattle.base_trait.specs.Lists.{Each}
use Rattle.base_trait.specs.declared.uses.Stamp.{Stamp}
use Rattle.base_trait.specs.declared.uses.Stamp.TheVariants.{Entry, At}

-- whether both are one stamp
abbrev pub same_stamp : Stamp → Stamp → Bool
same_stamp Entry Entry = true
same_stamp (At x) (At y) = x == y
same_stamp _ _ = false

-- whether the first comes before the second
abbrev pub is_before : Stamp → Stamp → Bool
is_before Entry Entry = false
is_before Entry (At y) = true
is_before (At x) Entry = false
is_before (At x) (At y) = nat_lt x y

-- whether the list has the stamp
abbrev pub is_listed : List Stamp → Stamp → Bool
is_listed xs s = list_any (λ x. same_stamp x s) xs

-- each stamp comes before those after it
abbrev pub AreAscending : List Stamp → Type 0
AreAscending [] = ⊤
AreAscending (s ∷ ss) = Each (λ t. IsTrue (is_before s t)) ss × AreAscending ss

-- An order of stamps has the entry first, then addresses, ascending.
abbrev pub AreInOrder : (Stamp → Stamp → Ordering) → Type 0
AreInOrder compare = (s t : Stamp) → is_lt (compare s t) ≡ is_before s t
