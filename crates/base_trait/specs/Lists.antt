-- Lists of numbers and of stamps.
use Rattle.std.specs.Prelude.{◌≡◌, ℕ, ◌+◌, ◌≤◌, Bool, true, ◌&&◌, nat_le, List, [], ◌∷◌, length, take, Option, option_map, Vec, ◌⊎◌, ⊤}
use Rattle.std.specs.declared.alloc.Global.{Global}

-- x is an item of the list
abbrev pub IsAmong : {A : Type 0} → A → List A → Type 0
IsAmong x [] = ⊥
IsAmong x (y ∷ ys) = (x ≡ y) ⊎ IsAmong x ys

-- each item of the first list is one of the second
abbrev pub AreAmong : {A : Type 0} → List A → List A → Type 0
AreAmong [] ys = ⊤
AreAmong (x ∷ xs) ys = IsAmong x ys × AreAmong xs ys

-- P holds of each item
abbrev pub Each : {A : Type 0} → (A → Type 0) → List A → Type 0
Each P [] = ⊤
Each P (x ∷ xs) = P x × Each P xs

-- the numbers ascend without doubles, from low or more on
abbrev pub IsAscendingFrom : ℕ → List ℕ → Type 0
IsAscendingFrom low [] = ⊤
IsAscendingFrom low (x ∷ xs) = (low ≤ x) × IsAscendingFrom (x + 1) xs

-- the numbers ascend without doubles
abbrev pub IsAscending : List ℕ → Type 0
IsAscending = IsAscendingFrom 0

-- whether the numbers ascend without doubles, from low or more on
abbrev pub ascends_from : ℕ → List ℕ → Bool
ascends_from low [] = true
ascends_from low (x ∷ xs) = nat_le low x && ascends_from (x + 1) xs

-- the list begins with the old one
abbrev pub IsGrown : {A : Type 0} → List A → List A → Type 0
IsGrown old new = take (length old) new ≡ old

-- the items of a Vec, where there is one
abbrev pub items_of : {A : Type 0} → Option (Vec A Global) → Option (List A)
items_of = option_map (λ v. v.items)
