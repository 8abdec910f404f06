-- One step of merging lists.
use Rattle.std.specs.Prelude.{Option, Some, None}

-- a value merged with another, if there is one
abbrev pub merged_with : {A : Type 0} → (A → A → A) → A → Option A → A
merged_with f x None = x
merged_with f x (Some y) = f x y
