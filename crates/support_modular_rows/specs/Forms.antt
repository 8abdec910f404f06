-- Forms, each as the list of its numbers.
use Rattle.std.specs.Prelude.{◌≡◌, ℕ, Bool, List, Option, Some, None, nat_eq}
use Rattle.std.specs.Cmp.Lexicographic.{pointwise}
use Rattle.support_modular_rows.specs.Submodule.{Congruent, dot}

-- the forms have as many numbers, and the same ones
abbrev pub same_form : List ℕ → List ℕ → Bool
same_form = pointwise nat_eq

-- y is the form's value over the row, or 0 where there is none
abbrev pub HasEntry : Option (List ℕ) → List ℕ → ℕ → Type 0
HasEntry None row y = y ≡ 0
HasEntry (Some c) row y = Congruent y (dot c row)
