-- Endings to which one is added, if there is one.
use Rattle.std.specs.Prelude.{◌≡◌, ◌==◌, ℕ, cond, List, Option, Some, None}
use Rattle.fixpoint_open_tables.specs.declared.ending.Ending.{Ending}
use Rattle.fixpoint_open_tables.specs.Endings.{ends_in}

-- The address has this ending now, in place of the one that it had, and each other one has what it had.
abbrev pub IsPut : {W : Type 0} → List (ℕ × Ending W) → List (ℕ × Ending W) → ℕ → Option (Ending W) → Type 0
IsPut m n a None = n ≡ m
IsPut m n a (Some x) = (q : ℕ) → ends_in n q ≡ cond (a == q) (Some x) (ends_in m q)
