-- A decision tree as plain data.
use Rattle.std.specs.Prelude.{ℕ, List, [], ◌∷◌}
use Rattle.spec_match_compiler.specs.Values.{Place}

mutual
  pub data Decision : Type 0 where
    row : ℕ → List (ℕ × Place) → Decision
    on_case : Place → Decisions → Decision
    on_word : Place → ℕ → Decision → Decision → Decision
    on_flag : Place → Decision → Decision → Decision

  pub data Decisions : Type 0 where
    no_tree : Decisions
    tree_then : Decision → Decisions → Decisions

abbrev pub trees : List Decision → Decisions
trees [] = no_tree
trees (t ∷ ts) = tree_then t (trees ts)
