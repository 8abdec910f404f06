-- The element of an entry: the word of a tracked cell is a constant, or any.
use Rattle.std.specs.Prelude.{ℕ, ◌+◌, List, [], ◌∷◌}
use Rattle.support_modular_rows.specs.Submodule.{Submodule, unit_row}
use Rattle.domain_affine_base.specs.declared.word.Word.{Word}
use Rattle.domain_affine_element_laws.specs.Closed.{closed_of}

-- all cells are 0
abbrev pub start_of : ℕ → Submodule
start_of k = record { k = k; rows = unit_row (k + 1) 0 ∷ [] }

abbrev pub entry_of : ℕ → List Word → Submodule
entry_of k words = closed_of k words (start_of k)
