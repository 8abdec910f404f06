-- The arm that a match on the instruction or on the state takes, and what its variables are.
use Rattle.std.specs.Prelude.{ℕ, zero, suc, List, [], ◌∷◌, map, Option, Some, None, option_map, slice_get}
use Rattle.spec_match_compiler.specs.Decisions.{Decision, Decisions, row, on_case, no_tree, tree_then}
use Rattle.spec_match_compiler.specs.Values.{Place}
use Rattle.semantics_values.specs.Values as v
use Rattle.semantics_values.specs.Values.{Val, val_list}
use Rattle.analysis_choices.specs.declared.symbol.Symbol.{Symbol}
use Rattle.analysis_choices.specs.declared.symbol.Symbol.TheVariants.{Other, Instruction, State, Number, Field}

-- a row with what its variables name
abbrev pub Chosen : Type 0
Chosen = Option (ℕ × List (ℕ × Place))

abbrev pub only_row : Decision → Chosen
only_row (row r binds) = Some (r, binds)
only_row _ = None

abbrev pub row_at : ℕ → Decisions → Chosen
row_at k no_tree = None
row_at zero (tree_then d ds) = only_row d
row_at (suc k) (tree_then d ds) = row_at k ds

-- where nothing is asked of a part
abbrev pub arm_row : ℕ → Place → Decisions → Chosen
arm_row k [] arms = row_at k arms
arm_row k (step ∷ at) arms = None

-- the row of a constructor, where nothing else is asked
abbrev pub row_of : ℕ → Decision → Chosen
row_of k (row r binds) = Some (r, binds)
row_of k (on_case at arms) = arm_row k at arms
row_of k _ = None

-- what a field of the instruction is
abbrev pub part_symbol : Option Val → Symbol
part_symbol (Some (v.word w n)) = Number n
part_symbol _ = Other

abbrev pub field_symbol : ℕ → Symbol
field_symbol zero = Other
field_symbol (suc n) = Field (suc n)

-- what stands at a place of the instruction, of which these are the parts, and of the state, whose counter is field 0
abbrev pub in_instruction : List Val → Place → Symbol
in_instruction parts [] = Instruction
in_instruction parts (step ∷ []) = part_symbol (slice_get parts step.1)
in_instruction parts _ = Other

abbrev pub in_state : Place → Symbol
in_state [] = State
in_state (step ∷ []) = field_symbol step.1
in_state _ = Other

abbrev pub named : (Place → Symbol) → ℕ × List (ℕ × Place) → ℕ × List Symbol
named at r = (r.0, map (λ b. at b.1) r.1)

-- The row that is taken with its variables, where what is matched is the instruction or the state.
abbrev pub arm_of : Val → Symbol → Decision → Option (ℕ × List Symbol)
arm_of (v.made ty k parts) Instruction by = option_map (named (in_instruction (val_list parts))) (row_of k by)
arm_of instruction State by = option_map (named in_state) (row_of 0 by)
arm_of _ _ by = None
