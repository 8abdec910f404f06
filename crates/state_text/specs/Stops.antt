-- Why a run stopped, as a line.
use Rattle.std.specs.Prelude.{ℕ, List, [], ◌∷◌, ◌++◌, codes}
use Rattle.std.specs.Fmt.{decimal}
use Rattle.spec_ir.specs.Specification.{Spec}
use Rattle.semantics_values.specs.States.{State}
use Rattle.state_cell_text.specs.Digits.{hex_digits}
use Rattle.state_text.specs.declared.stop.Stop.{Stop}
use Rattle.state_text.specs.declared.stop.Stop.TheVariants.{Bound, Left, Undecodable, Turns}
use Rattle.state_text.specs.Writing.{state_text}

-- the name of a stop
abbrev pub stop_name : Stop → List ℕ
stop_name Bound = codes "bound"
stop_name Left = codes "left"
stop_name (Undecodable at word) = codes "undecodable"
stop_name (Turns at) = codes "calls"

-- an address or a word, in hex digits
unfoldable pub word_digits : ℕ → List ℕ
word_digits v = hex_digits 8 v

-- where it is, and what stands there
abbrev pub stop_place : Stop → List ℕ
stop_place Bound = []
stop_place Left = []
stop_place (Undecodable at word) = codes " at " ++ (word_digits at ++ (codes " word " ++ word_digits word))
stop_place (Turns at) = codes " at " ++ word_digits at

-- the line of a stop after so many steps
abbrev pub stop_line : Stop → ℕ → List ℕ
stop_line stop done = codes "# stop " ++ (stop_name stop ++ (codes " steps " ++ (decimal done ++ (stop_place stop ++ (10 ∷ [])))))

-- a stop, and the state there
abbrev pub stopped_text : Spec → Stop → ℕ → State → List ℕ
stopped_text spec stop done s = stop_line stop done ++ state_text spec s
