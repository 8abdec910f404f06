-- What holds of the texts of states.
use Rattle.std.specs.Prelude.{◌≡◌, ⊤, ℕ, true, List, [], ◌∷◌}
use Rattle.spec_ir.specs.Specification.{Spec}
use Rattle.semantics_values.specs.States.{State}
use Rattle.semantics_values.specs.Types.{keys_ascend}
use Rattle.semantics_values.specs.Values.{Val, map, vals}
use Rattle.state_text.specs.declared.stop.Stop.{Stop}
use Rattle.state_text.specs.Stops.{stopped_text}
use Rattle.concrete_calls.specs.Same.{AllSame}

-- the keys of a map ascend
abbrev pub KeysAscend : Val → Type 0
KeysAscend (map m rest cells) = keys_ascend 0 cells ≡ true
KeysAscend _ = ⊤

abbrev pub AllAscend : List Val → Type 0
AllAscend [] = ⊤
AllAscend (v ∷ vs) = KeysAscend v × AllAscend vs

-- The same counter and the same fields, however maps list their cells.
pub record IsSameState (s t : State) : Type 0 where
  pub counter : s.pc ≡ t.pc
  pub parts : AllSame (vals s.parts) (vals t.parts)

-- States that are the same have one text, where the keys of their maps ascend: a cell is printed only where it differs from the rest.
abbrev pub SameTexts : Type 0
SameTexts =
    (spec : Spec) (stop : Stop) (done : ℕ) (s t : State) → AllAscend s.parts → AllAscend t.parts → IsSameState s t
    → stopped_text spec stop done s ≡ stopped_text spec stop done t
