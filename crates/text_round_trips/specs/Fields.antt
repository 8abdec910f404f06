-- What the texts of uses ask of the fields of states.
use Rattle.std.specs.Prelude.{◌≡◌, true, []}
use Rattle.spec_ir.specs.Specification.{Spec}
use Rattle.spec_declarations.specs.MachineRules.{are_state_fields}
use Rattle.domain_laws.specs.States.{has_states, state_types}
use Rattle.state_text.specs.Laws.{HasFields}

-- The fields of a specification's states tell uses: the counter comes first, names of fields are those of one field each, so are names of
-- keys those of one key, and no map type stands twice. So it is of each machine that was checked.
pub record HasUseTexts (spec : Spec) : Type 0 where
  pub states : has_states spec ≡ true
  pub fields : HasFields spec
  pub maps : are_state_fields [] (state_types spec) ≡ true
