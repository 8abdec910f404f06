-- A specification of which something is asked has states.
use Rattle.std.proofs.Common.{◌≡◌, true, Option, Some, None, refl}
use Rattle.std.specs.Prelude.{IsSome}
use Rattle.spec_ir.specs.declared.spec.Machine.{Machine}
use Rattle.spec_ir.specs.Specification.{Spec}
use Rattle.semantics_laws.specs.Accepted.{IsAccepted}
use Rattle.domain_laws.specs.States.{has_states}
use Rattle.analysis_problems.proofs.States.{accepted_have_states}
use Rattle.state_text.specs.Reading.{Entry}
use Rattle.program_domain_tasks.specs.Read.{IsMachine, IsRead}

-- a specification that has a machine has states
with_machine : (spec : Spec) → IsAccepted spec → (m : Option Machine) → spec.machine ≡ m → IsSome m → has_states spec ≡ true
with_machine spec accepted None e some = cc
with_machine spec accepted (Some m) e some = accepted_have_states spec m accepted e

pub machine_states : (spec : Spec) → IsMachine spec → has_states spec ≡ true
machine_states spec is = with_machine spec is.accepted spec.machine refl is.some

pub read_states : (spec : Spec) (m : Machine) (entry : Entry) → IsRead spec m entry → has_states spec ≡ true
read_states spec m entry is = accepted_have_states spec m is.accepted is.is_machine
