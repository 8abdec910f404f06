-- The specification of the cases has states.
use Rattle.std.proofs.Common.{◌≡◌, ℕ, true, List, Option, Some, None, refl}
use Rattle.std.specs.Prelude.{Result, Ok, Err, IfOk, IsSome}
use Rattle.spec_ir.specs.declared.spec.Machine.{Machine as MachineNumbers}
use Rattle.spec_ir.specs.declared.spec.SpecUse.TheVariants.{Machine}
use Rattle.spec_ir.specs.declared.spec.Spec.{Spec as Checked}
use Rattle.spec_ir.specs.Views.{specification}
use Rattle.program_common.specs.declared.outcome.Halt.{Halt}
use Rattle.program_common.specs.Outcomes.{Gives}
use Rattle.program_common.specs.Sources.{Specifies}
use Rattle.program_machine.proofs.Giving.{gives_accepted, gives_machine}
use Rattle.domain_laws.specs.States.{has_states}
use Rattle.analysis_problems.proofs.States.{accepted_have_states}

pub given_states : (source : List ℕ) (result : Result Checked Halt) → Gives (Specifies Machine source) specification result → IfOk result (λ spec. has_states (specification spec) ≡ true)
given_states source (Err halt) p = tt
given_states source (Ok spec) p = with_machine (specification spec).machine refl (gives_machine source (Ok spec) p)
  where
    with_machine : (o : Option MachineNumbers) → (specification spec).machine ≡ o → IsSome o → has_states (specification spec) ≡ true
    with_machine None e some = cc
    with_machine (Some m) e some = accepted_have_states (specification spec) m (gives_accepted source (Ok spec) p) e
