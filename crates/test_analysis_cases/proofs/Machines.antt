-- The specification of the cases is accepted, and has few fields.
use Rattle.std.proofs.Common.{ℕ, ◌<◌, List, length}
use Rattle.std.specs.Prelude.{◌^◌, Result, Ok, Err, IfOk}
use Rattle.spec_ir.specs.declared.spec.SpecUse.TheVariants.{Machine}
use Rattle.spec_ir.specs.declared.spec.Spec.{Spec as Checked}
use Rattle.spec_ir.specs.Views.{specification}
use Rattle.semantics_laws.specs.Accepted.{IsAccepted}
use Rattle.semantics_accepted.proofs.Accepted.{checked_are_accepted}
use Rattle.program_common.specs.declared.outcome.Halt.{Halt}
use Rattle.program_common.specs.Outcomes.{Gives}
use Rattle.program_common.specs.Sources.{Specifies}
use Rattle.domain_laws.specs.States.{state_type}
use Rattle.analysis_problems.proofs.CheckedStates.{fields_have_numbers}

pub given_accepted : (source : List ℕ) (result : Result Checked Halt) → Gives (Specifies Machine source) specification result → IfOk result (λ spec. IsAccepted (specification spec))
given_accepted source (Err halt) p = tt
given_accepted source (Ok spec) p = checked_are_accepted Machine p.tree (specification spec) (p.parsed.tokens, length source, p.parsed.parsed) p.faultless p.checked

pub given_few : (source : List ℕ) (result : Result Checked Halt) → Gives (Specifies Machine source) specification result → IfOk result (λ spec. length (state_type (specification spec)).fields < 2 ^ 32)
given_few source (Err halt) p = tt
given_few source (Ok spec) p = fields_have_numbers Machine p.tree (specification spec) p.faultless p.checked
