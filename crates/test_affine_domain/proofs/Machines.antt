-- The specification of the cases has states, with few fields.
use Rattle.std.proofs.Common.{◌≡◌, ℕ, ◌<◌, ◌∙◌, true, List, length}
use Rattle.std.specs.Prelude.{◌^◌, Result, Ok, Err, IfOk}
use Rattle.spec_ir.specs.declared.spec.SpecUse.TheVariants.{Machine}
use Rattle.spec_ir.specs.declared.spec.Spec.{Spec as Checked}
use Rattle.spec_ir.specs.Views.{specification}
use Rattle.spec_declarations.proofs.States.{machines_are_there}
use Rattle.semantics_accepted.proofs.Accepted.{checked_are_accepted}
use Rattle.program_common.specs.declared.outcome.Halt.{Halt}
use Rattle.program_common.specs.Outcomes.{Gives}
use Rattle.program_common.specs.Sources.{Specifies}
use Rattle.domain_laws.specs.States.{has_states, state_type}
use Rattle.analysis_problems.proofs.States.{accepted_have_states}
use Rattle.analysis_problems.proofs.CheckedStates.{fields_have_numbers}

pub given_states : (source : List ℕ) (result : Result Checked Halt) → Gives (Specifies Machine source) specification result → IfOk result (λ spec. has_states (specification spec) ≡ true)
given_states source (Err halt) p = tt
given_states source (Ok spec) p =
    let there = machines_are_there p.tree p.faultless.1.1.0 in
    let accepted = checked_are_accepted Machine p.tree (specification spec) (p.parsed.tokens, length source, p.parsed.parsed) p.faultless p.checked in
    accepted_have_states (specification spec) there.0 accepted (p.checked.machine ∙ there.1)

pub given_few : (source : List ℕ) (result : Result Checked Halt) → Gives (Specifies Machine source) specification result → IfOk result (λ spec. length (state_type (specification spec)).fields < 2 ^ 32)
given_few source (Err halt) p = tt
given_few source (Ok spec) p = fields_have_numbers Machine p.tree (specification spec) p.faultless p.checked
