-- The specification of a library is accepted.
use Rattle.std.proofs.Common.{ℕ, List, length}
use Rattle.std.specs.Prelude.{Result, Ok, Err, IfOk}
use Rattle.spec_ir.specs.declared.spec.SpecUse.TheVariants.{Library}
use Rattle.spec_ir.specs.declared.spec.Spec.{Spec as Checked}
use Rattle.spec_ir.specs.Views.{specification}
use Rattle.semantics_laws.specs.Accepted.{IsAccepted}
use Rattle.semantics_accepted.proofs.Accepted.{checked_are_accepted}
use Rattle.program_common.specs.declared.outcome.Halt.{Halt}
use Rattle.program_common.specs.Outcomes.{Gives}
use Rattle.program_common.specs.Sources.{Specifies}

pub given_accepted : (source : List ℕ) (result : Result Checked Halt) → Gives (Specifies Library source) specification result → IfOk result (λ spec. IsAccepted (specification spec))
given_accepted source (Err halt) p = tt
given_accepted source (Ok spec) p = checked_are_accepted Library p.tree (specification spec) (p.parsed.tokens, length source, p.parsed.parsed) p.faultless p.checked
