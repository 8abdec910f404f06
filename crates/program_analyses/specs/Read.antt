-- What was read.
use Rattle.std.specs.Prelude.{◌<◌, ◌^◌, IsSome, length}
use Rattle.semantics_laws.specs.Accepted.{IsAccepted}
use Rattle.domain_laws.specs.States.{state_type}
use Rattle.program_machine.specs.AnalysisEntry.{IsEntry}
use Rattle.program_machine.specs.Inputs.{AnalysisInputs}

-- The specification is accepted and has a machine, its states have fields with 32-bit numbers, and the entry was read from some text.
pub record IsPosed (p : AnalysisInputs) : Type 0 where
  pub accepted : IsAccepted p.spec
  pub some : IsSome p.spec.machine
  pub few : length (state_type p.spec).fields < 2 ^ 32
  pub entry : IsEntry p.spec p.entry
