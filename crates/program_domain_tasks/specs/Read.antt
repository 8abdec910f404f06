-- What is asked of a domain, as it was read, and what the code's analyses come to.
use Rattle.std.specs.Prelude.{◌≡◌, ℕ, ◌<◌, ◌-◌, ◌^◌, IsSome, List, length, Some}
use Rattle.std.specs.String.{string_bytes}
use Rattle.spec_ir.specs.declared.spec.Machine.{Machine}
use Rattle.spec_ir.specs.Specification.{Spec}
use Rattle.semantics_laws.specs.Accepted.{IsAccepted}
use Rattle.state_text.specs.Reading.{Entry, entry_of}
use Rattle.domain_laws.specs.States.{state_type}
use Rattle.code_image.specs.Image.{Image}
use Rattle.analysis_problems.specs.Problems.{problem_of}
use Rattle.analysis_transfer_laws.specs.Problem.{Problem}
use Rattle.program_domains.specs.Tasks as asked
use Rattle.program_machine.specs.AnalysisEntry.{IsEntry}
use Rattle.fixpoint_worklist.specs.declared.report.AnalyseError.{AnalyseError}
use Rattle.fixpoint_worklist.specs.declared.report.AnalyseError.TheVariants as stop
use Rattle.program_common.specs.Outcome.{Answer, text}
use Rattle.program_common.specs.declared.outcome.Halt.{Halt}
use Rattle.program_common.specs.declared.outcome.Halt.TheVariants.{NoMemory, Refused}
use Rattle.program_common.specs.declared.outcome.Refusal.TheVariants.{UndecodableAt, TooManyTargets}
use Rattle.program_domain_tasks.specs.declared.task.AnalysisStart.{AnalysisStart}
use Rattle.program_domain_tasks.specs.declared.task.DomainTask.{DomainTask}
use Rattle.program_domain_tasks.specs.declared.task.DomainTask.TheVariants.{Analyse, AnalyseOpen, Check, CheckOpen, Claims, ClaimsOpen, Convert, Measure, Slice, SliceOpen}

-- The specification is accepted, this is its machine, its states have fields with 32-bit numbers, and the entry was read from some text.
pub record IsRead (spec : Spec) (machine : Machine) (entry : Entry) : Type 0 where
  pub accepted : IsAccepted spec
  pub is_machine : spec.machine ≡ Some machine
  pub few : length (state_type spec).fields < 2 ^ 32
  pub given : IsEntry spec entry

-- The specification is accepted and has a machine, and its states have fields with 32-bit numbers.
pub record IsMachine (spec : Spec) : Type 0 where
  pub accepted : IsAccepted spec
  pub some : IsSome spec.machine
  pub few : length (state_type spec).fields < 2 ^ 32

-- ---- what is asked

abbrev pub problem_at : Spec → Image → AnalysisStart → Problem
problem_at spec image start = problem_of spec start.machine image (entry_of start.entry.now) start.limit start.joins start.cases

abbrev pub task_of : Spec → Image → DomainTask → asked.Task
task_of spec image (Analyse start) = asked.analyse (problem_at spec image start)
task_of spec image (AnalyseOpen start) = asked.analyse_open (problem_at spec image start)
task_of spec image (Measure start) = asked.measure (problem_at spec image start)
task_of spec image (Check start table) = asked.check (problem_at spec image start) table.now
task_of spec image (CheckOpen start table) = asked.check_open (problem_at spec image start) table.now
task_of spec image (Convert table) = asked.convert spec table.now
task_of spec image (Slice start table criterion) = asked.slice (problem_at spec image start) table.now criterion.at criterion.cell
task_of spec image (SliceOpen start table criterion) = asked.slice_open (problem_at spec image start) table.now criterion.at criterion.cell
task_of spec image (Claims start table claims) = asked.claims (problem_at spec image start) table.now claims.now
task_of spec image (ClaimsOpen start table claims) = asked.claims_open (problem_at spec image start) table.now claims.now

-- what was read is so, and texts are not too long
abbrev pub IsAsked : Spec → DomainTask → Type 0
IsAsked spec (Analyse start) = IsRead spec start.machine (entry_of start.entry.now)
IsAsked spec (AnalyseOpen start) = IsRead spec start.machine (entry_of start.entry.now)
IsAsked spec (Measure start) = IsRead spec start.machine (entry_of start.entry.now)
IsAsked spec (Check start table) = IsRead spec start.machine (entry_of start.entry.now) × (length table.now < 2 ^ 32)
IsAsked spec (CheckOpen start table) = IsRead spec start.machine (entry_of start.entry.now) × (length table.now < 2 ^ 32)
IsAsked spec (Convert table) = IsMachine spec × (length table.now < 2 ^ 32)
IsAsked spec (Slice start table criterion) = IsRead spec start.machine (entry_of start.entry.now) × (length table.now < 2 ^ 32)
IsAsked spec (SliceOpen start table criterion) = IsRead spec start.machine (entry_of start.entry.now) × (length table.now < 2 ^ 32)
IsAsked spec (Claims start table claims) = IsRead spec start.machine (entry_of start.entry.now) × (length table.now < 2 ^ 32) × (length claims.now < 2 ^ 32 - 1)
IsAsked spec (ClaimsOpen start table claims) = IsRead spec start.machine (entry_of start.entry.now) × (length table.now < 2 ^ 32) × (length claims.now < 2 ^ 32 - 1)

-- ---- what is answered

-- The answer is a text of this kind.
abbrev pub IsTextOf : (List ℕ → Type 0) → Answer → Type 0
IsTextOf Is (text bytes) = Is bytes
IsTextOf Is _ = ⊥

-- The analysis that stopped so is refused so, where memory lasts; the counter's word has this text.
abbrev pub Refuses : {W : Type 0} → (ℕ → W → List ℕ) → AnalyseError W → Halt → Type 0
Refuses word_text (stop.Undecodable at word trace) halt = halt ≡ Refused (UndecodableAt at word)
Refuses word_text (stop.TooManyTargets at shown trace) (Refused (TooManyTargets a s)) = (a ≡ at) × (string_bytes s ≡ word_text 32 shown)
Refuses word_text (stop.TooManyTargets at shown trace) NoMemory = Unit {0}
Refuses word_text (stop.TooManyTargets at shown trace) _ = ⊥
Refuses word_text stop.NoMemory halt = halt ≡ NoMemory
