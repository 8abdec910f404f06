-- What is known of what is asked.
use Rattle.std.proofs.Common.{◌≡◌, ◌<◌, ◌^◌, true, length}
use Rattle.spec_ir.specs.Specification.{Spec}
use Rattle.domain_laws.specs.States.{has_states, state_type}
use Rattle.state_text.specs.Reading.{entry_of}
use Rattle.program_domain_tasks.specs.Read.{IsAsked}
use Rattle.program_domain_tasks.specs.declared.task.DomainTask.{DomainTask}
use Rattle.program_domain_tasks.specs.declared.task.DomainTask.TheVariants.{Analyse, AnalyseOpen, Check, CheckOpen, Claims, ClaimsOpen, Convert, Measure, Slice, SliceOpen}
use Rattle.program_domain_tasks.proofs.Asked.{machine_states, read_states}

pub asked_states : (spec : Spec) (task : DomainTask) → IsAsked spec task → has_states spec ≡ true
asked_states spec (Analyse start) is = read_states spec start.machine (entry_of start.entry.now) is
asked_states spec (AnalyseOpen start) is = read_states spec start.machine (entry_of start.entry.now) is
asked_states spec (Measure start) is = read_states spec start.machine (entry_of start.entry.now) is
asked_states spec (Check start table) is = read_states spec start.machine (entry_of start.entry.now) is.0
asked_states spec (CheckOpen start table) is = read_states spec start.machine (entry_of start.entry.now) is.0
asked_states spec (Convert table) is = machine_states spec is.0
asked_states spec (Slice start table criterion) is = read_states spec start.machine (entry_of start.entry.now) is.0
asked_states spec (SliceOpen start table criterion) is = read_states spec start.machine (entry_of start.entry.now) is.0
asked_states spec (Claims start table claims) is = read_states spec start.machine (entry_of start.entry.now) is.0
asked_states spec (ClaimsOpen start table claims) is = read_states spec start.machine (entry_of start.entry.now) is.0

pub asked_few : (spec : Spec) (task : DomainTask) → IsAsked spec task → length (state_type spec).fields < 2 ^ 32
asked_few spec (Analyse start) is = is.few
asked_few spec (AnalyseOpen start) is = is.few
asked_few spec (Measure start) is = is.few
asked_few spec (Check start table) is = is.0.few
asked_few spec (CheckOpen start table) is = is.0.few
asked_few spec (Convert table) is = is.0.few
asked_few spec (Slice start table criterion) is = is.0.few
asked_few spec (SliceOpen start table criterion) is = is.0.few
asked_few spec (Claims start table claims) is = is.0.few
asked_few spec (ClaimsOpen start table claims) is = is.0.few
