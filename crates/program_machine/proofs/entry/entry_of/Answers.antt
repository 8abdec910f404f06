use Rattle.std.proofs.Common.{List, ℕ, subst, rules}
use Rattle.spec_ir.specs.Views.{specification}
use Rattle.state_text.specs.Reading.{entry_of}
use Rattle.program_common.specs.Outcomes.{Gives}
use Rattle.program_common.specs.Reading.{Gave}
use Rattle.program_common.proofs.Steps.{first_stops, gives_next}
use Rattle.program_machine.specs.Entry.{entry_cap}
use Rattle.program_machine.specs.AnalysisEntry.{Enters}
use Rattle.program_machine.proofs.Problems.{gives_entry}
use Rattle.program_machine.proofs.entry.entry_of.Goals as goal

pub returns-in_err-text-clause-gives : goal.returns-in_err-text-clause-gives
returns-in_err-text-clause-gives g c =
    let gives = first_stops (Gave (g.I.Inputs.state c.args.inputs.now) (g.I.Inputs.state c.read_input.new.inputs) entry_cap c.args.name.now) (Enters (specification c.args.spec.now))
    c.in_err-text.field-0.0 c.in_err-text.ensures.gives in
    search (rules, gives)

pub returns-clause-gives : goal.returns-clause-gives
returns-clause-gives g c =
    let entered = subst (λ (text : List ℕ). Gives (Enters (specification c.args.spec.now) text) entry_of c.read_entry_text.result) c.deref.ensures.value c.read_entry_text.ensures in
    gives_next (Gave (g.I.Inputs.state c.args.inputs.now) (g.I.Inputs.state c.read_input.new.inputs) entry_cap c.args.name.now) (Enters (specification c.args.spec.now)) entry_of
    c.in_ok-text.text.items c.read_entry_text.result c.in_ok-text.ensures.gives entered

pub returns-clause-entry : goal.returns-clause-entry
returns-clause-entry g c = gives_entry (specification c.args.spec.now) c.deref.result.now c.read_entry_text.result c.read_entry_text.ensures
