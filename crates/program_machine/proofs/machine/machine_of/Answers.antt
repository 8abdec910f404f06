use Rattle.std.proofs.Common.{List, ℕ, subst, rules}
use Rattle.spec_ir.specs.declared.spec.SpecUse.TheVariants.{Machine}
use Rattle.spec_ir.specs.Views.{specification}
use Rattle.support_command_line.specs.Views.{spec_of}
use Rattle.program_common.specs.Outcomes.{Gives}
use Rattle.program_common.specs.Reading.{Gave}
use Rattle.program_common.specs.Sources.{SourceOf, Specifies}
use Rattle.program_common.proofs.Steps.{first_stops, gives_next}
use Rattle.program_machine.proofs.Giving.{gives_accepted, gives_machine}
use Rattle.program_machine.proofs.machine.machine_of.Goals as goal

pub returns-in_err-source-clause-gives : goal.returns-in_err-source-clause-gives
returns-in_err-source-clause-gives g c =
    let gives = first_stops (SourceOf (Gave (g.I.Inputs.state c.args.inputs.now) (g.I.Inputs.state c.source_of.new.inputs)) (spec_of c.args.name)) (Specifies Machine) c.in_err-source.field-0.0 c.in_err-source.ensures.gives in
    search (rules, gives)

pub returns-clause-gives : goal.returns-clause-gives
returns-clause-gives g c =
    let specified = subst (λ (s : List ℕ). Gives (Specifies Machine s) specification c.specification_of.result) c.deref.ensures.value c.specification_of.ensures in
    gives_next (SourceOf (Gave (g.I.Inputs.state c.args.inputs.now) (g.I.Inputs.state c.source_of.new.inputs)) (spec_of c.args.name)) (Specifies Machine) specification c.in_ok-source.source.items c.specification_of.result
    c.in_ok-source.ensures.gives specified

pub returns-clause-accepted : goal.returns-clause-accepted
returns-clause-accepted g c = gives_accepted c.deref.result.now c.specification_of.result c.specification_of.ensures

pub returns-clause-machine : goal.returns-clause-machine
returns-clause-machine g c = gives_machine c.deref.result.now c.specification_of.result c.specification_of.ensures
