use Rattle.support_command_line.specs.Views.{analyse_of}
use Rattle.program_machine.specs.Views.{slice_inputs_of}
use Rattle.program_analyses.proofs.Asked.{gives_slice, takes_slice}
use Rattle.program_analyses.proofs.slice.slice_over.Goals as goal

pub returns-clause-gives : goal.returns-clause-gives
returns-clause-gives g c =
    let sought = slice_inputs_of c.args.sought.now in
    gives_slice (analyse_of c.args.asked.now) sought c.in-Some.machine c.in-Some.is c.args.table.now c.args.at _ (c.slice_from.ensures.task sought.posed.spec sought.posed.image)
    c.over_base.result c.over_base.ensures.gives

pub returns-clause-work : goal.returns-clause-work
returns-clause-work g c =
    let sought = slice_inputs_of c.args.sought.now in
    takes_slice (analyse_of c.args.asked.now) sought c.in-Some.machine c.in-Some.is c.args.table.now c.args.at _ (c.slice_from.ensures.task sought.posed.spec sought.posed.image)
    c.args.steps.now c.over_base.new.steps c.over_base.ensures.work

pub over_base-requires : goal.over_base-requires
over_base-requires g c =
    c.slice_from.ensures.asked (slice_inputs_of c.args.sought.now).posed.spec (record { accepted = c.requires.posed.accepted; is_machine = c.in-Some.is; few = c.requires.posed.few; given = c.requires.posed.entry })
