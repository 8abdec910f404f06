use Rattle.support_command_line.specs.Views.{analyse_of}
use Rattle.program_machine.specs.Views.{analysis_inputs_of}
use Rattle.program_analyses.proofs.Asked.{gives_claims, takes_claims}
use Rattle.program_analyses.proofs.claims.answers_of.Goals as goal

pub returns-clause-gives : goal.returns-clause-gives
returns-clause-gives g c =
    let posed = analysis_inputs_of c.args.posed.now in
    gives_claims (analyse_of c.args.asked.now) posed c.in-Some.machine c.in-Some.is c.args.table.now c.args.claims.now _ (c.claims_from.ensures.task posed.spec posed.image)
    c.over_base.result c.over_base.ensures.gives

pub returns-clause-work : goal.returns-clause-work
returns-clause-work g c =
    let posed = analysis_inputs_of c.args.posed.now in
    takes_claims (analyse_of c.args.asked.now) posed c.in-Some.machine c.in-Some.is c.args.table.now c.args.claims.now _ (c.claims_from.ensures.task posed.spec posed.image)
    c.args.steps.now c.over_base.new.steps c.over_base.ensures.work

pub over_base-requires : goal.over_base-requires
over_base-requires g c =
    c.claims_from.ensures.asked (analysis_inputs_of c.args.posed.now).spec (record { accepted = c.requires.posed.accepted; is_machine = c.in-Some.is; few = c.requires.posed.few; given = c.requires.posed.entry })
