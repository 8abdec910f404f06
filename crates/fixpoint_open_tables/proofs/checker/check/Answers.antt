use Rattle.fixpoint_theory.specs.Views.{listings}
use Rattle.fixpoint_open_tables.specs.Endings.{ends_in}
use Rattle.fixpoint_open_tables.proofs.Soundness.{open_tables_are_sound}
use Rattle.fixpoint_open_tables.proofs.Verdicts.{accepted_are_closed_but_open, not_shut, settled}
use Rattle.fixpoint_open_tables.proofs.checker.check.Goals as goal

pub endings_of-requires-clause-closed : goal.endings_of-requires-clause-closed
endings_of-requires-clause-closed g c shut = c.in_ok-verdict.ensures.accepted.0 (c.is_accepted.ensures.0 (not_shut c.is_accepted.result shut))

pub returns-clause-value : goal.returns-clause-value
returns-clause-value g c =
    settled (g.A.Analyser.analysis c.args.analyser.now) (listings g.A.Analyser.view c.args.table.now) (ends_in c.args.endings.now) (ends_in c.in_ok-own.own) c.in_ok-own.ensures.value
    c.first_apart.result c.in_ok-verdict.verdict c.settle.result c.in_ok-verdict.ensures.value c.first_apart.ensures.none c.first_apart.ensures.apart c.first_apart.ensures.least c.settle.ensures.none c.settle.ensures.some

pub returns-clause-accepted : goal.returns-clause-accepted
returns-clause-accepted g c =
    accepted_are_closed_but_open (g.A.Analyser.analysis c.args.analyser.now) (g.met.A.Analyser.laws c.args.analyser.now c.requires.ready)
    (listings g.A.Analyser.view c.args.table.now) (ends_in c.args.endings.now) c.settle.result c.requires.table (returns-clause-value g c)

pub returns-clause-sound : goal.returns-clause-sound
returns-clause-sound g c same =
    let ready = c.requires.ready in
    open_tables_are_sound (g.A.Analyser.analysis c.args.analyser.now) (g.A.Analyser.machine c.args.analyser.now) (g.met.A.Analyser.laws c.args.analyser.now ready) (g.met.A.Described.sound c.args.analyser.now ready)
    (listings g.A.Analyser.view c.args.table.now) (ends_in c.args.endings.now) c.requires.table ((returns-clause-accepted g c).0 same)
