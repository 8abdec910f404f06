use Rattle.spec_ir.specs.Views.{specification}
use Rattle.test_analyses.proofs.bases.over.Goals as goal

pub new-requires-clause-states : goal.new-requires-clause-states
new-requires-clause-states g c =
    let s = c.args.subject.now in
    c.accepted_have_states.ensures (specification s.spec) s.machine c.requires.subject.accepted c.requires.subject.machine
