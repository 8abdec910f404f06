use Rattle.spec_ir.specs.Views.{specification}
use Rattle.test_relation_cases.proofs.analyses.over.Goals as goal

pub make_domain-requires-clause-states : goal.make_domain-requires-clause-states
make_domain-requires-clause-states g c =
    let s = c.args.subject.now in
    c.accepted_have_states.ensures (specification s.spec) s.machine c.requires.subject.accepted c.requires.subject.machine

pub analysed-requires-clause-joins : goal.analysed-requires-clause-joins
analysed-requires-clause-joins g c = g.met.D.NamedDomain.joins c.requires.may
