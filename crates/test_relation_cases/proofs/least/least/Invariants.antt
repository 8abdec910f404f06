use Rattle.test_relation_cases.proofs.least.least.Given as goal

abbrev pub invariant-loop-part : goal.invariant-loop-part
invariant-loop-part g l =
    (goal.iterator-loop-part g).can_next l.part-iterator ×
    (goal.iterator-loop-part g).is_finite l.part-iterator ×
    (g.D.Domain.elements l.domain).fits (g.D.Domain.view l.all)
