use Rattle.std.specs.Prelude.{All}
use Rattle.abstract_value_laws.specs.Fits.{Fits}
use Rattle.abstract_value.specs.View.{abs}
use Rattle.test_evaluator.proofs.arguments.values.Given as goal

abbrev pub invariant-loop-text : goal.invariant-loop-text
invariant-loop-text g l =
    (goal.iterator-loop-text g).can_next l.text-iterator ×
    (goal.iterator-loop-text g).is_finite l.text-iterator ×
    All (λ v. Fits g.B.Base.algebra l.ctx g.B.Base.CAP (abs v)) l.out.items
