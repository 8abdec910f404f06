use Rattle.std.specs.Prelude.{All}
use Rattle.abstract_value_laws.specs.Fits.{Fits}
use Rattle.abstract_value.specs.View.{abs}
use Rattle.test_value_text.proofs.values.fields.Given as goal

abbrev pub invariant-loop-part : goal.invariant-loop-part
invariant-loop-part g l =
    (goal.iterator-loop-part g).can_next l.part-iterator ×
    (goal.iterator-loop-part g).is_finite l.part-iterator ×
    All (λ v. Fits g.B.Base.algebra l.ctx g.B.Base.CAP (abs v)) l.out.items
