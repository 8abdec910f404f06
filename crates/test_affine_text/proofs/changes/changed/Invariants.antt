use Rattle.std.specs.Prelude.{All}
use Rattle.abstract_value_laws.specs.Fits.{Fits}
use Rattle.domain_affine_base.specs.Meaning.{affine}
use Rattle.abstract_value.specs.View.{abs}
use Rattle.test_affine_text.proofs.changes.changed.Given as goal

abbrev pub invariant-loop-change : goal.invariant-loop-change
invariant-loop-change l =
    (goal.iterator-loop-change).can_next l.change-iterator × (goal.iterator-loop-change).is_finite l.change-iterator × All (λ v. Fits affine l.ctx 256 (abs v)) l.values.items
