use Rattle.std.specs.Prelude.{All}
use Rattle.abstract_value_laws.specs.Fits.{Fits}
use Rattle.domain_affine_base.specs.Meaning.{affine}
use Rattle.abstract_value.specs.View.{abs}
use Rattle.test_affine_text.proofs.changes.copies.Given as goal

abbrev pub invariant-loop-value : goal.invariant-loop-value
invariant-loop-value l = All (λ v. Fits affine l.ctx 256 (abs v)) l.out.items
