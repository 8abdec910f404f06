use Rattle.std.proofs.Common.{◌≡◌, [], IfOk, ap, subst}
use Rattle.base_strides.specs.Instance.{word_laws}
use Rattle.base_strides.specs.Meaning.{of_stretch}
use Rattle.base_strides.specs.Stretch.{stretch}
use Rattle.base_strides.proofs.Fitting.{fits_of}
use Rattle.base_strides.proofs.base.StridesBase.range.Goals as goal

pub returns-clause-fits : goal.returns-clause-fits
returns-clause-fits c =
    fits_of c.args.w c.of_stretch.result (of_stretch (stretch c.args.low 1 c.args.high))
    (subst (λ z. IfOk c.of_stretch.result (λ r. r ≡ z)) (ap (λ x. of_stretch x) c.new.ensures.value) c.of_stretch.ensures.value)
    (word_laws.range_fits [] c.args.w c.args.low c.args.high c.requires.width c.requires.order c.requires.number)
