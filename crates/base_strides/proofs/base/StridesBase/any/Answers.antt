use Rattle.std.proofs.Common.{◌≡◌, ◌-◌, ◌^◌, [], IfOk, ap, subst, ◌∙◌}
use Rattle.base_strides.specs.Instance.{word_laws}
use Rattle.base_strides.specs.Meaning.{of_stretch}
use Rattle.base_strides.specs.Stretch.{stretch}
use Rattle.base_strides.proofs.Fitting.{fits_of}
use Rattle.base_strides.proofs.base.StridesBase.any.Goals as goal

pub returns-clause-fits : goal.returns-clause-fits
returns-clause-fits c =
    fits_of c.args.w c.of_stretch.result (of_stretch (stretch 0 1 (2 ^ c.args.w - 1)))
    (subst (λ z. IfOk c.of_stretch.result (λ r. r ≡ z)) (ap (λ x. of_stretch x) (c.new.ensures.value ∙ ap (stretch 0 1) c.greatest.ensures)) c.of_stretch.ensures.value)
    (word_laws.any_fits [] c.args.w c.requires.width)
