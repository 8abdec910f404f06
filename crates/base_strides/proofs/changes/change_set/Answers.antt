use Rattle.std.proofs.Common.{ap, ◌∙◌}
use Rattle.base_kset.specs.Sets.{images}
use Rattle.base_strides.specs.Changes.{changed, changed_stretch, width_before}
use Rattle.base_strides.specs.Ends.{one_by_numbers}
use Rattle.base_strides.specs.Stretch.{one}
use Rattle.base_strides.specs.Views.{word_of}
use Rattle.base_strides.proofs.changes.change_set.Goals as goal

pub returns-clause-value : goal.returns-clause-value
returns-clause-value c =
    c.of_set.ensures ∙ ap (λ s. word_of s (one 0)) (c.in_ok-set.ensures.value ∙ ap (images 16 (changed c.args.change)) c.set.ensures)
    ∙ one_by_numbers (width_before c.args.change) (changed c.args.change) (changed_stretch c.args.change) c.args.x.now c.requires.word c.requires.listed
