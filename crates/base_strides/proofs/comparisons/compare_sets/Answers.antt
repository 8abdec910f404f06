use Rattle.std.proofs.Common.{ap₂, ◌∙◌}
use Rattle.base_kset.specs.Meaning.{compared as set_compared}
use Rattle.base_strides.specs.Ends.{compared_sets}
use Rattle.base_strides.proofs.comparisons.compare_sets.Goals as goal

pub returns : goal.returns
returns c =
    c.cmp.ensures.value ∙ ap₂ (set_compared c.args.c c.args.w) c.set.ensures c.set-2.ensures
    ∙ compared_sets c.args.c c.args.w c.args.x.now c.args.y.now c.requires.first c.requires.second
