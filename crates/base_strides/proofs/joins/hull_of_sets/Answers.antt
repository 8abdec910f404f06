use Rattle.std.proofs.Common.{sym, subst, ap, ap₂, ◌∙◌}
use Rattle.base_kset.specs.Sets.{items_or_none}
use Rattle.base_strides.specs.Ends.{span_ends, union_ends}
use Rattle.base_strides.specs.Stretch.{hull_with}
use Rattle.base_strides.specs.Words.{IsEnds}
use Rattle.base_strides.proofs.joins.hull_of_sets.Goals as goal

pub hull_with-requires : goal.hull_with-requires
hull_with-requires c = (subst (IsEnds c.args.w) (sym c.span.ensures) (span_ends c.args.w c.args.x.now c.requires.left)).0

pub of_stretch-requires-clause-ends : goal.of_stretch-requires-clause-ends
of_stretch-requires-clause-ends c =
    subst (IsEnds c.args.w) (sym (c.hull_with.ensures.value ∙ ap₂ hull_with c.span.ensures (c.items.ensures.value ∙ ap items_or_none c.set.ensures)))
    (union_ends c.args.w c.args.x.now c.args.y.now c.requires.left c.requires.right c.requires.first c.requires.second)
