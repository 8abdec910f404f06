use Rattle.std.proofs.Common.{sym, subst, ap₂, ◌∙◌}
use Rattle.base_strides.specs.Ends.{join_ends, span_ends}
use Rattle.base_strides.specs.Stretch.{hull_of}
use Rattle.base_strides.specs.Words.{IsEnds}
use Rattle.base_strides.proofs.joins.join_spans.Goals as goal

pub hull-requires-clause-left : goal.hull-requires-clause-left
hull-requires-clause-left c = (subst (IsEnds c.args.w) (sym c.span.ensures) (span_ends c.args.w c.args.x.now c.requires.left)).0

pub hull-requires-clause-right : goal.hull-requires-clause-right
hull-requires-clause-right c = (subst (IsEnds c.args.w) (sym c.span-2.ensures) (span_ends c.args.w c.args.y.now c.requires.right)).0

pub of_stretch-requires-clause-ends : goal.of_stretch-requires-clause-ends
of_stretch-requires-clause-ends c =
    subst (IsEnds c.args.w) (sym (c.hull.ensures.value ∙ ap₂ hull_of c.span.ensures c.span-2.ensures))
    (join_ends c.args.w c.args.x.now c.args.y.now c.requires.left c.requires.right)
