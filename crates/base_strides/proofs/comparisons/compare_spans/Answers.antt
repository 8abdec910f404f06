use Rattle.std.proofs.Common.{sym, subst}
use Rattle.base_strides.specs.Ends.{span_ends}
use Rattle.base_strides.specs.Words.{IsEnds}
use Rattle.base_strides.proofs.comparisons.compare_spans.Goals as goal

pub compare-requires-clause-left : goal.compare-requires-clause-left
compare-requires-clause-left c = subst (IsEnds c.args.w) (sym c.span.ensures) (span_ends c.args.w c.args.x.now c.requires.left)

pub compare-requires-clause-right : goal.compare-requires-clause-right
compare-requires-clause-right c = subst (IsEnds c.args.w) (sym c.span-2.ensures) (span_ends c.args.w c.args.y.now c.requires.right)
