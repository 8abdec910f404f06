use Rattle.std.proofs.Common.{sym, subst}
use Rattle.base_strides.specs.Ends.{span_ends}
use Rattle.base_strides.specs.Words.{IsEnds}
use Rattle.base_strides.proofs.joins.grow_spans.Goals as goal

pub widened-requires-clause-left : goal.widened-requires-clause-left
widened-requires-clause-left c = subst (IsEnds c.args.w) (sym c.span.ensures) (span_ends c.args.w c.args.old.now c.requires.left)

pub widened-requires-clause-right : goal.widened-requires-clause-right
widened-requires-clause-right c = subst (IsEnds c.args.w) (sym c.span-2.ensures) (span_ends c.args.w c.args.new.now c.requires.right)
