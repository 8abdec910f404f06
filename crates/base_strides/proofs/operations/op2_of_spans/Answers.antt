use Rattle.std.proofs.Common.{sym, subst, ap₂, ◌∙◌}
use Rattle.base_strides.specs.Ends.{span_ends, row_ends}
use Rattle.base_strides.specs.Rows.{op2_row}
use Rattle.base_strides.specs.Words.{IsEnds}
use Rattle.base_strides.proofs.operations.op2_of_spans.Goals as goal

pub op2-requires-clause-left : goal.op2-requires-clause-left
op2-requires-clause-left c = subst (IsEnds c.args.w) (sym c.span.ensures) (span_ends c.args.w c.args.x.now c.requires.left)

pub op2-requires-clause-right : goal.op2-requires-clause-right
op2-requires-clause-right c = subst (IsEnds c.args.w) (sym c.span-2.ensures) (span_ends c.args.w c.args.y.now c.requires.right)

pub of_stretch-requires-clause-ends : goal.of_stretch-requires-clause-ends
of_stretch-requires-clause-ends c =
    subst (IsEnds c.args.w) (sym (c.in_ok-r.ensures.value ∙ ap₂ (op2_row c.args.op c.args.w) c.span.ensures c.span-2.ensures))
    (row_ends c.args.op c.args.w c.args.x.now c.args.y.now c.requires.width c.requires.left c.requires.right)
