use Rattle.std.proofs.Common.{◌∙◌, ap, drop, length}
use Rattle.analysis_claims.proofs.Forms.{column_within, form_many}
use Rattle.analysis_claims.proofs.answering.form_of.Goals as goal

pub add_multiple-requires : goal.add_multiple-requires
add_multiple-requires g c =
    let cells = (g.D.ClaimElement.telling c.args.domain.now).tracked in
    column_within cells _ _ c.loop-left.form c.tracked.result c.tracked.ensures (ap length c.loop-left.invariant.form ∙ form_many cells c.args.c (drop c.loop-left.left c.args.parts.now))
