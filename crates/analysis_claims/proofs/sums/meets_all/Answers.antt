use Rattle.std.proofs.Common.{◌∙◌, sym}
use Rattle.analysis_claims.proofs.Columns.{row_fails, row_meets}
use Rattle.analysis_claims.proofs.sums.meets_all.Goals as goal

pub returns-then-not-is_zero : goal.returns-then-not-is_zero
returns-then-not-is_zero c = row_fails c.args.form.now c.args.rows.now.rows c.loop-i.i c.row.result.now c.row.ensures.item (sym c.is_zero.ensures ∙ c.if-not-is_zero.true) c.loop-i.invariant

pub loop-i-preserved : goal.loop-i-preserved
loop-i-preserved c = row_meets c.args.form.now c.args.rows.now.rows c.loop-i.i c.row.result.now c.row.ensures.item (sym c.is_zero.ensures ∙ c.if-not-is_zero.false) c.loop-i.invariant
