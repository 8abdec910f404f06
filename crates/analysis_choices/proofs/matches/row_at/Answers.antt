use Rattle.std.proofs.Common.{◌∙◌}
use Rattle.analysis_choices.proofs.Arms.{row_past, row_there}
use Rattle.analysis_choices.proofs.matches.row_at.Goals as goal

pub returns-then-number-arms : goal.returns-then-number-arms
returns-then-number-arms c = row_past c.args.arms.now c.args.case c.if-number-arms.true

pub returns : goal.returns
returns c = c.only_row.ensures ∙ row_there c.args.arms.now c.args.case c.index-arms-number.result c.if-number-arms.false c.index-arms-number.is
