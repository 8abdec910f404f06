use Rattle.std.proofs.Common.{sym, ◌∙◌}
use Rattle.base_trait.specs.Uses.{seen}
use Rattle.analysis_uses.proofs.Places.{at_before, at_later, at_same}
use Rattle.analysis_uses.proofs.merge.place_of.Goals as goal

pub returns-then-is_same_cell-clause-place : goal.returns-then-is_same_cell-clause-place
returns-then-is_same_cell-clause-place c =
    at_same (seen c.args.one.now) c.args.uses.now c.loop-i.i c.index-uses-i.result c.loop-i-test.true c.index-uses-i.is c.args.fields.now c.loop-i.invariant (sym c.is_same_cell.ensures ∙ c.if-is_same_cell.true)

pub returns-then-is_cell_before-clause-place : goal.returns-then-is_cell_before-clause-place
returns-then-is_cell_before-clause-place c =
    at_before (seen c.args.one.now) c.args.uses.now c.loop-i.i c.index-uses-i.result c.loop-i-test.true c.index-uses-i.is c.args.fields.now c.loop-i.invariant (sym c.is_same_cell.ensures ∙ c.if-is_same_cell.false)
    (sym c.is_cell_before.ensures ∙ c.if-is_cell_before.true)

pub loop-i-preserved : goal.loop-i-preserved
loop-i-preserved c =
    at_later (seen c.args.one.now) c.args.uses.now c.loop-i.i c.index-uses-i.result c.loop-i-test.true c.index-uses-i.is c.args.fields.now c.loop-i.invariant (sym c.is_same_cell.ensures ∙ c.if-is_same_cell.false)
    (sym c.is_cell_before.ensures ∙ c.if-is_cell_before.false)
