use Rattle.std.proofs.Common.{◌∙◌, sym}
use Rattle.fixpoint_theory.specs.Views.{arriving}
use Rattle.fixpoint_case_leaves.proofs.Places.{at_before, at_later, at_same}
use Rattle.fixpoint_case_leaves.proofs.leaves.place_of.Goals as goal

pub returns-then-is_at-clause-place : goal.returns-then-is_at-clause-place
returns-then-is_at-clause-place g c x =
    at_same (g.A.SplitAnalyser.analysis c.args.analyser.now).elements (arriving g.A.SplitAnalyser.view) c.args.arrivals.now c.loop-i.i c.index-arrivals-i.result c.loop-i-test.true c.index-arrivals-i.is c.args.to x
    (c.loop-i.invariant x) (sym c.is_at.ensures ∙ c.if-is_at.true)

pub returns-then-is_behind-clause-place : goal.returns-then-is_behind-clause-place
returns-then-is_behind-clause-place g c x =
    at_before (g.A.SplitAnalyser.analysis c.args.analyser.now).elements (arriving g.A.SplitAnalyser.view) c.args.arrivals.now c.loop-i.i c.index-arrivals-i.result c.loop-i-test.true c.index-arrivals-i.is c.args.to x
    (c.loop-i.invariant x) (sym c.is_at.ensures ∙ c.if-is_at.false) (sym c.is_behind.ensures ∙ c.if-is_behind.true)

pub loop-i-preserved : goal.loop-i-preserved
loop-i-preserved g c x =
    at_later (g.A.SplitAnalyser.analysis c.args.analyser.now).elements (arriving g.A.SplitAnalyser.view) c.args.arrivals.now c.loop-i.i c.index-arrivals-i.result c.loop-i-test.true c.index-arrivals-i.is c.args.to x
    (c.loop-i.invariant x) (sym c.is_at.ensures ∙ c.if-is_at.false) (sym c.is_behind.ensures ∙ c.if-is_behind.false)
