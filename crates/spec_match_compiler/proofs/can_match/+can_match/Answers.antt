use Rattle.std.proofs.Common.{sym, ◌∙◌, arith, refl}
use Rattle.spec_match_compiler.proofs.Loops.{can_match_end}
use Rattle.spec_match_compiler.proofs.Grown.{can_match_next, can_match_stops}
use Rattle.spec_match_compiler.proofs.can_match.+can_match.Goals as goal

pub all_can_match-returns : goal.all_can_match-returns
all_can_match-returns t c =
    sym (can_match_end c.args.patterns.now c.args.fields.now c.loop-i.i (omega arith)) ∙ c.loop-i.invariant

pub all_can_match-loop-i-init : goal.all_can_match-loop-i-init
all_can_match-loop-i-init t c = refl

pub all_can_match-loop-i-preserved : goal.all_can_match-loop-i-preserved
all_can_match-loop-i-preserved t c =
    sym (can_match_next c.args.patterns.now c.args.fields.now c.loop-i.i c.index-patterns-i.result c.index-fields-i.result c.index-patterns-i.is c.index-fields-i.is (omega arith) (omega arith) (sym c.can_match.ensures ∙ c.if-not-can_match.false))
    ∙ c.loop-i.invariant

pub all_can_match-returns-then-not-can_match : goal.all_can_match-returns-then-not-can_match
all_can_match-returns-then-not-can_match t c =
    sym (can_match_stops c.args.patterns.now c.args.fields.now c.loop-i.i c.index-patterns-i.result c.index-fields-i.result c.index-patterns-i.is c.index-fields-i.is (omega arith) (omega arith) (sym c.can_match.ensures ∙ c.if-not-can_match.true))
    ∙ c.loop-i.invariant
