use Rattle.std.proofs.Common.{refl, ◌∙◌}
use Rattle.spec_match_compiler.proofs.Grown.{numbered_grown, numbered_out}
use Rattle.spec_match_compiler.proofs.candidate.candidates.Goals as goal

pub loop-i-init : goal.loop-i-init
loop-i-init c = rw c.new-out.ensures.items refl

pub loop-i-preserved : goal.loop-i-preserved
loop-i-preserved c =
    numbered_grown c.loop-i.out.items c.push.new.self.items c.args.rows.now c.loop-i.i _ c.index-rows-i.result c.in_ok-push.ensures.items c.index-rows-i.is c.loop-i-test.true refl
    ∙ c.loop-i.invariant

pub returns : goal.returns
returns c = numbered_out _ c.loop-i.out.items c.args.rows.now c.loop-i.i c.loop-i-test.false c.loop-i.invariant
