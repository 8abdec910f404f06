use Rattle.std.proofs.Common.{refl, ◌∙◌}
use Rattle.spec_match_compiler.proofs.Grown.{made_grown, made_out}
use Rattle.spec_match_compiler.proofs.outcomes.made_known.Goals as goal

pub loop-i-init : goal.loop-i-init
loop-i-init c = rw c.new-out.ensures.items refl

pub loop-i-preserved : goal.loop-i-preserved
loop-i-preserved c =
    let fields = c.index-cases-i.result in
    let same = rw c.deref.ensures.value at c.in_ok-unknown_fields.ensures in
    made_grown c.loop-i.out.items c.push.new.self.items c.args.cases.now c.loop-i.i fields c.in_ok-unknown_fields.field-0 c.in_ok-push.ensures.items c.index-cases-i.is c.loop-i-test.true same
    ∙ c.loop-i.invariant

pub returns : goal.returns
returns c = made_out _ _ c.args.cases.now c.loop-i.i c.loop-i-test.false c.loop-i.invariant
