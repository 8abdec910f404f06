use Rattle.std.proofs.Common.{◌≡◌, length, sym, ◌∙◌, arith, true, false}
use Rattle.spec_match_compiler.specs.Rule.{is_among}
use Rattle.spec_match_compiler.proofs.Loops.{least_here, least_next}
use Rattle.spec_match_compiler.proofs.example.least_other.Goals as goal

pub returns-then-not-contains : goal.returns-then-not-contains
returns-then-not-contains c =
    let absent : is_among c.loop-n.n-counter c.args.tested.now ≡ false = sym c.contains.ensures.value ∙ c.if-not-contains.true in
    sym (least_here (length c.args.tested.now) c.loop-n.n-counter c.args.tested.now (omega arith) absent) ∙ c.loop-n.invariant

pub loop-n-preserved : goal.loop-n-preserved
loop-n-preserved c =
    let there : is_among c.loop-n.n-counter c.args.tested.now ≡ true = sym c.contains.ensures.value ∙ c.if-not-contains.false in
    sym (least_next (length c.args.tested.now) c.loop-n.n-counter c.args.tested.now (omega arith) there) ∙ c.loop-n.invariant
