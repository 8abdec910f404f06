use Rattle.std.proofs.Common.{refl, sym, ◌∙◌}
use Rattle.std.proofs.lemmas.List.{get_or_default}
use Rattle.spec_match_compiler.specs.Knowledge.{unknown}
use Rattle.spec_match_compiler.specs.Views.{knowledge}
use Rattle.spec_match_compiler.proofs.Granted.{known_Unknown}
use Rattle.spec_match_compiler.proofs.Grown.{grown, all_out}
use Rattle.spec_match_compiler.proofs.outcomes.unknown_fields.Goals as goal

pub loop-shape-init : goal.loop-shape-init
loop-shape-init c = rw c.new-out.ensures.items refl

pub loop-shape-preserved : goal.loop-shape-preserved
loop-shape-preserved c =
    let more = c.in_ok-push.ensures.items in
    c.loop-shape.invariant ∙ sym (grown knowledge unknown c.loop-shape.out.items c.push.new.self.items c.args.shapes.now c.loop-shape.shape-index _ _ more (get_or_default c.args.shapes.now c.loop-shape.shape-index _ _ c.loop-shape-test.true) c.loop-shape-test.true (known_Unknown _))

pub returns : goal.returns
returns c = all_out unknown _ _ c.args.shapes.now c.loop-shape.shape-index c.loop-shape-test.false c.loop-shape.invariant
