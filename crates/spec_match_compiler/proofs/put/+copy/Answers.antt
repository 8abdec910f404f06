use Rattle.std.proofs.Common.{refl, sym, ◌∙◌}
use Rattle.spec_match_compiler.specs.Views.{knowledge}
use Rattle.spec_match_compiler.proofs.Grown.{grown, all_out}
use Rattle.spec_match_compiler.proofs.put.+copy.Goals as goal

pub copies-loop-part-init : goal.copies-loop-part-init
copies-loop-part-init t c = rw c.new-out.ensures.items refl

pub copies-loop-part-preserved : goal.copies-loop-part-preserved
copies-loop-part-preserved t c =
    c.loop-part.invariant ∙ sym (grown knowledge knowledge c.loop-part.out.items c.push.new.self.items c.args.parts.now c.loop-part.part-index c.in_ok-copy.field-0 c.part-item.result c.in_ok-push.ensures.items c.part-item.is c.loop-part-test.true c.in_ok-copy.ensures)

pub copies-returns : goal.copies-returns
copies-returns t c = all_out knowledge _ _ c.args.parts.now c.loop-part.part-index c.loop-part-test.false c.loop-part.invariant
