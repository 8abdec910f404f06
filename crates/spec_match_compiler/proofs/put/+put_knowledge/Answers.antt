use Rattle.std.proofs.Common.{map, ap, ◌∙◌, arith, refl, zero-add}
use Rattle.std.proofs.lemmas.Bool.Decides.{nat_tests}
use Rattle.std.proofs.lemmas.List.{drop_all, append-nil}
use Rattle.spec_match_compiler.specs.Knowledge.{parts}
use Rattle.spec_match_compiler.specs.Views.{knowledge}
use Rattle.spec_match_compiler.proofs.Changed.{changed_parts}
use Rattle.spec_match_compiler.proofs.Grown.{changed_here, changed_elsewhere}
use Rattle.spec_match_compiler.proofs.put.+put_knowledge.Goals.{put_part-then-i-field+in_ok-put_knowledge+in_ok-push, put_part-else-i-field+in_ok-copy+in_ok-push-2}
use Rattle.spec_match_compiler.proofs.put.+put_knowledge.Goals as goal

pub put_part-returns : goal.put_part-returns
put_part-returns t c =
    let none = drop_all c.loop-i.i c.args.parts.now (omega arith) in
    let whole = rw (none, append-nil) at c.loop-i.invariant in
    ap parts whole ∙ changed_parts c.args.field c.args.at.now (knowledge c.args.there.now) 0 c.args.field (map knowledge c.args.parts.now) (zero-add c.args.field)

pub put_part-loop-i-init : goal.put_part-loop-i-init
put_part-loop-i-init t c = rw c.new-out.ensures.items refl

pub put_part-loop-i-preserved : goal.put_part-loop-i-preserved
put_part-loop-i-preserved t c =
    let y = c.index-parts-i in
    elim c.if-i-field.branch [
      | put_part-then-i-field+in_ok-put_knowledge+in_ok-push w ↦ rw w.out-is (changed_here c.loop-i.out.items w.push.new.self.items c.args.parts.now c.loop-i.i w.in_ok-put_knowledge.field-0 y.result c.args.field c.args.at.now (knowledge c.args.there.now) w.in_ok-push.ensures.items y.is c.loop-i-test.true (grind (arith, nat_tests, w.if-i-field.true)) w.in_ok-put_knowledge.ensures ∙ c.loop-i.invariant)
      | put_part-else-i-field+in_ok-copy+in_ok-push-2 w ↦ rw w.out-is (changed_elsewhere c.loop-i.out.items w.push-else-i-field.new.self.items c.args.parts.now c.loop-i.i w.in_ok-copy.field-0 y.result c.args.field c.args.at.now (knowledge c.args.there.now) w.in_ok-push-2.ensures.items y.is c.loop-i-test.true (grind (arith, nat_tests, w.if-i-field.false)) w.in_ok-copy.ensures ∙ c.loop-i.invariant)
    ]
