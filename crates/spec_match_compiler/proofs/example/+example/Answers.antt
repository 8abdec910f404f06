use Rattle.std.proofs.Common.{map, ap, sym, ◌∙◌, refl}
use Rattle.std.proofs.lemmas.List.{take_all}
use Rattle.spec_match_compiler.specs.Patterns.{pats}
use Rattle.spec_match_compiler.specs.Rule.{example}
use Rattle.spec_match_compiler.specs.Views.{knowledge}
use Rattle.spec_match_compiler.proofs.Loops.{examples-parts}
use Rattle.spec_match_compiler.proofs.Grown.{example_grown}
use Rattle.spec_match_compiler.proofs.example.+example.Goals as goal

pub examples-returns : goal.examples-returns
examples-returns t c =
    let all = take_all c.loop-field.field-index c.args.fields.now c.loop-field-test.false in
    ap pats (c.loop-field.invariant ∙ ap (λ ks. map example (map knowledge ks)) all) ∙ sym (examples-parts (map knowledge c.args.fields.now))

pub examples-loop-field-init : goal.examples-loop-field-init
examples-loop-field-init t c = rw c.new-out.ensures.items refl

pub examples-loop-field-preserved : goal.examples-loop-field-preserved
examples-loop-field-preserved t c =
    example_grown c.loop-field.out.items c.push.new.self.items c.args.fields.now c.loop-field.field-index c.in_ok-example.field-0 c.field-item.result c.in_ok-push.ensures.items c.field-item.is c.loop-field-test.true c.in_ok-example.ensures c.loop-field.invariant
