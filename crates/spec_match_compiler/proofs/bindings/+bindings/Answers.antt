use Rattle.std.proofs.Common.{◌≡◌, ◌++◌, [], ◌∷◌, map, rules, arith, refl, ap, ◌∙◌}
use Rattle.std.proofs.lemmas.List.{map-append, length-map}
use Rattle.spec_match_compiler.specs.Patterns.{bind}
use Rattle.spec_match_compiler.specs.Views.{pat, bound}
use Rattle.spec_match_compiler.proofs.Loops.{pats_len-pats, pat_Bind}
use Rattle.spec_match_compiler.proofs.Grown.{bindings_next, bindings_out, later_patterns}
use Rattle.spec_match_compiler.proofs.bindings.+bindings.Goals as goal

pub bindings-returns-in_ok-push-in-Bind : goal.bindings-returns-in_ok-push-in-Bind
bindings-returns-in_ok-push-in-Bind t c =
    let more : c.push.new.self.items ≡ c.args.out.now.items ++ (c.in-Bind.variable, record { steps = c.in_ok-steps-in-Bind.steps }) ∷ [] = search rules in
    let is : pat c.args.pattern.now ≡ bind c.in-Bind.variable = ap pat c.in-Bind.is ∙ pat_Bind c.in-Bind.variable in
    let e = c.in_ok-steps-in-Bind.ensures.items in
    rw (more, map-append, is, e) refl

pub part_bindings-overflow_cast-i : goal.part_bindings-overflow_cast-i
part_bindings-overflow_cast-i t c =
    let few = rw (pats_len-pats (map pat c.args.parts.now), length-map) at c.requires.few in
    omega (arith, few)

pub part_bindings-loop-i-init : goal.part_bindings-loop-i-init
part_bindings-loop-i-init t c = record { whole = refl; limits = c.requires.limits }

pub part_bindings-loop-i-preserved : goal.part_bindings-loop-i-preserved
part_bindings-loop-i-preserved t c =
    let x = c.index-parts-i in
    let place : c.as_slice.result.now ≡ c.args.at.now ++ (c.args.case, c.loop-i.i) ∷ [] = search rules in
    record {
      whole = bindings_next (map bound c.loop-i.out.items) (map bound c.bindings.new.out.items) c.args.at.now c.as_slice.result.now c.args.case c.args.parts.now c.loop-i.i x.result x.is c.loop-i-test.true place c.in_ok-bindings.ensures ∙ c.loop-i.invariant.whole;
      limits = later_patterns c.args.parts.now c.loop-i.i x.result x.is c.loop-i-test.true c.loop-i.invariant.limits;
    }

pub part_bindings-returns : goal.part_bindings-returns
part_bindings-returns t c =
    bindings_out _ (map bound c.loop-i.out.items) c.args.at.now c.args.case c.args.parts.now c.loop-i.i c.loop-i-test.false c.loop-i.invariant.whole
