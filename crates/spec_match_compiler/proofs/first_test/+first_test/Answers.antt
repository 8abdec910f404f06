use Rattle.std.proofs.Common.{map, sym, ◌∙◌, arith, option_map, refl}
use Rattle.std.proofs.lemmas.List.{length-map}
use Rattle.spec_match_compiler.specs.Views.{knowledge, found}
use Rattle.spec_match_compiler.proofs.Loops.{below_end, parts_len-parts}
use Rattle.spec_match_compiler.proofs.Grown.{below_next, later_limits}
use Rattle.spec_match_compiler.proofs.first_test.+first_test.Goals as goal

pub first_below-overflow_cast-i : goal.first_below-overflow_cast-i
first_below-overflow_cast-i t c =
    let few = rw (parts_len-parts (map knowledge c.args.fields.now), length-map) at c.requires.few in
    omega (arith, few)

pub first_below-returns : goal.first_below-returns
first_below-returns t c =
    sym (below_end (option_map found c.loop-i.best) c.args.case c.loop-i.i c.args.patterns.now c.args.fields.now c.loop-i.i (omega arith))
    ∙ c.loop-i.invariant.whole

pub first_below-loop-i-init : goal.first_below-loop-i-init
first_below-loop-i-init t c = record { whole = refl; limits = c.requires.limits }

pub first_below-loop-i-preserved : goal.first_below-loop-i-preserved
first_below-loop-i-preserved t c =
    let x = c.index-patterns-i in
    let y = c.index-fields-i in
    let best = rw (c.in_ok-below.ensures, c.in_ok-part.ensures) at c.outermost-best.ensures in
    record {
      whole = sym (below_next c.args.patterns.now c.args.fields.now c.loop-i.i x.result y.result x.is y.is (omega arith) (omega arith) (option_map found c.loop-i.best) (option_map found c.outermost-best.result) c.args.case best) ∙ c.loop-i.invariant.whole;
      limits = later_limits c.args.fields.now c.loop-i.i y.result y.is (omega arith) c.loop-i.invariant.limits;
    }
