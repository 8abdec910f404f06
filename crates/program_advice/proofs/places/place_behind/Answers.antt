use Rattle.std.proofs.Common.{ap, arith, fold, get_or, sym, ◌∙◌}
use Rattle.std.proofs.lemmas.List.{take_all}
use Rattle.std.proofs.lemmas.List.Sums.{fold_more}
use Rattle.program_advice.specs.declared.places.Place.{Place}
use Rattle.program_advice.specs.Places.{behind, first_place}
use Rattle.program_advice.proofs.places.place_behind.Goals as goal

pub loop-byte-preserved : goal.loop-byte-preserved
loop-byte-preserved c =
    (c.behind-place.ensures.place ∙ (ap (λ (place : Place). behind place (get_or c.args.front.now c.loop-byte.byte-index 0)) c.loop-byte.invariant.0 ∙ sym (fold_more behind first_place c.args.front.now c.loop-byte.byte-index 0 c.loop-byte-test.true)), (omega arith, omega arith))

pub returns : goal.returns
returns c = c.loop-byte.invariant.0 ∙ ap (fold behind first_place) (take_all c.loop-byte.byte-index c.args.front.now (omega arith))
