use Rattle.std.proofs.Common.{arith}
use Rattle.abstract_map.specs.Same.{same_entry}
use Rattle.abstract_map.proofs.Equality.{same_end, same_off, same_on, told_off, told_on}
use Rattle.abstract_map.proofs.Items.{item_is}
use Rattle.abstract_map.proofs.same.are_same.Goals as goal

pub returns-then-ne : goal.returns-then-ne
returns-then-ne g c =
    same_off (same_entry g.B.Word.PartialEq.eq g.B.Note.PartialEq.eq) c.args.cells.now c.args.others.now c.loop-place.place (c.at.result.0, c.at.result.1.now) (c.at-in-loop-place.result.0, c.at-in-loop-place.result.1.now) _ (omega (arith, c.loop-place-test.true, c.len-place-end.ensures)) (omega (arith, c.loop-place-test.true, c.len-place-end.ensures, c.loop-place.invariant.lengths))
    (told_off (same_entry g.B.Word.PartialEq.eq g.B.Note.PartialEq.eq) (c.at.result.0, c.at.result.1.now) (c.at-in-loop-place.result.0, c.at-in-loop-place.result.1.now) _ _ (item_is c.args.cells.now c.loop-place.place c.at.result.0 c.at.result.1.now c.at.ensures) (item_is c.args.others.now c.loop-place.place c.at-in-loop-place.result.0 c.at-in-loop-place.result.1.now c.at-in-loop-place.ensures) c.if-ne.ensures) c.loop-place.invariant.same

pub loop-place-preserved : goal.loop-place-preserved
loop-place-preserved g c = record {
  lengths = c.loop-place.invariant.lengths;
  same = same_on (same_entry g.B.Word.PartialEq.eq g.B.Note.PartialEq.eq) c.args.cells.now c.args.others.now c.loop-place.place (c.at.result.0, c.at.result.1.now) (c.at-in-loop-place.result.0, c.at-in-loop-place.result.1.now) _ (omega (arith, c.loop-place-test.true, c.len-place-end.ensures)) (omega (arith, c.loop-place-test.true, c.len-place-end.ensures, c.loop-place.invariant.lengths))
      (told_on (same_entry g.B.Word.PartialEq.eq g.B.Note.PartialEq.eq) (c.at.result.0, c.at.result.1.now) (c.at-in-loop-place.result.0, c.at-in-loop-place.result.1.now) _ _ (item_is c.args.cells.now c.loop-place.place c.at.result.0 c.at.result.1.now c.at.ensures) (item_is c.args.others.now c.loop-place.place c.at-in-loop-place.result.0 c.at-in-loop-place.result.1.now c.at-in-loop-place.ensures) c.if-ne.ensures) c.loop-place.invariant.same;
}

pub returns : goal.returns
returns g c = same_end (same_entry g.B.Word.PartialEq.eq g.B.Note.PartialEq.eq) c.args.cells.now c.args.others.now c.loop-place.place _ (omega (arith, c.loop-place-test.false, c.len-place-end.ensures)) (omega (arith, c.loop-place-test.false, c.len-place-end.ensures, c.loop-place.invariant.lengths)) c.loop-place.invariant.same
