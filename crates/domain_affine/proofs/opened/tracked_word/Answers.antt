use Rattle.std.proofs.Common.{◌≤◌, length, min, sym, ◌∙◌, arith}
use Rattle.domain_affine.proofs.Lists.{no_word, word_later}
use Rattle.domain_affine.proofs.opened.tracked_word.Goals as goal

pub loop-i-preserved : goal.loop-i-preserved
loop-i-preserved c =
    word_later c.args.cells.now c.args.words.now c.args.n c.args.key c.loop-i.i _ (omega (arith, c.loop-i-test.true, c.min-i-end.ensures)) (omega (arith, c.loop-i-test.true, c.min-i-end.ensures)) c.loop-i.invariant (sym c.if-is_cell.ensures)

pub returns : goal.returns
returns c =
    let past : min (length c.args.cells.now) (length c.args.words.now) ≤ c.loop-i.i = rw (← c.min-i-end.ensures) c.loop-i-test.false in
    sym (c.loop-i.invariant ∙ no_word c.args.cells.now c.args.words.now c.args.n c.args.key c.loop-i.i past)
