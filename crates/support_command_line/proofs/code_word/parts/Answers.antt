use Rattle.std.proofs.Common.{[]}
use Rattle.support_command_line.proofs.PartsRead.{parts_more}
use Rattle.support_command_line.proofs.code_word.parts.Goals as goal

pub loop-piece-preserved : goal.loop-piece-preserved
loop-piece-preserved c =
    parts_more c.args.others.now c.loop-piece.piece-index (record { ref_ptr = (0, 0); now = [] }) _ c.loop-piece.parts.items c.in_ok-parts-2.parts.items c.part.result
    c.loop-piece-test.true c.loop-piece.invariant c.part.ensures c.in_ok-parts-2.ensures
