use Rattle.std.proofs.Common.{◌∙◌, arith}
use Rattle.support_io.proofs.Fronts.{takes_more}
use Rattle.support_io.proofs.whole_read.read_opened.Goals as goal

pub returns-in_err-append_piece-clause-taken : goal.returns-in_err-append_piece-clause-taken
returns-in_err-append_piece-clause-taken g c = λ told.
    takes_more c.loop-bytes.bytes.items _ _ _ _ _ (c.loop-bytes.invariant.read told)
    (c.append_piece.ensures.taken (c.loop-bytes.invariant.kept.tells ∙ told)) (omega arith)

pub returns-then-branch-eq0-clause-taken : goal.returns-then-branch-eq0-clause-taken
returns-then-branch-eq0-clause-taken g c = λ told.
    takes_more c.loop-bytes.bytes.items _ _ _ _ _ (c.loop-bytes.invariant.read told)
    (c.append_piece.ensures.taken (c.loop-bytes.invariant.kept.tells ∙ told)) (omega arith)
