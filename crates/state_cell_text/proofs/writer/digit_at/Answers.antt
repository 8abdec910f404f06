use Rattle.std.proofs.Common.{arith}
use Rattle.state_cell_text.proofs.Bounds.{far_digit}
use Rattle.state_cell_text.proofs.writer.digit_at.Goals as goal

pub returns-else-place-lt16-clause-digit : goal.returns-else-place-lt16-clause-digit
returns-else-place-lt16-clause-digit c = far_digit c.args.value c.args.place (omega arith) (omega arith)
