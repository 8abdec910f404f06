use Rattle.std.proofs.Common.{arith}
use Rattle.state_cell_text.proofs.Bounds.{at_most_wide}
use Rattle.state_cell_text.proofs.keys.has_keys.Goals as goal

pub returns-then-w-ge64 : goal.returns-then-w-ge64
returns-then-w-ge64 c = rw c.in-Word.is (at_most_wide c.args.count c.in-Word.w (omega arith) (omega arith))
