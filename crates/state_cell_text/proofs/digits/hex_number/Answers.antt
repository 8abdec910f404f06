use Rattle.std.proofs.Common.{arith}
use Rattle.state_cell_text.proofs.Bounds.{room}
use Rattle.state_cell_text.proofs.digits.hex_number.Goals as goal

pub overflow_mul-value : goal.overflow_mul-value
overflow_mul-value c = let h = room c.loop-i.i c.loop-i.value c.loop-i.invariant.small (omega arith) in omega (arith, h)

pub overflow_add-value : goal.overflow_add-value
overflow_add-value c = let h = room c.loop-i.i c.loop-i.value c.loop-i.invariant.small (omega arith) in omega (arith, h)
