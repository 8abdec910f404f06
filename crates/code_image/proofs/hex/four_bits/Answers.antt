use Rattle.std.proofs.Common.{◌*◌, ◌%◌, ap, sym, arith}
use Rattle.code_image.proofs.hex.four_bits.Goals as goal
use Rattle.spec_ir.proofs.Checks.{no_bit_past as none_past}

pub returns-else-n-lt16-clause-value : goal.returns-else-n-lt16-clause-value
returns-else-n-lt16-clause-value c = sym (ap (λ k. k % 16) (none_past c.args.v (4 * c.args.n) (omega arith) (omega arith)))
