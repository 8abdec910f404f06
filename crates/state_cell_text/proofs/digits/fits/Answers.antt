use Rattle.std.proofs.Common.{arith, rules}
use Rattle.state_cell_text.proofs.Bounds.{narrow}
use Rattle.state_cell_text.proofs.digits.fits.Goals as goal
use Rattle.spec_ir.proofs.Checks.{fits_past as wide}

pub returns-then-width-ge64 : goal.returns-then-width-ge64
returns-then-width-ge64 c = let w = wide c.args.value c.args.width (omega arith) (omega arith) in search (rules, w)

pub returns-else-width-ge64 : goal.returns-else-width-ge64
returns-else-width-ge64 c = narrow c.args.value c.args.width
