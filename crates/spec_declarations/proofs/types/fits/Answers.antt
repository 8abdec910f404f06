use Rattle.std.proofs.Common.{arith}
use Rattle.spec_declarations.proofs.Numerals.{wide_fits}
use Rattle.spec_declarations.proofs.types.fits.Goals as goal

pub returns-then-w-ge64 : goal.returns-then-w-ge64
returns-then-w-ge64 c = wide_fits c.args.v c.args.w (omega arith) (omega arith)
