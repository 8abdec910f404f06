use Rattle.std.proofs.Common.{◌≡◌, length, arith, ap, sym}
use Rattle.text_lines.proofs.FirstLine.{few_lines, lines_well}
use Rattle.text_lines.proofs.lines.count_of.Goals as goal

pub loop-count-init : goal.loop-count-init
loop-count-init c = record { count = omega (arith, ap (λ ls. length ls) c.new-rest.ensures); well = rw c.new-rest.ensures (lines_well c.args.bytes.now) }

pub returns : goal.returns
returns c = omega (arith, few_lines c.args.bytes.now)
