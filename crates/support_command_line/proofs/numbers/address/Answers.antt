use Rattle.std.proofs.Common.{◌∙◌}
use Rattle.support_command_line.proofs.DigitTexts.{address_is}
use Rattle.support_command_line.proofs.numbers.address.Goals as goal

pub returns : goal.returns
returns c = c.number.ensures ∙ address_is c.args.text.now
