use Rattle.std.proofs.Common.{lit<, ◌∙◌}
use Rattle.support_command_line.proofs.DigitTexts.{number_is, no_plus}
use Rattle.support_command_line.proofs.numbers.number.Goals as goal

pub returns : goal.returns
returns c =
    c.ok.ensures.value
    ∙ number_is c.args.radix c.args.most_digits c.args.text.now c.from_str_radix.result c.if-text-most_digits.false
    (no_plus c.args.text.now c.starts_with.result (c.starts_with.ensures.byte (lit< tt) (lit< tt) (λ w found is. is)) c.if-starts_with.false) c.from_str_radix.ensures.value
