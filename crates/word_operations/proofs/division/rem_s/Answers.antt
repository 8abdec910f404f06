use Rattle.std.proofs.Common.{sym, ◌∙◌, pos_of_ne-zero}
use Rattle.word_operations.proofs.Wide.{can_divide}
use Rattle.word_operations.proofs.Readings.{signed_nonzero}
use Rattle.word_operations.proofs.division.rem_s.Goals as goal

pub nonzero_rem-remainder : goal.nonzero_rem-remainder
nonzero_rem-remainder c =
    can_divide c.signed_value-dividend.result c.signed_value-divisor.result c.signed_value-dividend.ensures.small c.signed_value-divisor.ensures.small
    (λ e. signed_nonzero c.args.w c.args.y c.requires.right (pos_of_ne-zero c.if-y-eq0.false) (sym c.signed_value-divisor.ensures.value ∙ e))
