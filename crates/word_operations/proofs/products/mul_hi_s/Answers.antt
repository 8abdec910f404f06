use Rattle.std.proofs.Common.{◌*ℤ◌, ap, ap₂, ◌∙◌}
use Rattle.word_operations.specs.Op2.{high_part}
use Rattle.word_operations.specs.Signed.{unsigned}
use Rattle.word_operations.proofs.Wide.{product_shr}
use Rattle.word_operations.proofs.products.mul_hi_s.Goals as goal

pub returns-clause-value : goal.returns-clause-value
returns-clause-value c =
    c.word_of.ensures.value
    ∙ ap (unsigned c.args.w)
    (product_shr c.signed_value.result c.signed_value-2.result c.args.w c.signed_value.ensures.small c.signed_value-2.ensures.small
    ∙ ap₂ (λ p q. high_part (p *ℤ q) c.args.w) c.signed_value.ensures.value c.signed_value-2.ensures.value)
