-- Quotients.
use Rattle.std.proofs.Common.{ℕ, ◌/◌, ◌<◌, if◌then◌else◌, arith, pow_pos, zero-le, lt_of_le_of_lt, div-le_self}
use Rattle.std.specs.Prelude.{◌==◌, nat_lt}
use Rattle.std.proofs.lemmas.Bool.Decides.{nat_tests}
use Rattle.word_operations.specs.Op2.{op2_of}
use Rattle.word_operations.specs.declared.kinds.BinaryOperation.TheVariants.{DivU}
use Rattle.word_operations.proofs.Bounds.{div_u_le}
use Rattle.base_trait.proofs.Tests.{at_choice}
use Rattle.base_interval.specs.Quotients.{quotient_mono}
use Rattle.base_interval.specs.Range.{from_to, one}
use Rattle.base_interval.specs.Sound.{HoldsWord, IsSound}
use Rattle.base_interval.specs.declared.range.Range.{Range}

-- where no divisor is 0: from the least dividend by the greatest divisor to the greatest by the least. By 0 alone 0.
-- Else at most the dividend.
abbrev pub div_u_of : ℕ → Range → Range → Range
div_u_of w x y =
    if y.hi == 0 then one 0
    else (if nat_lt 0 y.lo then from_to (x.lo / y.hi) (x.hi / y.lo) else from_to 0 x.hi)

pub div_u_sound : IsSound DivU div_u_of
div_u_sound w m n x y h =
    let low = h.left_low in let high = h.left_high in let fits = h.left_fits in
    let low_too = h.right_low in let high_too = h.right_high in
    at_choice (λ r. HoldsWord w r (op2_of DivU w m n)) (y.hi == 0) (one 0) (if nat_lt 0 y.lo then from_to (x.lo / y.hi) (x.hi / y.lo) else from_to 0 x.hi)
    (λ e. at_choice (λ v. HoldsWord w (one 0) v) (n == 0) 0 (m / n)
    (λ zero. ((zero-le, zero-le), pow_pos w))
    (λ nonzero. absurd (grind (arith, nat_tests))))
    (λ e. at_choice (λ r. HoldsWord w r (op2_of DivU w m n)) (nat_lt 0 y.lo) (from_to (x.lo / y.hi) (x.hi / y.lo)) (from_to 0 x.hi)
    (λ positive.
    let some : 0 < y.lo = grind (arith, nat_tests) in
    at_choice (λ v. HoldsWord w (from_to (x.lo / y.hi) (x.hi / y.lo)) v) (n == 0) 0 (m / n)
    (λ zero. absurd (grind (arith, nat_tests)))
    (λ nonzero. (
      (quotient_mono x.lo m y.hi n low high_too (omega arith), quotient_mono m x.hi n y.lo high low_too some),
      lt_of_le_of_lt (div-le_self x.hi y.lo) fits,
    )))
    (λ perhaps. let at_most = div_u_le w m n in ((zero-le, omega arith), fits)))
