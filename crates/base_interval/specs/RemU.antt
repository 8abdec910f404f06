-- Remainders.
use Rattle.std.proofs.Common.{ℕ, ◌-◌, ◌%◌, ◌<◌, ◌≤◌, min, if◌then◌else◌, arith, pow_pos, zero-le, sym, subst, mod-lt}
use Rattle.std.specs.Prelude.{◌==◌, nat_lt}
use Rattle.std.proofs.lemmas.Bool.Decides.{nat_tests}
use Rattle.word_operations.specs.Op2.{op2_of}
use Rattle.word_operations.specs.declared.kinds.BinaryOperation.TheVariants.{RemU}
use Rattle.word_operations.proofs.Bounds.{rem_u_le, rem_u_exact}
use Rattle.base_trait.proofs.Tests.{at_choice}
use Rattle.base_interval.specs.Range.{from_to, one}
use Rattle.base_interval.specs.Sound.{HoldsWord, IsSound}
use Rattle.base_interval.specs.declared.range.Range.{Range}

-- where each dividend is below each divisor: the dividend. By 0 alone 0. Else at most the dividend, and below
-- the greatest divisor.
abbrev pub rem_u_of : ℕ → Range → Range → Range
rem_u_of w x y =
    if y.hi == 0 then one 0
    else (if nat_lt x.hi y.lo then x else from_to 0 (min x.hi (y.hi - 1)))

below_divisor : (w m n d : ℕ) → 0 < d → n ≤ d → op2_of RemU w m n ≤ d - 1
below_divisor w m n d some less =
    at_choice (λ v. v ≤ d - 1) (n == 0) 0 (m % n)
    (λ zero. zero-le)
    (λ nonzero. let positive : 0 < n = grind (arith, nat_tests) in let below : m % n < n = mod-lt m positive in omega arith)

pub rem_u_sound : IsSound RemU rem_u_of
rem_u_sound w m n x y h =
    let low = h.left_low in let high = h.left_high in let fits = h.left_fits in
    let low_too = h.right_low in let high_too = h.right_high in
    at_choice (λ r. HoldsWord w r (op2_of RemU w m n)) (y.hi == 0) (one 0) (if nat_lt x.hi y.lo then x else from_to 0 (min x.hi (y.hi - 1)))
    (λ e. at_choice (λ v. HoldsWord w (one 0) v) (n == 0) 0 (m % n)
    (λ zero. ((zero-le, zero-le), pow_pos w))
    (λ nonzero. absurd (grind (arith, nat_tests))))
    (λ e. at_choice (λ r. HoldsWord w r (op2_of RemU w m n)) (nat_lt x.hi y.lo) x (from_to 0 (min x.hi (y.hi - 1)))
    (λ small.
    let less : m < n = grind (arith, nat_tests) in
    subst (HoldsWord w x) (sym (rem_u_exact w m n less)) ((low, high), fits))
    (λ large.
    let some : 0 < y.hi = grind (arith, nat_tests) in
    let at_most = rem_u_le w m n in
    let below = below_divisor w m n y.hi some high_too in
    ((zero-le, omega arith), omega arith)))
