-- Products.
use Rattle.std.proofs.Common.{ℕ, ◌*◌, ◌^◌, ◌<◌, if◌then◌else◌, arith, sym, subst}
use Rattle.std.specs.Prelude.{nat_lt}
use Rattle.std.proofs.lemmas.Bool.Decides.{nat_tests}
use Rattle.std.proofs.lemmas.Nat.{mul-le}
use Rattle.word_operations.specs.Op2.{op2_of}
use Rattle.word_operations.specs.declared.kinds.BinaryOperation.TheVariants.{Mul}
use Rattle.word_operations.proofs.Bounds.{mul_exact}
use Rattle.base_trait.proofs.Tests.{at_choice}
use Rattle.base_interval.specs.Range.{from_to, all}
use Rattle.base_interval.specs.Sound.{HoldsWord, IsSound, any_result}
use Rattle.base_interval.specs.declared.range.Range.{Range}

-- from the product of the low ends to that of the high ends, where the latter is a word; else any
abbrev pub mul_of : ℕ → Range → Range → Range
mul_of w x y = if nat_lt (x.hi * y.hi) (2 ^ w) then from_to (x.lo * y.lo) (x.hi * y.hi) else all w

pub mul_sound : IsSound Mul mul_of
mul_sound w m n x y h =
    at_choice (λ r. HoldsWord w r (op2_of Mul w m n)) (nat_lt (x.hi * y.hi) (2 ^ w)) (from_to (x.lo * y.lo) (x.hi * y.hi)) (all w)
    (λ e.
    let below : x.hi * y.hi < 2 ^ w = grind (arith, nat_tests) in
    let least = mul-le x.lo y.lo m n h.left_low h.right_low in
    let greatest = mul-le m n x.hi y.hi h.left_high h.right_high in
    subst (HoldsWord w (from_to (x.lo * y.lo) (x.hi * y.hi))) (sym (mul_exact w m n (omega arith))) ((least, greatest), below))
    (λ e. any_result Mul w m n x y h)
