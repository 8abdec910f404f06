-- Left rotations.
use Rattle.std.proofs.Common.{◌≡◌, ℕ, ◌*◌, ◌%◌, ◌^◌, ◌<◌, ◌≤◌, if◌then◌else◌, arith, sym, subst, mul-le-mul_right}
use Rattle.std.specs.Prelude.{nat_lt}
use Rattle.std.proofs.lemmas.Bool.Decides.{nat_tests}
use Rattle.word_operations.specs.Op2.{op2_of}
use Rattle.word_operations.specs.declared.kinds.BinaryOperation.TheVariants.{RotL}
use Rattle.word_operations.proofs.Bounds.{rot_l_exact}
use Rattle.base_trait.proofs.Tests.{at_choice}
use Rattle.base_interval.specs.Range.{from_to, is_one, all}
use Rattle.base_interval.specs.Shl.{shifted_left}
use Rattle.base_interval.specs.Sound.{AreHeld, HoldsWord, IsSound, any_result}
use Rattle.base_interval.specs.declared.range.Range.{Range}

-- by one number, modulo w, the multiples, where no bit comes round; else any
abbrev pub rot_l_of : ℕ → Range → Range → Range
rot_l_of w x y = if is_one y then shifted_left w x (y.lo % w) else all w

multiples : (w m n : ℕ) (x y : Range) → AreHeld w x y m n → HoldsWord w (shifted_left w x (n % w)) (op2_of RotL w m n)
multiples w m n x y h =
    at_choice (λ r. HoldsWord w r (op2_of RotL w m n)) (nat_lt (x.hi * 2 ^ (n % w)) (2 ^ w)) (from_to (x.lo * 2 ^ (n % w)) (x.hi * 2 ^ (n % w))) (all w)
    (λ e.
    let below : x.hi * 2 ^ (n % w) < 2 ^ w = grind (arith, nat_tests) in
    let least : x.lo * 2 ^ (n % w) ≤ m * 2 ^ (n % w) = mul-le-mul_right (2 ^ (n % w)) h.left_low in
    let greatest : m * 2 ^ (n % w) ≤ x.hi * 2 ^ (n % w) = mul-le-mul_right (2 ^ (n % w)) h.left_high in
    subst (HoldsWord w (from_to (x.lo * 2 ^ (n % w)) (x.hi * 2 ^ (n % w)))) (sym (rot_l_exact w m n (omega arith) h.width.0)) ((least, greatest), below))
    (λ e. any_result RotL w m n x y h)

pub rot_l_sound : IsSound RotL rot_l_of
rot_l_sound w m n x y h =
    let low = h.right_low in let high = h.right_high in
    at_choice (λ r. HoldsWord w r (op2_of RotL w m n)) (is_one y) (shifted_left w x (y.lo % w)) (all w)
    (λ e.
    let same : y.lo ≡ n = grind (arith, nat_tests) in
    subst (λ k. HoldsWord w (shifted_left w x (k % w)) (op2_of RotL w m n)) (sym same) (multiples w m n x y h))
    (λ e. any_result RotL w m n x y h)
