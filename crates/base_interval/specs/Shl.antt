-- Left shifts.
use Rattle.std.proofs.Common.{◌≡◌, ℕ, ◌*◌, ◌^◌, ◌<◌, ◌≤◌, if◌then◌else◌, arith, sym, subst, pow_pos, zero-le, mul-le-mul_right}
use Rattle.std.specs.Prelude.{nat_lt, nat_le}
use Rattle.std.proofs.lemmas.Bool.Decides.{nat_tests}
use Rattle.word_operations.specs.Op2.{op2_of}
use Rattle.word_operations.specs.declared.kinds.BinaryOperation.TheVariants.{Shl}
use Rattle.word_operations.proofs.Bounds.{shl_exact}
use Rattle.word_operations.proofs.ShiftLaws.{shift_by_width}
use Rattle.base_trait.proofs.Tests.{at_choice}
use Rattle.base_interval.specs.Range.{from_to, one, is_one, all}
use Rattle.base_interval.specs.Sound.{AreHeld, HoldsWord, IsSound, any_result}
use Rattle.base_interval.specs.declared.range.Range.{Range}

-- the multiples by 2 ^ n, where the greatest is a word; else any
abbrev pub shifted_left : ℕ → Range → ℕ → Range
shifted_left w x n = if nat_lt (x.hi * 2 ^ n) (2 ^ w) then from_to (x.lo * 2 ^ n) (x.hi * 2 ^ n) else all w

-- by one number: by w or more 0; by less the multiples. By several numbers any.
abbrev pub shl_of : ℕ → Range → Range → Range
shl_of w x y = if is_one y then (if nat_le w y.lo then one 0 else shifted_left w x y.lo) else all w

multiples : (w m n : ℕ) (x y : Range) → AreHeld w x y m n → y.lo ≡ n → HoldsWord w (shifted_left w x n) (op2_of Shl w m n)
multiples w m n x y h count =
    at_choice (λ r. HoldsWord w r (op2_of Shl w m n)) (nat_lt (x.hi * 2 ^ n) (2 ^ w)) (from_to (x.lo * 2 ^ n) (x.hi * 2 ^ n)) (all w)
    (λ e.
    let below : x.hi * 2 ^ n < 2 ^ w = grind (arith, nat_tests) in
    let least : x.lo * 2 ^ n ≤ m * 2 ^ n = mul-le-mul_right (2 ^ n) h.left_low in
    let greatest : m * 2 ^ n ≤ x.hi * 2 ^ n = mul-le-mul_right (2 ^ n) h.left_high in
    subst (HoldsWord w (from_to (x.lo * 2 ^ n) (x.hi * 2 ^ n))) (sym (shl_exact w m n (omega arith))) ((least, greatest), below))
    (λ e. any_result Shl w m n x y h)

pub shl_sound : IsSound Shl shl_of
shl_sound w m n x y h =
    let low = h.left_low in let high = h.left_high in let fits = h.left_fits in
    let low_too = h.right_low in let high_too = h.right_high in
    at_choice (λ r. HoldsWord w r (op2_of Shl w m n)) (is_one y) (if nat_le w y.lo then one 0 else shifted_left w x y.lo) (all w)
    (λ e.
    let same : y.lo ≡ n = grind (arith, nat_tests) in
    at_choice (λ r. HoldsWord w r (op2_of Shl w m n)) (nat_le w y.lo) (one 0) (shifted_left w x y.lo)
    (λ past.
    let far : w ≤ n = grind (arith, nat_tests) in
    let nothing = (shift_by_width w m n h.width (omega arith) far).0 in
    subst (HoldsWord w (one 0)) (sym nothing) ((zero-le, zero-le), pow_pos w))
    (λ near. subst (λ k. HoldsWord w (shifted_left w x k) (op2_of Shl w m n)) (sym same) (multiples w m n x y h same)))
    (λ e. any_result Shl w m n x y h)
