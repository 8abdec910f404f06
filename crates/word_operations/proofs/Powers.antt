-- Numbers modulo powers of two.
use Rattle.std.proofs.Common.{◌≡◌, ℕ, ◌+◌, ◌-◌, ◌*◌, ◌/◌, ◌%◌, ◌^◌, ◌<◌, ◌≤◌, bit_or, ap, ap₂, sym, ◌∙◌, subst, arith, pow_pos, pow-add, mod-lt, sub-add_cancel}
use Rattle.std.proofs.Math.Nat.{mul-mod_left, mul-div_cancel, add-mul-mod_self_right}
use Rattle.std.proofs.lemmas.Nat.{mod-pow-add, mod_low, shr_below, or_shifted, mul-add-lt}
use Rattle.word_operations.specs.Op2.{rotated}

-- the lowest bits of the lowest bits
pub mod_pow : (n w m : ℕ) → w ≤ m → n % 2 ^ m % 2 ^ w ≡ n % 2 ^ w
mod_pow n w m h =
    let whole : m - w + w ≡ m = sub-add_cancel h in
    subst (λ k. n % 2 ^ k % 2 ^ w ≡ n % 2 ^ w) whole
    (ap (λ k. k % 2 ^ w) (mod-pow-add n (m - w) w) ∙ mod_low (n / 2 ^ w % 2 ^ (m - w)) w (n % 2 ^ w) (mod-lt n (pow_pos w)))

-- a difference modulo a power of two, from one modulo a greater power
pub sub_pow : (x y w m : ℕ) → w ≤ m → y ≤ 2 ^ w → (x + (2 ^ m - y)) % 2 ^ w ≡ (x + 2 ^ w - y) % 2 ^ w
sub_pow x y w m h below =
    let whole : m - w + w ≡ m = sub-add_cancel h in
    let power : 2 ^ m ≡ 2 ^ (m - w) * 2 ^ w = ap (λ k. 2 ^ k) (sym whole) ∙ pow-add 2 (m - w) w in
    let split : x + (2 ^ m - y) ≡ x + 2 ^ w - y + (2 ^ (m - w) - 1) * 2 ^ w = apart (2 ^ m) (2 ^ (m - w)) (2 ^ w) x y power (pow_pos (m - w)) below in
    ap (λ k. k % 2 ^ w) split ∙ add-mul-mod_self_right (x + 2 ^ w - y) (2 ^ (m - w) - 1) (2 ^ w)
  where
    apart : (p q r x y : ℕ) → p ≡ q * r → 0 < q → y ≤ r → x + (p - y) ≡ x + r - y + (q - 1) * r
    apart p q r x y e positive below =
        let part : q ≡ q - 1 + 1 = omega arith in
        let more : p ≡ (q - 1 + 1) * r = e ∙ ap (λ k. k * r) part in
        omega arith

-- what a left shift leaves
pub shl_mod : (x n k : ℕ) → x * 2 ^ n % 2 ^ (k + n) ≡ x % 2 ^ k * 2 ^ n
shl_mod x n k =
    mod-pow-add (x * 2 ^ n) k n
    ∙ ap₂ (λ a b. a % 2 ^ k * 2 ^ n + b) (mul-div_cancel x (pow_pos n)) (mul-mod_left x (2 ^ n))
    ∙ omega arith

pub rotated_split : (w x n : ℕ) → n ≤ w → rotated w x n ≡ x % 2 ^ (w - n) * 2 ^ n + x / 2 ^ (w - n)
rotated_split w x n h =
    let whole : w - n + n ≡ w = sub-add_cancel h in
    ap (λ a. a + x / 2 ^ (w - n)) (ap (λ k. x * 2 ^ n % 2 ^ k) (sym whole) ∙ shl_mod x n (w - n))

pub high_below : (w x n : ℕ) → n ≤ w → x < 2 ^ w → x / 2 ^ (w - n) < 2 ^ n
high_below w x n h below =
    let whole : w ≡ n + (w - n) = omega arith in
    shr_below x n (w - n) (subst (λ k. x < 2 ^ k) whole below)

-- the two parts of a rotated word share no bit
pub or_rotated : (w x n : ℕ) → n ≤ w → x < 2 ^ w → bit_or (x * 2 ^ n % 2 ^ w) (x / 2 ^ (w - n)) ≡ rotated w x n
or_rotated w x n h below =
    let whole : w - n + n ≡ w = sub-add_cancel h in
    ap (λ a. bit_or a (x / 2 ^ (w - n))) (ap (λ k. x * 2 ^ n % 2 ^ k) (sym whole) ∙ shl_mod x n (w - n))
    ∙ or_shifted (x % 2 ^ (w - n)) n (x / 2 ^ (w - n)) (high_below w x n h below)
    ∙ sym (rotated_split w x n h)

-- a rotated word is a word
pub rotated_fits : (w x n : ℕ) → n ≤ w → x < 2 ^ w → rotated w x n < 2 ^ w
rotated_fits w x n h below =
    let whole : n + (w - n) ≡ w = omega arith in
    let power : 2 ^ n * 2 ^ (w - n) ≡ 2 ^ w = sym (pow-add 2 n (w - n)) ∙ ap (λ k. 2 ^ k) whole in
    let bound : x % 2 ^ (w - n) * 2 ^ n + x / 2 ^ (w - n) < 2 ^ n * 2 ^ (w - n) =
    mul-add-lt (x % 2 ^ (w - n)) (2 ^ n) (x / 2 ^ (w - n)) (2 ^ (w - n)) (mod-lt x (pow_pos (w - n))) (high_below w x n h below) in
    omega (arith, bound, power, rotated_split w x n h)
