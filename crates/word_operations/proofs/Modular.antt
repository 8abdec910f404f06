-- Operations as sums and products modulo 2 ^ w, for affine forms. Each lemma is over the width.
use Rattle.std.proofs.Common.{◌≡◌, ℕ, ◌+◌, ◌-◌, ◌*◌, ◌%◌, ◌^◌, ◌<◌, ◌≤◌, ap, sym, ◌∙◌, arith, pow_pos, mod-eq_of_lt}
use Rattle.std.proofs.Math.Nat.{add-mul-mod_self_right, add-mod-mod, add-mod_right}
use Rattle.std.proofs.lemmas.Nat.{mul-mod_second}
use Rattle.word_operations.specs.Op1.{op1_of}
use Rattle.word_operations.specs.Op2.{op2_of}
use Rattle.word_operations.specs.declared.kinds.UnaryOperation.TheVariants.{Neg, Not}
use Rattle.word_operations.specs.declared.kinds.BinaryOperation.TheVariants.{Sub, Shl}
use Rattle.word_operations.proofs.ShiftLaws.{left_shift}

turned : (m x : ℕ) → 0 < m → x ≤ m → (m - 1) * x + m ≡ m - x + x * m
turned m x positive below =
    let split : (m - 1 + 1) * x ≡ m * x = ap (λ k. k * x) back in
    omega arith
  where
    back : m - 1 + 1 ≡ m
    back = omega arith

-- Neg is the product with 2 ^ w - 1
pub neg_product : (w x : ℕ) → x ≤ 2 ^ w → op1_of Neg w x ≡ (2 ^ w - 1) * x % 2 ^ w
neg_product w x below =
    sym (add-mul-mod_self_right (2 ^ w - x) x (2 ^ w))
    ∙ ap (λ n. n % 2 ^ w) (sym (turned (2 ^ w) x (pow_pos w) below))
    ∙ add-mod_right ((2 ^ w - 1) * x) (2 ^ w)

-- Sub adds that product
pub sub_product : (w x y : ℕ) → y ≤ 2 ^ w → op2_of Sub w x y ≡ (x + (2 ^ w - 1) * y) % 2 ^ w
sub_product w x y below =
    let apart : x + 2 ^ w - y ≡ x + (2 ^ w - y) = omega arith in
    ap (λ n. n % 2 ^ w) apart
    ∙ sym (add-mod-mod x (2 ^ w - y) (2 ^ w))
    ∙ ap (λ n. (x + n) % 2 ^ w) (neg_product w y below)
    ∙ add-mod-mod x ((2 ^ w - 1) * y) (2 ^ w)

-- Not is Neg less 1
pub not_product : (w x : ℕ) → x < 2 ^ w → op1_of Not w x ≡ (2 ^ w - 1 + (2 ^ w - 1) * x) % 2 ^ w
not_product w x below =
    let less : 2 ^ w - 1 - x < 2 ^ w = omega arith in
    let sum : 2 ^ w - 1 + (2 ^ w - 1) * x ≡ 2 ^ w - 1 - x + x * 2 ^ w = omega (arith, turned (2 ^ w) x (pow_pos w) (omega arith)) in
    sym (ap (λ n. n % 2 ^ w) sum ∙ add-mul-mod_self_right (2 ^ w - 1 - x) x (2 ^ w) ∙ mod-eq_of_lt less)

-- Shl is the product with the shifted 1
pub shl_product : (w x y : ℕ) → op2_of Shl w x y ≡ x * op2_of Shl w 1 y % 2 ^ w
shl_product w x y =
    let one : op2_of Shl w 1 y ≡ 2 ^ y % 2 ^ w = left_shift w 1 y ∙ ap (λ n. n % 2 ^ w) (omega arith) in
    left_shift w x y ∙ sym (ap (λ n. x * n % 2 ^ w) one ∙ mul-mod_second x (2 ^ y) (2 ^ w))
