-- What is best of the results.
use Rattle.std.proofs.Common.{◌≡◌, ℕ, suc, ◌+◌, ◌-◌, ◌*◌, ◌/◌, ◌%◌, ◌^◌, ◌<◌, ◌≤◌, min, refl, sym, ap, ap₂, subst, ◌∙◌, inl, inr, arith, pow_pos, pow_mono, mod-lt, div-add-mod', le_refl, mul-le-mul_right}
use Rattle.std.specs.Prelude.{◌==◌, ◌&&◌}
use Rattle.std.proofs.Math.Nat.{mul-mod_left, pow-succ'}
use Rattle.std.proofs.lemmas.Bool.{cases_lt}
use Rattle.std.proofs.lemmas.Bool.Decides.{nat_tests}
use Rattle.std.proofs.lemmas.Nat.{mod_low}
use Rattle.word_operations.specs.declared.kinds.UnaryOperation.{UnaryOperation}
use Rattle.word_operations.specs.declared.kinds.UnaryOperation.TheVariants.{Neg, Not}
use Rattle.word_operations.specs.declared.kinds.BinaryOperation.{BinaryOperation}
use Rattle.word_operations.specs.declared.kinds.BinaryOperation.TheVariants.{Add, Sub}
use Rattle.word_operations.specs.Casts.{zext_of as zext_number, sext_of as sext_number, trunc_of as trunc_number}
use Rattle.word_operations.specs.Op1.{op1_of}
use Rattle.word_operations.specs.Op2.{op2_of}
use Rattle.word_operations.specs.Width.{IsWidth}
use Rattle.base_trait.proofs.Tests.{at_choice}
use Rattle.base_interval.specs.Best.{IsLeast, IsImage, IsProduct, LeastResults, LeastCasts, LeastWrapped, LeastOnes}
use Rattle.base_interval.specs.Ones.{ones_over_digits}
use Rattle.base_interval.specs.Operations.{op1_range, op2_range, row_of}
use Rattle.base_interval.specs.Quotients.{quotient_mono}
use Rattle.base_interval.specs.Range.{Holds, Fits, from_to, one, is_one, all}
use Rattle.base_interval.specs.Results.{op1_holds}
use Rattle.base_interval.specs.Sext.{sext_of, sext_sound}
use Rattle.base_interval.specs.Trunc.{trunc_of}
use Rattle.base_interval.specs.Wrapped.{wrapped, wrapped_holds}
use Rattle.base_interval.specs.Zext.{zext_of}
use Rattle.base_interval.specs.declared.range.Range.{Range}

-- where both ends are such numbers no interval is less
least_by_ends : (P : ℕ → Type 0) (x : Range) → ((n : ℕ) → P n → Holds x n) → P x.lo → P x.hi → IsLeast P x
least_by_ends P x has low high = record {
  has = has;
  least = λ y f. ((f x.lo low).0, (f x.hi high).1);
}

-- for the same numbers the same interval is the least
least_of_same : (P Q : ℕ → Type 0) (x : Range) → ((n : ℕ) → P n → Q n) → ((n : ℕ) → Q n → P n) → IsLeast P x → IsLeast Q x
least_of_same P Q x to from h = record {
  has = λ n q. h.has n (from n q);
  least = λ y f. h.least y (λ n p. f n (to n p));
}

-- ---- successive whole numbers
abbrev IsWordBetween : ℕ → ℕ → ℕ → ℕ → Type 0
IsWordBetween w low high r = (n : ℕ) × (low ≤ n) × (n ≤ high) × (r ≡ n % 2 ^ w)

same_word : (w m n r : ℕ) → r ≡ m % 2 ^ w → m ≡ n → r ≡ n % 2 ^ w
same_word w m n r e same = e ∙ ap (λ k. k % 2 ^ w) same

-- where the ends pass 2 ^ w unequally often a multiple of it is between them, and so is the number before it
module _ (w low high : ℕ) (order : low ≤ high) (apart : low / 2 ^ w < high / 2 ^ w) where
  abbrev next : ℕ
  next = suc (low / 2 ^ w)

  multiple_between : (low < next * 2 ^ w) × (next * 2 ^ w ≤ high)
  multiple_between =
      let some = pow_pos w in
      let first = div-add-mod' low (2 ^ w) in
      let second = div-add-mod' high (2 ^ w) in
      let rest = mod-lt low some in
      let grows : next * 2 ^ w ≤ high / 2 ^ w * 2 ^ w = mul-le-mul_right (2 ^ w) (omega arith) in
      (omega arith, omega arith)

  zero_among : IsWordBetween w low high 0
  zero_among =
      let between = multiple_between in
      let below = between.0 in
      (next * 2 ^ w, omega arith, between.1, sym (mul-mod_left next (2 ^ w)))

  greatest_among : IsWordBetween w low high (2 ^ w - 1)
  greatest_among =
      let some = pow_pos w in
      let between = multiple_between in
      let below = between.0 in let within = between.1 in
      (low / 2 ^ w * 2 ^ w + (2 ^ w - 1), omega arith, omega arith, sym (mod_low (low / 2 ^ w) w (2 ^ w - 1) (omega arith)))

ends_among : (w low high : ℕ) → low ≤ high → IsWordBetween w low high (wrapped w low high).lo × IsWordBetween w low high (wrapped w low high).hi
ends_among w low high order =
    at_choice (λ x. IsWordBetween w low high x.lo × IsWordBetween w low high x.hi) (low / 2 ^ w == high / 2 ^ w) (from_to (low % 2 ^ w) (high % 2 ^ w)) (all w)
    (λ e. ((low, le_refl low, order, refl), (high, order, le_refl high, refl)))
    (λ e.
    let more = quotient_mono low high (2 ^ w) (2 ^ w) order (le_refl (2 ^ w)) (pow_pos w) in
    let apart : low / 2 ^ w < high / 2 ^ w = grind (arith, nat_tests) in
    (zero_among w low high order apart, greatest_among w low high order apart))

pub least_wrapped : LeastWrapped
least_wrapped w low high order =
    let ends = ends_among w low high order in
    least_by_ends (IsWordBetween w low high) (wrapped w low high)
    (λ r p. subst (Holds (wrapped w low high)) (sym p.3) (wrapped_holds w low high p.0 p.1 p.2).0)
    ends.0 ends.1

-- ---- sums and differences
-- each whole number between the sums of the ends is a sum
sum_between : (a b c d s : ℕ) → a ≤ b → c ≤ d → a + c ≤ s → s ≤ b + d
    → (m : ℕ) × (n : ℕ) × ((a ≤ m) × (m ≤ b)) × ((c ≤ n) × (n ≤ d)) × (m + n ≡ s)
sum_between a b c d s first second low high =
    let m = min b (s - c) in
    (m, s - m, (omega arith, omega arith), (omega arith, omega arith), omega arith)

one_least : (f : ℕ → ℕ → ℕ) (x y : Range) → x.lo ≡ x.hi → y.lo ≡ y.hi → IsLeast (IsProduct f x y) (one (f x.lo y.lo))
one_least f x y first second =
    let itself : IsProduct f x y (f x.lo y.lo) = (x.lo, y.lo, (omega arith, omega arith), (omega arith, omega arith), refl) in
    least_by_ends (IsProduct f x y) (one (f x.lo y.lo))
    (λ r p.
    let a = p.2.0 in let b = p.2.1 in let c = p.3.0 in let d = p.3.1 in
    let left : x.lo ≡ p.0 = omega arith in
    let right : y.lo ≡ p.1 = omega arith in
    let same : f p.0 p.1 ≡ f x.lo y.lo = ap₂ f (sym left) (sym right) in
    let result = p.4 in
    (omega arith, omega arith))
    itself itself

row_least : (op : BinaryOperation) (w : ℕ) (x y : Range) → IsLeast (IsProduct (op2_of op w) x y) (row_of op w x y) → IsLeast (IsProduct (op2_of op w) x y) (op2_range op w x y)
row_least op w x y h =
    at_choice (IsLeast (IsProduct (op2_of op w) x y)) (is_one x && is_one y) (one (op2_of op w x.lo y.lo)) (row_of op w x y)
    (λ e. one_least (op2_of op w) x y (grind (arith, nat_tests)) (grind (arith, nat_tests)))
    (λ e. h)

add_least : (w : ℕ) (x y : Range) → Fits w x → Fits w y → IsLeast (IsProduct (op2_of Add w) x y) (row_of Add w x y)
add_least w x y fx fy =
    let a = fx.0 in let b = fy.0 in
    least_of_same (IsWordBetween w (x.lo + y.lo) (x.hi + y.hi)) (IsProduct (op2_of Add w) x y) (row_of Add w x y)
    (λ r p.
    let s = sum_between x.lo x.hi y.lo y.hi p.0 a b p.1 p.2 in
    (s.0, s.1, s.2, s.3, same_word w p.0 (s.0 + s.1) r p.3 (sym s.4)))
    (λ r p.
    let c = p.2.0 in let d = p.2.1 in let e = p.3.0 in let f = p.3.1 in
    (p.0 + p.1, omega arith, omega arith, p.4))
    (least_wrapped w (x.lo + y.lo) (x.hi + y.hi) (omega arith))

sub_least : (w : ℕ) (x y : Range) → Fits w x → Fits w y → IsLeast (IsProduct (op2_of Sub w) x y) (row_of Sub w x y)
sub_least w x y fx fy =
    let a = fx.0 in let b = fy.0 in let fits = fy.1 in
    least_of_same (IsWordBetween w (x.lo + 2 ^ w - y.hi) (x.hi + 2 ^ w - y.lo)) (IsProduct (op2_of Sub w) x y) (row_of Sub w x y)
    (λ r p.
    let low = p.1 in let high = p.2 in
    let s = sum_between x.lo x.hi 0 (y.hi - y.lo) (p.0 - (2 ^ w - y.hi)) a (omega arith) (omega arith) (omega arith) in
    let bound = s.3.1 in let sum = s.4 in
    let back : p.0 ≡ s.0 + 2 ^ w - (y.hi - s.1) = omega arith in
    (s.0, y.hi - s.1, s.2, (omega arith, omega arith), same_word w p.0 (s.0 + 2 ^ w - (y.hi - s.1)) r p.3 back))
    (λ r p.
    let c = p.2.0 in let d = p.2.1 in let e = p.3.0 in let f = p.3.1 in
    (p.0 + 2 ^ w - p.1, omega arith, omega arith, p.4))
    (least_wrapped w (x.lo + 2 ^ w - y.hi) (x.hi + 2 ^ w - y.lo) (omega arith))

-- ---- negations and complements
neg_least : (w : ℕ) (x : Range) → Fits w x → IsLeast (IsImage (op1_of Neg w) x) (op1_range Neg w x)
neg_least w x fits =
    let order = fits.0 in let below = fits.1 in
    least_of_same (IsWordBetween w (2 ^ w - x.hi) (2 ^ w - x.lo)) (IsImage (op1_of Neg w) x) (op1_range Neg w x)
    (λ r p.
    let low = p.1 in let high = p.2 in
    let back : p.0 ≡ 2 ^ w - (2 ^ w - p.0) = omega arith in
    (2 ^ w - p.0, (omega arith, omega arith), same_word w p.0 (2 ^ w - (2 ^ w - p.0)) r p.3 back))
    (λ r p. let low = p.1.0 in let high = p.1.1 in (2 ^ w - p.0, omega arith, omega arith, p.2))
    (least_wrapped w (2 ^ w - x.hi) (2 ^ w - x.lo) (omega arith))

not_least : (w : ℕ) (x : Range) → IsWidth w → Fits w x → IsLeast (IsImage (op1_of Not w) x) (op1_range Not w x)
not_least w x width fits =
    least_by_ends (IsImage (op1_of Not w) x) (op1_range Not w x)
    (λ r p. subst (Holds (op1_range Not w x)) (sym p.2) (op1_holds Not w p.0 x width fits p.1).0)
    (x.hi, (fits.0, le_refl x.hi), refl)
    (x.lo, (le_refl x.lo, fits.0), refl)

one_operand_least : (op : UnaryOperation) (w : ℕ) (x : Range) → IsWidth w → Fits w x → IsLeast (IsImage (op1_of op w) x) (op1_range op w x)
one_operand_least Neg w x width fits = neg_least w x fits
one_operand_least Not w x width fits = not_least w x width fits

pub least_results : LeastResults
least_results w x y width fx fy = (
  λ op. one_operand_least op w x width fx,
  row_least Add w x y (add_least w x y fx fy),
  row_least Sub w x y (sub_least w x y fx fy),
)

-- ---- casts
pub least_casts : LeastCasts
least_casts narrow wide x widths = (
  λ fits. least_by_ends (IsImage (zext_number narrow wide) x) (zext_of x)
      (λ r p. subst (Holds x) (sym p.2) p.1)
      (x.lo, (le_refl x.lo, fits.0), refl)
      (x.hi, (fits.0, le_refl x.hi), refl),
  λ fits. least_by_ends (IsImage (sext_number narrow wide) x) (sext_of narrow wide x)
      (λ r p. subst (Holds (sext_of narrow wide x)) (sym p.2) (sext_sound narrow wide p.0 x widths fits p.1).0)
      (x.lo, (le_refl x.lo, fits.0), refl)
      (x.hi, (fits.0, le_refl x.hi), refl),
  λ fits. least_of_same (IsWordBetween narrow x.lo x.hi) (IsImage (trunc_number wide narrow) x) (trunc_of narrow x)
      (λ r p. (p.0, (p.1, p.2), p.3))
      (λ r p. (p.0, p.1.0, p.1.1, p.2))
      (least_wrapped narrow x.lo x.hi fits.0),
)

-- ---- numbers of ones
pub least_ones : LeastOnes
least_ones w n below =
    let digits = ones_over_digits w n below in
    let whole = digits.ones_are in let within = digits.below in let least = digits.least in (
      (digits.digits, omega arith),
      omega arith,
      λ j more.
          elim (cases_lt j digits.digits) [
            | inl less ↦
                let step : 2 ^ suc j ≤ 2 ^ digits.digits = pow_mono (omega arith) in
                let twice = pow-succ' 2 j in
                let some = pow_pos j in
                absurd (omega arith)
            | inr over ↦ let step : 2 ^ digits.digits ≤ 2 ^ j = pow_mono over in omega arith
          ],
    )
