-- What each operation on strided intervals owes, and why it holds.
use Rattle.std.proofs.Common.{◌≡◌, ℕ, zero, suc, ◌+◌, ◌-◌, ◌*◌, ◌/◌, ◌%◌, ◌<◌, ◌≤◌, ◌^◌, refl, sym, ap, ◌∙◌, subst, arith, Bool, true, false, IsTrue, Option, Some, None, div-mul-le_self, mul-le-mul_right, mod-lt, pow_pos, le_refl, bit_and, ◌⊎◌, inl, inr}
use Rattle.std.specs.Prelude.{◌==◌, ◌&&◌, nat_lt, if◌then◌else◌}
use Rattle.std.specs.Int.{◌∣◌}
use Rattle.std.proofs.Math.Nat.{mod-eq_of_lt, le_of_dvd, dvd-zero, dvd_trans, dvd-add, dvd-sub, dvd-mul_left, one-dvd, div-mul_cancel, mod-mod_of_dvd, add-mul-mod_self_right, add-mul-div_right, mul-dvd-mul, mul-dvd-mul_right, dvd_of_mul-dvd-mul_right, pow-le-pow_right, div-le_self}
use Rattle.std.proofs.lemmas.Bool.{cases_lt}
use Rattle.std.proofs.lemmas.Bool.Decides.{nat_tests}
use Rattle.std.proofs.lemmas.Nat.{div-add-mod', mul-le, and_mask, and_comm, and-not}
use Rattle.word_operations.proofs.Bounds.{shr_s_low, rot_l_exact, sext_low, sext_high}
use Rattle.word_operations.proofs.Fits.{sext_of_fits}
use Rattle.word_operations.specs.declared.kinds.UnaryOperation.{UnaryOperation}
use Rattle.word_operations.specs.declared.kinds.UnaryOperation.TheVariants.{Neg, Not}
use Rattle.word_operations.specs.declared.kinds.BinaryOperation.{BinaryOperation}
use Rattle.word_operations.specs.declared.kinds.BinaryOperation.TheVariants.{Add, Sub, Mul, And, Or, Xor, Shl, ShrU, ShrS, RotL, DivU, DivS, RemU, RemS, MulHiU, MulHiS}
use Rattle.word_operations.specs.Op1.{op1_of}
use Rattle.word_operations.specs.Op2.{op2_of, places}
use Rattle.word_operations.specs.Casts.{sext_of as sext_number}
use Rattle.word_operations.specs.Width.{IsWidth}
use Rattle.base_trait.specs.Laws.{IsExtension}
use Rattle.base_trait.proofs.Tests.{at_choice, and_parts}
use Rattle.base_interval.specs.Quotients.{quotient_mono}
use Rattle.base_interval.specs.Operations.{op2_range}
use Rattle.base_interval.specs.Results.{op2_holds, held}
use Rattle.base_interval.specs.Sext.{sext_mono}
use Rattle.base_interval.specs.Signs.{crosses, is_low}
use Rattle.base_interval.specs.Sound.{HoldsWord as RangeHolds}
use Rattle.base_interval.specs.declared.range.Range.{Range}
use Rattle.base_strides.specs.Gcd.{gcd, gcd_is}
use Rattle.base_strides.specs.Rows.{range, loosely, is_one, narrow, wrapped, add_row, sub_row, mul_step, mul_row, shl_by, shr_by, as_intervals, shl_row, shr_row, shr_s_row, rot_row, exponent, cleared, clear_low, and_high, and_low, and_with, and_row, op2_row, op1_row, trunc_row, sext_row}
use Rattle.base_strides.specs.Stretch.{Holds, IsWhole, stretch, one, divides, divides_told, stretch_holds, stretch_whole, stretch_below, one_whole}
use Rattle.base_strides.specs.declared.stretch.Stretch.{Stretch}

-- a stretch of words of w bits
pub record IsPart (w : ℕ) (x : Stretch) : Type 0 where
  pub whole : IsWhole x
  pub fits : x.hi < 2 ^ w

-- and it holds the number
pub record HoldsWord (w : ℕ) (x : Stretch) (n : ℕ) : Type 0 where
  pub holds : Holds x n
  pub part : IsPart w x

pub record AreHeld (w : ℕ) (x y : Stretch) (m n : ℕ) : Type 0 where
  pub width : IsWidth w
  pub left : HoldsWord w x m
  pub right : HoldsWord w y n

abbrev pub IsSound : BinaryOperation → (ℕ → Stretch → Stretch → Stretch) → Type 0
IsSound op row = (w m n : ℕ) (x y : Stretch) → AreHeld w x y m n → HoldsWord w (row w x y) (op2_of op w m n)

-- ---- stretches by their ends
pub part_of : (w low step high n : ℕ) → low ≤ n → n ≤ high → step ∣ n - low → high < 2 ^ w → HoldsWord w (stretch low step high) n
part_of w low step high n a b d f =
    let below = stretch_below low step high (omega arith) in
    record { holds = stretch_holds low step high n a b d; part = record { whole = stretch_whole low step high; fits = omega (arith, below) } }

pub narrow_part : (w low step high n : ℕ) → low ≤ n → n ≤ high → step ∣ n - low → high < 2 ^ w → HoldsWord w (narrow low step high) n
narrow_part w low step high n a b d f =
    at_choice (λ r. HoldsWord w r n) (nat_lt (high - low) step) (one low) (stretch low step high)
    (λ e.
    let far : high - low < step = grind (arith, nat_tests) in
    let same : low ≡ n = alone (n - low) refl d (omega (arith, far)) in
    subst (λ z. HoldsWord w (one z) n) (sym same) (record {
      holds = record { above = omega arith; below = omega arith; class = subst (λ z. 0 ∣ z) (omega arith) (dvd-zero 0) };
      part = record { whole = one_whole n; fits = omega arith };
    }))
    (λ e. part_of w low step high n a b d f)
  where
    alone : (k : ℕ) → k ≡ n - low → step ∣ n - low → n - low < step → low ≡ n
    alone zero e d l = omega arith
    alone (suc k) e d l = let less = le_of_dvd {m = step} {n = n - low} (omega (arith, e)) d in absurd (omega (arith, less, l))

pub held_fits : (w n : ℕ) (x : Stretch) → HoldsWord w x n → n < 2 ^ w
held_fits w n x h = let below = h.holds.below in let fits = h.part.fits in omega arith

-- the remainders of two numbers of one class
mod_same : (d m n : ℕ) → m ≤ n → d ∣ n - m → n % d ≡ m % d
mod_same d m n h k =
    let whole = div-mul_cancel d k in
    let e : n ≡ m + (n - m) / d * d = omega (arith, whole) in
    ap (λ z. z % d) e ∙ add-mul-mod_self_right m ((n - m) / d) d

rest_divides : (d n : ℕ) → d ∣ n - n % d
rest_divides d n =
    let whole = div-add-mod' n d in
    let e : n / d * d ≡ n - n % d = omega (arith, whole) in
    subst (λ z. d ∣ z) e (dvd-mul_left d (n / d))

rest_le : (d n : ℕ) → n % d ≤ n
rest_le d n = let whole = div-add-mod' n d in omega (arith, whole)

-- below a divisor m of 2 ^ w, or 2 ^ w itself
pub wrapped_holds : (w m low step high n : ℕ) → 0 < m → m ≤ 2 ^ w → low ≤ n → n ≤ high → step ∣ n - low
    → HoldsWord w (wrapped m low step high) (n % m)
wrapped_holds w m low step high n some fits a b d =
    at_choice (λ r. HoldsWord w r (n % m)) (low / m == high / m) (narrow (low % m) step (high % m)) (narrow (low % gcd step m) (gcd step m) (m - 1))
    (λ e.
    let same : low / m ≡ high / m = grind (arith, nat_tests) in
    let first = quotient_mono low n m m a (le_refl m) some in
    let second = quotient_mono n high m m b (le_refl m) some in
    let middle : n / m ≡ low / m = omega arith in
    let at_low = div-add-mod' low m in
    let at_n : low / m * m + n % m ≡ n = subst (λ q. q * m + n % m ≡ n) middle (div-add-mod' n m) in
    let at_high : low / m * m + high % m ≡ high = subst (λ q. q * m + high % m ≡ high) (sym same) (div-add-mod' high m) in
    let less = mod-lt high some in
    let rest : n - low ≡ n % m - low % m = omega (arith, at_low, at_n) in
    narrow_part w (low % m) step (high % m) (n % m) (omega (arith, at_low, at_n)) (omega (arith, at_high, at_n)) (subst (λ z. step ∣ z) rest d) (omega (arith, less)))
    (λ e.
    let g = gcd step m in
    let is = gcd_is step m in
    let class : n % m % g ≡ low % g = mod-mod_of_dvd g n is.1 ∙ mod_same g low n a (dvd_trans g is.0 d) in
    let less = mod-lt n some in
    let low_end = rest_le g (n % m) in
    narrow_part w (low % g) g (m - 1) (n % m) (omega (arith, class, low_end)) (omega (arith, less)) (subst (λ z. g ∣ n % m - z) class (rest_divides g (n % m))) (omega arith))

-- ---- sums and differences
pub add_sound : IsSound Add add_row
add_sound w m n x y h =
    let p = h.left.holds in let q = h.right.holds in
    let a = p.above in let b = p.below in let c = q.above in let d = q.below in
    let g = gcd x.step y.step in let is = gcd_is x.step y.step in
    let sum : m - x.lo + (n - y.lo) ≡ m + n - (x.lo + y.lo) = omega arith in
    wrapped_holds w (2 ^ w) (x.lo + y.lo) g (x.hi + y.hi) (m + n) (pow_pos w) (le_refl (2 ^ w)) (omega arith) (omega arith)
    (subst (λ z. g ∣ z) sum (dvd-add g (dvd_trans g is.0 p.class) (dvd_trans g is.1 q.class)))

-- how far a number is from the high end
pub from_high : (x : Stretch) (n : ℕ) → IsWhole x → Holds x n → x.step ∣ x.hi - n
from_high x n h k =
    let a = k.above in let b = k.below in
    let e : x.hi - x.lo - (n - x.lo) ≡ x.hi - n = omega arith in
    subst (λ z. x.step ∣ z) e (dvd-sub x.step h.class k.class)

pub sub_sound : IsSound Sub sub_row
sub_sound w m n x y h =
    let p = h.left.holds in let q = h.right.holds in
    let a = p.above in let b = p.below in let c = q.above in let d = q.below in
    let fits = h.right.part.fits in
    let g = gcd x.step y.step in let is = gcd_is x.step y.step in
    let sum : m - x.lo + (y.hi - n) ≡ m + 2 ^ w - n - (x.lo + 2 ^ w - y.hi) = omega arith in
    wrapped_holds w (2 ^ w) (x.lo + 2 ^ w - y.hi) g (x.hi + 2 ^ w - y.lo) (m + 2 ^ w - n) (pow_pos w) (le_refl (2 ^ w)) (omega arith) (omega arith)
    (subst (λ z. g ∣ z) sum (dvd-add g (dvd_trans g is.0 p.class) (dvd_trans g is.1 (from_high y n h.right.part.whole q))))

-- ---- products
product_split : (k a l b : ℕ) → a * l + (b * k + a * b) ≡ (k + a) * (l + b) - k * l
product_split k a l b = omega arith

pub mul_sound : IsSound Mul mul_row
mul_sound w m n x y h =
    let p = h.left.holds in let q = h.right.holds in
    let a = p.above in let b = p.below in let c = q.above in let d = q.below in
    let g = mul_step x y in
    let outer = gcd_is (gcd (x.step * y.lo) (y.step * x.lo)) (x.step * y.step) in
    let inner = gcd_is (x.step * y.lo) (y.step * x.lo) in
    let first : g ∣ (m - x.lo) * y.lo = dvd_trans g (dvd_trans g outer.0 inner.0) (mul-dvd-mul_right x.step p.class y.lo) in
    let second : g ∣ (n - y.lo) * x.lo = dvd_trans g (dvd_trans g outer.0 inner.1) (mul-dvd-mul_right y.step q.class x.lo) in
    let third : g ∣ (m - x.lo) * (n - y.lo) = dvd_trans g outer.1 (mul-dvd-mul x.step y.step p.class q.class) in
    let left : x.lo + (m - x.lo) ≡ m = omega arith in
    let right : y.lo + (n - y.lo) ≡ n = omega arith in
    let split : (m - x.lo) * y.lo + ((n - y.lo) * x.lo + (m - x.lo) * (n - y.lo)) ≡ m * n - x.lo * y.lo
    = product_split x.lo (m - x.lo) y.lo (n - y.lo) ∙ ap (λ z. z * (y.lo + (n - y.lo)) - x.lo * y.lo) left ∙ ap (λ z. m * z - x.lo * y.lo) right in
    wrapped_holds w (2 ^ w) (x.lo * y.lo) g (x.hi * y.hi) (m * n) (pow_pos w) (le_refl (2 ^ w)) (mul-le x.lo y.lo m n a c) (mul-le m n x.hi y.hi b d)
    (subst (λ z. g ∣ z) split (dvd-add g first (dvd-add g second third)))

-- ---- as intervals
pub loosely_holds : (w n : ℕ) (r : Range) → RangeHolds w r n → HoldsWord w (loosely r) n
loosely_holds w n r h = part_of w r.lo 1 r.hi n h.0.0 h.0.1 (one-dvd (n - r.lo)) h.1

pub intervals_sound : (op : BinaryOperation) → IsSound op (as_intervals op)
intervals_sound op w m n x y h =
    let p = h.left.holds in let q = h.right.holds in
    loosely_holds w (op2_of op w m n) (op2_range op w (range x) (range y))
    (op2_holds op w m n (range x) (range y)
    (held w m n (range x) (range y) h.width (h.left.part.whole.above, h.left.part.fits) (h.right.part.whole.above, h.right.part.fits) (p.above, p.below) (q.above, q.below)))

-- ---- shifts by one number
the_one : (y : Stretch) (n : ℕ) → IsTrue (is_one y) → Holds y n → y.lo ≡ n
the_one y n e h = let a = h.above in let b = h.below in grind (arith, nat_tests)

pub shl_by_holds : (w m k : ℕ) (x : Stretch) → HoldsWord w x m → HoldsWord w (shl_by w x k) (m * 2 ^ k % 2 ^ w)
shl_by_holds w m k x h =
    let p = h.holds in
    let split : (m - x.lo) * 2 ^ k ≡ m * 2 ^ k - x.lo * 2 ^ k = let a = p.above in times m x.lo (2 ^ k) a in
    wrapped_holds w (2 ^ w) (x.lo * 2 ^ k) (x.step * 2 ^ k) (x.hi * 2 ^ k) (m * 2 ^ k) (pow_pos w) (le_refl (2 ^ w)) (mul-le-mul_right (2 ^ k) p.above) (mul-le-mul_right (2 ^ k) p.below)
    (subst (λ z. x.step * 2 ^ k ∣ z) split (mul-dvd-mul_right x.step p.class (2 ^ k)))
  where
    times : (a b c : ℕ) → b ≤ a → (a - b) * c ≡ a * c - b * c
    times a b c l = let e : b + (a - b) ≡ a = omega arith in let f : (b + (a - b)) * c ≡ a * c = ap (λ z. z * c) e in omega (arith, f)

pub shl_sound : IsSound Shl shl_row
shl_sound w m n x y h =
    at_choice (λ r. HoldsWord w r (op2_of Shl w m n)) (is_one y) (shl_by w x (places w y.lo)) (as_intervals Shl w x y)
    (λ e. subst (λ k. HoldsWord w (shl_by w x (places w y.lo)) (m * 2 ^ places w k % 2 ^ w)) (the_one y n e h.right.holds) (shl_by_holds w m (places w y.lo) x h.left))
    (λ e. intervals_sound Shl w m n x y h)

-- a quotient by a divisor of how far two numbers are apart
quotient_apart : (d m n : ℕ) → 0 < d → m ≤ n → d ∣ n - m → n / d ≡ m / d + (n - m) / d
quotient_apart d m n some h k =
    let whole = div-mul_cancel d k in
    let e : n ≡ m + (n - m) / d * d = omega (arith, whole) in
    ap (λ z. z / d) e ∙ add-mul-div_right m ((n - m) / d) some

shr_class : (d s lo m : ℕ) → 0 < d → lo ≤ m → s ∣ m - lo → (b : Bool) → b ≡ divides d s → (if b then s / d else 1) ∣ m / d - lo / d
shr_class d s lo m some a h false e = one-dvd (m / d - lo / d)
shr_class d s lo m some a h true e =
    let by : d ∣ s = (divides_told d s).0 (sym e) in
    let far = dvd_trans d by h in
    let steps : s / d * d ≡ s = div-mul_cancel d by in
    let whole : (m - lo) / d * d ≡ m - lo = div-mul_cancel d far in
    let scaled : s / d * d ∣ (m - lo) / d * d = subst (λ z. z ∣ (m - lo) / d * d) (sym steps) (subst (λ z. s ∣ z) (sym whole) h) in
    let q = quotient_apart d lo m some a far in
    let rest : (m - lo) / d ≡ m / d - lo / d = omega (arith, q) in
    subst (λ z. s / d ∣ z) rest (dvd_of_mul-dvd-mul_right (s / d) some scaled)

pub shr_by_holds : (w m k : ℕ) (x : Stretch) → HoldsWord w x m → HoldsWord w (shr_by x k) (m / 2 ^ k)
shr_by_holds w m k x h =
    let p = h.holds in let fits = h.part.fits in
    let d = 2 ^ k in
    let less = div-le_self x.hi d in
    part_of w (x.lo / d) (if divides d x.step then x.step / d else 1) (x.hi / d) (m / d)
    (quotient_mono x.lo m d d p.above (le_refl d) (pow_pos k)) (quotient_mono m x.hi d d p.below (le_refl d) (pow_pos k))
    (shr_class d x.step x.lo m (pow_pos k) p.above p.class (divides d x.step) refl) (omega (arith, less))

pub shr_sound : IsSound ShrU shr_row
shr_sound w m n x y h =
    at_choice (λ r. HoldsWord w r (op2_of ShrU w m n)) (is_one y) (shr_by x (places w y.lo)) (as_intervals ShrU w x y)
    (λ e. subst (λ k. HoldsWord w (shr_by x (places w y.lo)) (m / 2 ^ places w k)) (the_one y n e h.right.holds) (shr_by_holds w m (places w y.lo) x h.left))
    (λ e. intervals_sound ShrU w m n x y h)

pub shr_s_sound : IsSound ShrS shr_s_row
shr_s_sound w m n x y h =
    at_choice (λ r. HoldsWord w r (op2_of ShrS w m n)) (is_low w (range x)) (shr_row w x y) (as_intervals ShrS w x y)
    (λ e.
    let below = h.left.holds.below in
    let low : 2 * m < 2 ^ w = grind (arith, nat_tests, below) in
    subst (HoldsWord w (shr_row w x y)) (sym (shr_s_low w m n low)) (shr_sound w m n x y h))
    (λ e. intervals_sound ShrS w m n x y h)

pub rot_sound : IsSound RotL rot_row
rot_sound w m n x y h =
    at_choice (λ r. HoldsWord w r (op2_of RotL w m n)) (is_one y && nat_lt (x.hi * 2 ^ (y.lo % w)) (2 ^ w)) (shl_by w x (y.lo % w)) (as_intervals RotL w x y)
    (λ e. turned (and_parts (is_one y) (nat_lt (x.hi * 2 ^ (y.lo % w)) (2 ^ w)) e)) (λ e. intervals_sound RotL w m n x y h)
  where
    turned : IsTrue (is_one y) × IsTrue (nat_lt (x.hi * 2 ^ (y.lo % w)) (2 ^ w)) → HoldsWord w (shl_by w x (y.lo % w)) (op2_of RotL w m n)
    turned tests =
        let room = tests.1 in
        let fits : x.hi * 2 ^ (y.lo % w) < 2 ^ w = grind (arith, nat_tests, room) in
        let less : m * 2 ^ (y.lo % w) ≤ x.hi * 2 ^ (y.lo % w) = mul-le-mul_right (2 ^ (y.lo % w)) h.left.holds.below in
        let small : m * 2 ^ (y.lo % w) < 2 ^ w = omega (arith, fits, less) in
        let is : m * 2 ^ (y.lo % w) % 2 ^ w ≡ op2_of RotL w m y.lo = mod-eq_of_lt small ∙ sym (rot_l_exact w m y.lo small h.width.0) in
        subst (λ k. HoldsWord w (shl_by w x (y.lo % w)) (op2_of RotL w m k)) (the_one y n tests.0 h.right.holds)
        (subst (HoldsWord w (shl_by w x (y.lo % w))) is (shl_by_holds w m (y.lo % w) x h.left))

-- ---- masks
exponent_is : (k n j : ℕ) → exponent k n ≡ Some j → (n ≡ 2 ^ j) × (j ≤ k)
exponent_is zero n j e = at_test (n == 1) refl e
  where
    at_test : (b : Bool) → b ≡ (n == 1) → (if b then Some 0 else None) ≡ Some j → (n ≡ 2 ^ j) × (j ≤ 0)
    at_test true f g = let same : 0 ≡ j = cc in let one : n ≡ 1 = grind (arith, nat_tests) in (one ∙ ap (λ z. 2 ^ z) same, omega (arith, same))
    at_test false f g = cc
exponent_is (suc k) n j e = at_test (n == 2 ^ suc k) refl e (exponent_is k n j)
  where
    at_test : (b : Bool) → b ≡ (n == 2 ^ suc k) → (if b then Some (suc k) else exponent k n) ≡ Some j → (exponent k n ≡ Some j → (n ≡ 2 ^ j) × (j ≤ k)) → (n ≡ 2 ^ j) × (j ≤ suc k)
    at_test true f g i = let same : suc k ≡ j = cc in let one : n ≡ 2 ^ suc k = grind (arith, nat_tests) in (one ∙ ap (λ z. 2 ^ z) same, omega (arith, same))
    at_test false f g i = let r = i g in (r.0, omega (arith, r.1))

clear_class : (d s lo m : ℕ) → 0 < d → lo ≤ m → s ∣ m - lo → (b : Bool) → b ≡ divides d s → (if b then s else d) ∣ m / d * d - lo / d * d
clear_class d s lo m some a h false e = dvd-sub d (dvd-mul_left d (m / d)) (dvd-mul_left d (lo / d))
clear_class d s lo m some a h true e =
    let by : d ∣ s = (divides_told d s).0 (sym e) in
    let far = dvd_trans d by h in
    let whole : (m - lo) / d * d ≡ m - lo = div-mul_cancel d far in
    let q = quotient_apart d lo m some a far in
    let scaled : m / d * d ≡ (lo / d + (m - lo) / d) * d = ap (λ z. z * d) q in
    let rest : m - lo ≡ m / d * d - lo / d * d = omega (arith, scaled, whole) in
    subst (λ z. s ∣ z) rest h

clear_holds : (w m k : ℕ) (x : Stretch) → HoldsWord w x m → HoldsWord w (clear_low x k) (cleared k m)
clear_holds w m k x h =
    let p = h.holds in let fits = h.part.fits in
    let d = 2 ^ k in
    let less = div-mul-le_self x.hi d in
    narrow_part w (cleared k x.lo) (if divides d x.step then x.step else d) (cleared k x.hi) (cleared k m)
    (mul-le-mul_right d (quotient_mono x.lo m d d p.above (le_refl d) (pow_pos k))) (mul-le-mul_right d (quotient_mono m x.hi d d p.below (le_refl d) (pow_pos k)))
    (clear_class d x.step x.lo m (pow_pos k) p.above p.class (divides d x.step) refl) (omega (arith, less))

and_cleared : (w m k c : ℕ) → k ≤ w → m < 2 ^ w → c < 2 ^ w → 2 ^ w - c ≡ 2 ^ k → bit_and m c ≡ cleared k m
and_cleared w m k c within fits below e =
    let some = pow_pos k in
    let power : 2 ^ k ≤ 2 ^ w = pow-le-pow_right (omega arith) within in
    let mask : 2 ^ w - 1 - (2 ^ k - 1) ≡ c = omega arith in
    let parts = and-not w (2 ^ k - 1) m (omega arith) fits in
    let high : bit_and (2 ^ w - 1 - (2 ^ k - 1)) m ≡ bit_and m c = and_comm (2 ^ w - 1 - (2 ^ k - 1)) m ∙ ap (bit_and m) mask in
    let low : bit_and (2 ^ k - 1) m ≡ m % 2 ^ k = and_comm (2 ^ k - 1) m ∙ and_mask m k in
    let whole = div-add-mod' m (2 ^ k) in
    omega (arith, parts, high, low, whole)

and_masked : (m k c : ℕ) → c + 1 ≡ 2 ^ k → bit_and m c ≡ m % 2 ^ k
and_masked m k c e = let mask : c ≡ 2 ^ k - 1 = omega arith in ap (bit_and m) mask ∙ and_mask m k

-- one number c
and_with_holds : (w m c : ℕ) (x : Stretch) → IsWidth w → HoldsWord w x m → c < 2 ^ w → HoldsWord w (and_with w x c) (bit_and m c)
and_with_holds w m c x width h below = low (exponent w (c + 1)) refl
  where
    alone : HoldsWord w (one c) c
    alone = let none : c - c ≡ 0 = omega arith in
        record { holds = record { above = omega arith; below = omega arith; class = subst (λ z. 0 ∣ z) (sym none) (dvd-zero 0) }; part = record { whole = one_whole c; fits = below } }

    high : (e : Option ℕ) → e ≡ exponent w (2 ^ w - c) → HoldsWord w (and_high e w x c) (bit_and m c)
    high None f = intervals_sound And w m c x (one c) (record { width = width; left = h; right = alone })
    high (Some k) f =
        let is = exponent_is w (2 ^ w - c) k (sym f) in
        subst (HoldsWord w (clear_low x k)) (sym (and_cleared w m k c is.1 (held_fits w m x h) below is.0)) (clear_holds w m k x h)

    low : (e : Option ℕ) → e ≡ exponent w (c + 1) → HoldsWord w (and_low e w x c) (bit_and m c)
    low None f = high (exponent w (2 ^ w - c)) refl
    low (Some k) f =
        let is = exponent_is w (c + 1) k (sym f) in
        let p = h.holds in
        subst (HoldsWord w (wrapped (2 ^ k) x.lo x.step x.hi)) (sym (and_masked m k c is.0))
        (wrapped_holds w (2 ^ k) x.lo x.step x.hi m (pow_pos k) (pow-le-pow_right (omega arith) is.1) p.above p.below p.class)

pub and_sound : IsSound And and_row
and_sound w m n x y h =
    at_choice (λ r. HoldsWord w r (bit_and m n)) (is_one y) (and_with w x y.lo) (if is_one x then and_with w y x.lo else as_intervals And w x y)
    (λ e.
    let same = the_one y n e h.right.holds in
    subst (λ k. HoldsWord w (and_with w x y.lo) (bit_and m k)) same (and_with_holds w m y.lo x h.width h.left (subst (λ k. k < 2 ^ w) (sym same) (held_fits w n y h.right))))
    (λ e.
    at_choice (λ r. HoldsWord w r (bit_and m n)) (is_one x) (and_with w y x.lo) (as_intervals And w x y)
    (λ f.
    let same = the_one x m f h.left.holds in
    subst (HoldsWord w (and_with w y x.lo)) (and_comm n m)
    (subst (λ k. HoldsWord w (and_with w y x.lo) (bit_and n k)) same (and_with_holds w n x.lo y h.width h.right (subst (λ k. k < 2 ^ w) (sym same) (held_fits w m x h.left)))))
    (λ f. intervals_sound And w m n x y h))

-- ---- all operations
pub row_sound : (op : BinaryOperation) → IsSound op (op2_row op)
row_sound Add = add_sound
row_sound Sub = sub_sound
row_sound Mul = mul_sound
row_sound And = and_sound
row_sound Shl = shl_sound
row_sound ShrU = shr_sound
row_sound Or = intervals_sound Or
row_sound Xor = intervals_sound Xor
row_sound ShrS = shr_s_sound
row_sound RotL = rot_sound
row_sound DivU = intervals_sound DivU
row_sound DivS = intervals_sound DivS
row_sound RemU = intervals_sound RemU
row_sound RemS = intervals_sound RemS
row_sound MulHiU = intervals_sound MulHiU
row_sound MulHiS = intervals_sound MulHiS

pub op1_sound : (op : UnaryOperation) (w n : ℕ) (x : Stretch) → HoldsWord w x n → HoldsWord w (op1_row op w x) (op1_of op w n)
op1_sound Neg w n x h =
    let p = h.holds in let a = p.above in let b = p.below in let fits = h.part.fits in
    let e : x.hi - n ≡ 2 ^ w - n - (2 ^ w - x.hi) = omega arith in
    wrapped_holds w (2 ^ w) (2 ^ w - x.hi) x.step (2 ^ w - x.lo) (2 ^ w - n) (pow_pos w) (le_refl (2 ^ w)) (omega arith) (omega arith)
    (subst (λ z. x.step ∣ z) e (from_high x n h.part.whole p))
op1_sound Not w n x h =
    let p = h.holds in let a = p.above in let b = p.below in let fits = h.part.fits in
    let e : x.hi - n ≡ 2 ^ w - 1 - n - (2 ^ w - 1 - x.hi) = omega arith in
    part_of w (2 ^ w - 1 - x.hi) x.step (2 ^ w - 1 - x.lo) (2 ^ w - 1 - n) (omega arith) (omega arith)
    (subst (λ z. x.step ∣ z) e (from_high x n h.part.whole p)) (omega (arith, pow_pos w))

pub trunc_sound : (to n : ℕ) (x : Stretch) → Holds x n → HoldsWord to (trunc_row to x) (n % 2 ^ to)
trunc_sound to n x p = wrapped_holds to (2 ^ to) x.lo x.step x.hi n (pow_pos to) (le_refl (2 ^ to)) p.above p.below p.class

-- words with the same sign bit are as far apart as before
sext_apart : (from to m n : ℕ) → from ≤ to → m ≤ n → n < 2 ^ from → (2 * n < 2 ^ from) ⊎ (2 ^ from ≤ 2 * m) → sext_number from to n - sext_number from to m ≡ n - m
sext_apart from to m n widens more below (inl low) = omega (arith, sext_low from to m widens (omega (arith, low)), sext_low from to n widens low)
sext_apart from to m n widens more below (inr high) =
    omega (arith, sext_high from to m widens (omega arith) high, sext_high from to n widens below (omega (arith, high)))

pub sext_row_sound : (from to n : ℕ) (x : Stretch) → IsExtension from to → HoldsWord from x n → HoldsWord to (sext_row from to x) (sext_number from to n)
sext_row_sound from to n x widths h =
    let p = h.holds in let above = p.above in let below = p.below in let fits = h.part.fits in
    part_of to (sext_number from to x.lo) (if crosses from (range x) then 1 else x.step) (sext_number from to x.hi) (sext_number from to n)
    (sext_mono from to x.lo n widths.order above (omega arith)) (sext_mono from to n x.hi widths.order below fits)
    (at_choice (λ s. s ∣ sext_number from to n - sext_number from to x.lo) (crosses from (range x)) 1 x.step
    (λ e. one-dvd (sext_number from to n - sext_number from to x.lo))
    (λ e. subst (λ z. x.step ∣ z) (sym (sext_apart from to x.lo n widths.order above (omega arith) (side e (cases_lt (2 * n) (2 ^ from))))) p.class))
    (sext_of_fits from to x.hi)
  where
    side : crosses from (range x) ≡ false → (2 * n < 2 ^ from) ⊎ (2 ^ from ≤ 2 * n) → (2 * n < 2 ^ from) ⊎ (2 ^ from ≤ 2 * x.lo)
    side e (inl low) = inl low
    side e (inr high) = let below = h.holds.below in inr (grind (arith, nat_tests))
