-- Numbers between which no cut lies compare alike with a number.
use Rattle.std.proofs.Common.{◌≡◌, ℕ, ◌+◌, ◌*◌, ◌^◌, pos, ◌-ℤ◌, ◌<◌, ◌≤◌, Bool, true, false, refl, sym, arith, IsTrue, ◌⊎◌, inl, inr}
use Rattle.std.specs.Prelude.{◌==◌, nat_lt, nat_le}
use Rattle.std.proofs.lemmas.Bool.Decides.{nat_tests}
use Rattle.std.proofs.lemmas.Int.{ints}
use Rattle.word_operations.specs.Cmp.{cmp_of}
use Rattle.word_operations.specs.Signed.{signed}
use Rattle.word_operations.specs.declared.kinds.WordComparison.TheVariants.{LtS, LeS}
use Rattle.word_operations.proofs.OrderLaws.{signed_order}
use Rattle.word_operations.proofs.Readings.{signed_high, signed_low}

-- of two tests that hold at the same time
same_less : (a b c d : ℕ) → (a < b → c < d) → (c < d → a < b) → nat_lt a b ≡ nat_lt c d
same_less a b c d f g = by (nat_lt a b) refl (nat_lt c d) refl
  where
    by : (p : Bool) → nat_lt a b ≡ p → (q : Bool) → nat_lt c d ≡ q → p ≡ q
    by true e true k = refl
    by false e false k = refl
    by true e false k = absurd (let less = f (grind (arith, nat_tests)) in grind (arith, nat_tests))
    by false e true k = absurd (let less = g (grind (arith, nat_tests)) in grind (arith, nat_tests))

same_least : (a b c d : ℕ) → (a ≤ b → c ≤ d) → (c ≤ d → a ≤ b) → nat_le a b ≡ nat_le c d
same_least a b c d f g = by (nat_le a b) refl (nat_le c d) refl
  where
    by : (p : Bool) → nat_le a b ≡ p → (q : Bool) → nat_le c d ≡ q → p ≡ q
    by true e true k = refl
    by false e false k = refl
    by true e false k = absurd (let less = f (grind (arith, nat_tests)) in grind (arith, nat_tests))
    by false e true k = absurd (let less = g (grind (arith, nat_tests)) in grind (arith, nat_tests))

same_equal : (a b c d : ℕ) → (a ≡ b → c ≡ d) → (c ≡ d → a ≡ b) → (a == b) ≡ (c == d)
same_equal a b c d f g = by (a == b) refl (c == d) refl
  where
    by : (p : Bool) → (a == b) ≡ p → (q : Bool) → (c == d) ≡ q → p ≡ q
    by true e true k = refl
    by false e false k = refl
    by true e false k = absurd (let same = f (grind (arith, nat_tests)) in grind (arith, nat_tests))
    by false e true k = absurd (let same = g (grind (arith, nat_tests)) in grind (arith, nat_tests))

pub equal_uncut : (m n y : ℕ) → m ≤ n → (m < y → n < y) → (m < y + 1 → n < y + 1) → (m == y) ≡ (n == y)
equal_uncut m n y h f g = same_equal m y n y
    (λ e. let less = g (omega (arith, e)) in omega (arith, e, less, h))
    (λ e. by (nat_lt m y) refl e)
  where
    by : (b : Bool) → nat_lt m y ≡ b → n ≡ y → m ≡ y
    by true k e = absurd (let less = f (grind (arith, nat_tests)) in omega (arith, e, less))
    by false k e = let least : y ≤ m = grind (arith, nat_tests) in omega (arith, e, least, h)

pub turned : (a b : ℕ) → (a == b) ≡ (b == a)
turned a b = same_equal a b b a (λ e. sym e) (λ e. sym e)

pub less_uncut : (m n y : ℕ) → m ≤ n → (m < y → n < y) → nat_lt m y ≡ nat_lt n y
less_uncut m n y h f = same_less m y n y f (λ k. omega (arith, h, k))

pub least_uncut : (m n y : ℕ) → m ≤ n → (m < y + 1 → n < y + 1) → nat_le m y ≡ nat_le n y
least_uncut m n y h f = same_least m y n y (λ k. let less = f (omega (arith, k)) in omega (arith, less)) (λ k. omega (arith, h, k))

pub above_uncut : (m n y : ℕ) → m ≤ n → (m < y + 1 → n < y + 1) → nat_lt y m ≡ nat_lt y n
above_uncut m n y h f = same_less y m y n (λ k. omega (arith, h, k)) (λ k. by (nat_lt y m) refl k)
  where
    by : (b : Bool) → nat_lt y m ≡ b → y < n → y < m
    by true e k = grind (arith, nat_tests)
    by false e k = let low : m ≤ y = grind (arith, nat_tests) in let less = f (omega (arith, low)) in omega (arith, less, k)

pub from_uncut : (m n y : ℕ) → m ≤ n → (m < y → n < y) → nat_le y m ≡ nat_le y n
from_uncut m n y h f = same_least y m y n (λ k. omega (arith, h, k)) (λ k. by (nat_le y m) refl k)
  where
    by : (b : Bool) → nat_le y m ≡ b → y ≤ n → y ≤ m
    by true e k = grind (arith, nat_tests)
    by false e k = let low : m < y = grind (arith, nat_tests) in let less = f low in omega (arith, less, k)

-- ---- signed orders are those of numbers half a turn further
-- a number of 32 bits, half a turn further
abbrev pub IsHalf : ℕ → ℕ → Type 0
IsHalf x y = ((x + 2 ^ 31 < 2 ^ 32) × (y ≡ x + 2 ^ 31)) ⊎ ((2 ^ 32 ≤ x + 2 ^ 31) × (y + 2 ^ 32 ≡ x + 2 ^ 31))

signed_half : (x y : ℕ) → IsHalf x y → signed 32 x ≡ pos y -ℤ pos (2 ^ 31)
signed_half x y (inl h) = let low : 2 * x < 2 ^ 32 = (let a = h.0 in omega (arith, a)) in let reads = signed_low 32 x low in let is = h.1 in omega (arith, ints, reads, is)
signed_half x y (inr h) = let high : 2 ^ 32 ≤ 2 * x = (let a = h.0 in omega (arith, a)) in let reads = signed_high 32 x high in let is = h.1 in omega (arith, ints, reads, is)

same_truth : (p q : Bool) → (IsTrue p → IsTrue q) → (IsTrue q → IsTrue p) → p ≡ q
same_truth true q f g = sym (f refl)
same_truth false true f g = g refl
same_truth false false f g = refl

pub less_half : (x y u v : ℕ) → IsHalf x u → IsHalf y v → cmp_of LtS 32 x y ≡ nat_lt u v
less_half x y u v hx hy =
    let a = signed_half x u hx in let b = signed_half y v hy in
    same_truth (cmp_of LtS 32 x y) (nat_lt u v)
    (λ t. let less = ((signed_order 32).1 x y).0.0 t in let below : u < v = omega (arith, ints, a, b, less) in grind (arith, nat_tests))
    (λ t. let below : u < v = grind (arith, nat_tests) in ((signed_order 32).1 x y).0.1 (omega (arith, ints, a, b, below)))

pub least_half : (x y u v : ℕ) → IsHalf x u → IsHalf y v → cmp_of LeS 32 x y ≡ nat_le u v
least_half x y u v hx hy =
    let a = signed_half x u hx in let b = signed_half y v hy in
    same_truth (cmp_of LeS 32 x y) (nat_le u v)
    (λ t. let less = ((signed_order 32).1 x y).1.0 t in let below : u ≤ v = omega (arith, ints, a, b, less) in grind (arith, nat_tests))
    (λ t. let below : u ≤ v = grind (arith, nat_tests) in ((signed_order 32).1 x y).1.1 (omega (arith, ints, a, b, below)))
