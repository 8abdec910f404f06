-- Lemmas: the value of a form is linear in the form.
use Rattle.std.proofs.Common.{◌≡◌, ℕ, ◌+◌, ◌-◌, ◌*◌, ◌%◌, ◌^◌, ◌<◌, IsTrue, List, [], ◌∷◌, length, refl, sym, ap, ap₂, ◌∙◌, arith, mod-lt, pow_pos, mod-eq_of_lt}
use Rattle.std.specs.Prelude.{max, ◌==◌}
use Rattle.std.specs.List.{list_all}
use Rattle.std.proofs.Math.Nat.{add-mod-mod, add-mul-mod_self_right, mod-add-mod}
use Rattle.std.proofs.lemmas.Nat.{mul-mod_second}
use Rattle.support_modular_rows.specs.Submodule.{Congruent, dot}
use Rattle.base_trait.specs.Lists.{Each}
use Rattle.base_trait.proofs.Lists.{number_told}
use Rattle.base_trait.proofs.Tests.{and_parts}
use Rattle.domain_affine_base.specs.Forms.{sum_of, multiple_of, is_constant, constant_of}

-- ---- congruence
pub sums_agree : (a b c d : ℕ) → Congruent a b → Congruent c d → Congruent (a + c) (b + d)
sums_agree a b c d e f =
    sym (mod-add-mod a (2 ^ 32) c) ∙ sym (add-mod-mod (a % 2 ^ 32) c (2 ^ 32)) ∙ ap₂ (λ x y. (x + y) % 2 ^ 32) e f
    ∙ add-mod-mod (b % 2 ^ 32) d (2 ^ 32) ∙ mod-add-mod b (2 ^ 32) d

pub products_agree : (q a b : ℕ) → Congruent a b → Congruent (q * a) (q * b)
products_agree q a b e = sym (mul-mod_second q a (2 ^ 32)) ∙ ap (λ x. (q * x) % 2 ^ 32) e ∙ mul-mod_second q b (2 ^ 32)

-- a remainder agrees with the number
pub remainder_agrees : (a : ℕ) → Congruent (a % 2 ^ 32) a
remainder_agrees a = mod-eq_of_lt (mod-lt a (pow_pos 32))

-- numbers below 2 ^ 32 that agree are equal
pub agreeing_equal : (a b : ℕ) → a < 2 ^ 32 → b < 2 ^ 32 → Congruent a b → a ≡ b
agreeing_equal a b left right e = sym (mod-eq_of_lt left) ∙ e ∙ mod-eq_of_lt right

-- what is added to both may be taken away
pub sums_cancel : (a b d : ℕ) → Congruent (a + d) (b + d) → Congruent a b
sums_cancel a b d e =
    let whole : (n : ℕ) → n + d + (2 ^ 32 - 1) * d ≡ n + d * 2 ^ 32 = λ n. omega arith in
    sym (add-mul-mod_self_right a d (2 ^ 32)) ∙ ap (λ n. n % 2 ^ 32) (sym (whole a))
    ∙ sums_agree (a + d) (b + d) ((2 ^ 32 - 1) * d) ((2 ^ 32 - 1) * d) e refl
    ∙ ap (λ n. n % 2 ^ 32) (whole b) ∙ add-mul-mod_self_right b d (2 ^ 32)

-- ---- values
times : (p x : ℕ) → Congruent (p % 2 ^ 32 * x) (p * x)
times p x =
    let front : p % 2 ^ 32 * x ≡ x * (p % 2 ^ 32) = omega arith in
    let back : x * p ≡ p * x = omega arith in
    ap (λ n. n % 2 ^ 32) front ∙ mul-mod_second x p (2 ^ 32) ∙ ap (λ n. n % 2 ^ 32) back

pub sum_value : (f g v : List ℕ) → Congruent (dot (sum_of f g) v) (dot f v + dot g v)
sum_value [] g v = ap (λ n. n % 2 ^ 32) (omega arith)
sum_value (a ∷ f) [] v = ap (λ n. n % 2 ^ 32) (omega arith)
sum_value (a ∷ f) (b ∷ g) [] = refl
sum_value (a ∷ f) (b ∷ g) (x ∷ v) =
    sums_agree ((a + b) % 2 ^ 32 * x) ((a + b) * x) (dot (sum_of f g) v) (dot f v + dot g v) (times (a + b) x) (sum_value f g v)
    ∙ ap (λ n. n % 2 ^ 32) (omega arith)

pub multiple_value : (c : ℕ) (f v : List ℕ) → Congruent (dot (multiple_of c f) v) (c * dot f v)
multiple_value c [] v = let none : 0 ≡ c * 0 = omega arith in ap (λ n. n % 2 ^ 32) none
multiple_value c (a ∷ f) [] = let none : 0 ≡ c * 0 = omega arith in ap (λ n. n % 2 ^ 32) none
multiple_value c (a ∷ f) (x ∷ v) =
    sums_agree (c * a % 2 ^ 32 * x) (c * a * x) (dot (multiple_of c f) v) (c * dot f v) (times (c * a) x) (multiple_value c f v)
    ∙ ap (λ n. n % 2 ^ 32) (omega arith)

-- a form without multiples has the value of its constant
zero_value : (f v : List ℕ) → IsTrue (list_all (λ b. b == 0) f) → dot f v ≡ 0
zero_value [] v h = refl
zero_value (b ∷ f) [] h = refl
zero_value (b ∷ f) (x ∷ v) h =
    let parts = and_parts (b == 0) (list_all (λ b. b == 0) f) h in
    let first : b ≡ 0 = number_told b 0 parts.0 in
    let rest = zero_value f v parts.1 in
    ap₂ (λ a r. a * x + r) first rest ∙ omega arith

pub constant_value : (f valuation : List ℕ) → IsTrue (is_constant f) → dot f (1 ∷ valuation) ≡ constant_of f
constant_value [] valuation h = refl
constant_value (a ∷ f) valuation h = let rest = zero_value f valuation h in omega (arith, rest)

-- ---- sizes, and numbers below 2 ^ 32
pub sum_below : (f g : List ℕ) → Each (λ n. n < 2 ^ 32) f → Each (λ n. n < 2 ^ 32) g → Each (λ n. n < 2 ^ 32) (sum_of f g)
sum_below [] g h k = k
sum_below (a ∷ f) [] h k = h
sum_below (a ∷ f) (b ∷ g) h k = (mod-lt (a + b) (pow_pos 32), sum_below f g h.1 k.1)

pub multiple_below : (c : ℕ) (f : List ℕ) → Each (λ n. n < 2 ^ 32) (multiple_of c f)
multiple_below c [] = tt
multiple_below c (a ∷ f) = (mod-lt (c * a) (pow_pos 32), multiple_below c f)

pub sum_size : (f g : List ℕ) → length (sum_of f g) ≡ max (length f) (length g)
sum_size [] g = omega arith
sum_size (a ∷ f) [] = omega arith
sum_size (a ∷ f) (b ∷ g) = let rest = sum_size f g in omega (arith, rest)

pub multiple_size : (c : ℕ) (f : List ℕ) → length (multiple_of c f) ≡ length f
multiple_size c [] = refl
multiple_size c (a ∷ f) = let rest = multiple_size c f in omega (arith, rest)

pub constant_below : (f : List ℕ) → Each (λ n. n < 2 ^ 32) f → constant_of f < 2 ^ 32
constant_below [] h = pow_pos 32
constant_below (a ∷ f) h = h.0
