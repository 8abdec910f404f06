-- A comparison of forms tells what their difference does.
use Rattle.std.proofs.Common.{◌≡◌, ℕ, zero, suc, ◌+◌, ◌-◌, ◌*◌, ◌%◌, ◌^◌, ◌<◌, Bool, true, false, IsTrue, List, [], ◌∷◌, length, refl, sym, ap, ap₂, ◌∙◌, subst, arith, mod-lt, pow_pos}
use Rattle.std.specs.Prelude.{◌==◌, if◌then◌else◌}
use Rattle.std.specs.List.{list_all}
use Rattle.std.proofs.Math.Nat.{add-mod-mod, add-mul-mod_self_right}
use Rattle.support_modular_rows.specs.Forms.{same_form}
use Rattle.support_modular_rows.specs.Submodule.{Congruent}
use Rattle.support_modular_rows.proofs.Equal.{equal_forms}
use Rattle.base_trait.specs.Lists.{Each}
use Rattle.base_trait.specs.declared.tri.Tri.{Tri}
use Rattle.base_trait.proofs.Lists.{number_itself, number_told}
use Rattle.base_trait.proofs.Tests.{and_both, and_parts}
use Rattle.domain_affine_base.specs.Compare.{apart, either, only, with_itself}
use Rattle.domain_affine_base.specs.Exact.{DifferencesTell, told_by}
use Rattle.domain_affine_base.specs.Forms.{difference_of}
use Rattle.domain_affine_base.specs.Linear.{agreeing_equal, remainder_agrees, sums_agree, sums_cancel}
use Rattle.domain_affine_base.specs.declared.word.Word.TheVariants.{Const, Form}

-- the difference of two numbers below 2 ^ 32
abbrev gap : ℕ → ℕ → ℕ
gap a b = (a + (2 ^ 32 - 1) * b % 2 ^ 32) % 2 ^ 32

gap_agrees : (a b : ℕ) → Congruent (gap a b + b) a
gap_agrees a b =
    let whole : a + (2 ^ 32 - 1) * b + b ≡ a + b * 2 ^ 32 = omega arith in
    sums_agree (gap a b) (a + (2 ^ 32 - 1) * b) b b
    (remainder_agrees (a + (2 ^ 32 - 1) * b % 2 ^ 32) ∙ add-mod-mod a ((2 ^ 32 - 1) * b) (2 ^ 32)) refl
    ∙ ap (λ n. n % 2 ^ 32) whole ∙ add-mul-mod_self_right a b (2 ^ 32)

-- it is 0 exactly where they are equal
gap_none : (a b : ℕ) → a < 2 ^ 32 → b < 2 ^ 32 → gap a b ≡ 0 → a ≡ b
gap_none a b left right e = agreeing_equal a b left right (sym (gap_agrees a b) ∙ ap (λ n. n % 2 ^ 32) (ap (λ g. g + b) e ∙ omega arith))

gap_itself : (a : ℕ) → gap a a ≡ 0
gap_itself a =
    agreeing_equal (gap a a) 0 (mod-lt (a + (2 ^ 32 - 1) * a % 2 ^ 32) (pow_pos 32)) (pow_pos 32)
    (sums_cancel (gap a a) 0 a (gap_agrees a a ∙ ap (λ n. n % 2 ^ 32) (omega arith)))

-- all numbers of a difference are 0 exactly where the forms are equal
none_from : (f g : List ℕ) → length f ≡ length g → Each (λ n. n < 2 ^ 32) f → Each (λ n. n < 2 ^ 32) g → IsTrue (list_all (λ b. b == 0) (difference_of f g)) → f ≡ g
none_from [] [] size left right h = refl
none_from [] (b ∷ g) size left right h = absurd (omega (arith, size))
none_from (a ∷ f) [] size left right h = absurd (omega (arith, size))
none_from (a ∷ f) (b ∷ g) size left right h =
    let parts = and_parts (gap a b == 0) (list_all (λ b. b == 0) (difference_of f g)) h in
    ap₂ (λ n l. n ∷ l) (gap_none a b left.0 right.0 (number_told (gap a b) 0 parts.0)) (none_from f g (omega (arith, size)) left.1 right.1 parts.1)

none_itself : (f : List ℕ) → IsTrue (list_all (λ b. b == 0) (difference_of f f))
none_itself [] = refl
none_itself (a ∷ f) =
    and_both (gap a a == 0) (list_all (λ b. b == 0) (difference_of f f)) (subst (λ n. IsTrue (n == 0)) (sym (gap_itself a)) refl) (none_itself f)

-- tests that hold together are one
one_test : (b c : Bool) → (IsTrue b → IsTrue c) → (IsTrue c → IsTrue b) → b ≡ c
one_test true c f g = sym (f refl)
one_test false true f g = g refl
one_test false false f g = refl

pub differences_tell : DifferencesTell
differences_tell k cells [] g fx fy = absurd (let size = fx.1 in omega (arith, size))
differences_tell k cells (a ∷ f) [] fx fy = absurd (let size = fy.1 in omega (arith, size))
differences_tell k cells (a ∷ f) (b ∷ g) fx fy =
    let first = fx.1 in let second = fy.1 in
    let size : length f ≡ length g = omega (arith, first, second) in
    let test : same_form f g ≡ list_all (λ b. b == 0) (difference_of f g) =
    one_test (same_form f g) (list_all (λ b. b == 0) (difference_of f g))
    (λ h. subst (λ l. IsTrue (list_all (λ b. b == 0) (difference_of f l))) ((equal_forms f g).0 h) (none_itself f))
    (λ h. (equal_forms f g).1 (none_from f g size fx.0.below.1 fy.0.below.1 h)) in
    ap (λ t. if t then (if a == b then only (with_itself k) else apart k) else either) test
    ∙ told (list_all (λ b. b == 0) (difference_of f g)) (decided (a == b) refl (gap a b) refl)
  where
    constant : ℕ → Tri
    constant n = told_by k (Const n)

    decided : (t : Bool) → t ≡ (a == b) → (n : ℕ) → n ≡ gap a b → (if t then only (with_itself k) else apart k) ≡ told_by k (Const n)
    decided true e zero d = refl
    decided false e (suc n) d = refl
    decided true e (suc n) d = let same : a ≡ b = number_told a b (sym e) in let none = subst (λ z. gap a z ≡ 0) same (gap_itself a) in absurd (omega (arith, d, none))
    decided false e zero d = let same : a ≡ b = gap_none a b fx.0.below.0 fy.0.below.0 (sym d) in let one = subst (λ z. IsTrue (a == z)) same (number_itself a) in cc

    told : (t : Bool) → (if a == b then only (with_itself k) else apart k) ≡ told_by k (Const (gap a b))
        → (if t then (if a == b then only (with_itself k) else apart k) else either) ≡ told_by k (if t then Const (gap a b) else Form (gap a b ∷ difference_of f g))
    told true h = h
    told false h = refl
