-- Words of the base of strides, part by part.
use Rattle.std.proofs.Common.{◌≡◌, ℕ, ◌-◌, ◌^◌, ◌<◌, ◌≤◌, Bool, true, false, Option, Some, None, refl, sym, subst, arith, IsTrue}
use Rattle.std.specs.Prelude.{nat_le, nat_lt, ◌&&◌, IfSome}
use Rattle.std.proofs.lemmas.Bool.Decides.{nat_tests}
use Rattle.base_trait.proofs.Tests.{and_both, and_parts, at_choice}
use Rattle.base_strides.specs.Meaning.{is_long, most, of_stretch}
use Rattle.base_strides.specs.Sound.{IsPart}
use Rattle.base_strides.specs.Stretch.{divides, divides_told, more, numbers}
use Rattle.base_strides.specs.Views.{set_part, stretch_part, word_of}
use Rattle.base_strides.specs.Words.{IsEnds, Word, Listed, Strided}
use Rattle.base_strides.specs.declared.stretch.Stretch.{Stretch}
use Rattle.base_cuts.specs.Strides.{stretch_left}
use Rattle.base_cuts.specs.StrideLaws.{left_parts}

pub whole : (x : Word) → word_of (set_part x) (stretch_part x) ≡ x
whole (Listed s) = refl
whole (Strided x) = refl

pub part_ends : (w : ℕ) (x : Stretch) → IsPart w x → IsEnds w x
part_ends w x h = (h.whole.above, h.fits)

-- of a stretch of the width the number of its numbers alone decides which word it is
pub long_word : (w : ℕ) (x : Stretch) → IsTrue (is_long w x) → of_stretch x ≡ Strided x
long_word w x h =
    let a = and_parts (nat_le x.lo x.hi) _ h in let b = and_parts (divides x.step (x.hi - x.lo)) _ a.1 in let c = and_parts (nat_lt x.hi (2 ^ w)) (nat_le most (more x)) b.1 in
    let many = c.1 in
    at_choice (λ z. z ≡ Strided x) (nat_lt (more x) most) (Listed (numbers x)) (Strided x) (λ e. absurd (grind (arith, nat_tests, many))) (λ e. refl)

pub short_few : (w : ℕ) (x : Stretch) → IsPart w x → is_long w x ≡ false → more x < 16
short_few w x h short = at_test (nat_le most (more x)) refl
  where
    order : IsTrue (nat_le x.lo x.hi)
    order = let above = h.whole.above in grind (arith, nat_tests, above)

    at_test : (b : Bool) → b ≡ nat_le most (more x) → more x < 16
    at_test true many =
        let fits = h.fits in
        let long : IsTrue (is_long w x) = and_both (nat_le x.lo x.hi) _ order (and_both (divides x.step (x.hi - x.lo)) _ ((divides_told x.step (x.hi - x.lo)).1 h.whole.class) (and_both (nat_lt x.hi (2 ^ w)) (nat_le most (more x)) (grind (arith, nat_tests, fits)) (sym many))) in
        cc
    at_test false few = grind (arith, nat_tests, few)

pub short_word : (x : Stretch) → more x < 16 → of_stretch x ≡ Listed (numbers x)
short_word x h = at_choice (λ z. z ≡ Listed (numbers x)) (nat_lt (more x) most) (Listed (numbers x)) (Strided x) (λ e. refl) (λ e. absurd (grind (arith, nat_tests, h)))

-- what is left of a stretch is one of the width
pub left_part_is : (w : ℕ) (x y : Stretch) (low high : ℕ) → IsPart w x → Some y ≡ stretch_left x low high → IsPart w y
left_part_is w x y low high h e = at (stretch_left x low high) e (left_parts w x low high h)
  where
    at : (o : Option Stretch) → Some y ≡ o → IfSome o (IsPart w) → IsPart w y
    at None e k = cc
    at (Some z) e k = let same : z ≡ y = cc in subst (IsPart w) same k
