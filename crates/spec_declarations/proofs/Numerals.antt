-- Numerals, one after another.
use Rattle.std.proofs.Common.{◌≡◌, ℕ, zero, suc, ◌+◌, ◌-◌, ◌<◌, ◌≤◌, ◌^◌, true, ltb, List, [], ◌∷◌, ◌++◌, Result, Ok, Err, length, refl, sym, ap, ◌∙◌, arith}
use Rattle.std.proofs.Math.Nat.{pow-le-pow_right}
use Rattle.std.proofs.lemmas.Bool.{lt-ltb}
use Rattle.std.specs.Fmt.{decimal}
use Rattle.std.specs.Prelude.{IfOk, IsOkAnd}
use Rattle.std.proofs.lemmas.List.{append_assoc, append-nil}
use Rattle.spec_declarations.specs.TypeNames.{numerals}

pub numerals_length : (w n : ℕ) → length (numerals w n) ≡ n
unfolding numerals
numerals_length w zero = refl
numerals_length w (suc n) = ap suc (numerals_length (w + 1) n)

numerals_first : (w n : ℕ) → numerals w (suc n) ≡ decimal w ∷ numerals (w + 1) n
unfolding numerals
numerals_first w n = refl

numerals_none : (w : ℕ) → numerals w 0 ≡ []
unfolding numerals
numerals_none w = refl

pub numerals_more : (texts more : List (List ℕ)) (text : List ℕ) (w : ℕ) → w < 65 → text ≡ decimal w → more ≡ texts ++ text ∷ []
    → texts ++ numerals w (65 - w) ≡ numerals 1 64 → more ++ numerals (w + 1) (65 - (w + 1)) ≡ numerals 1 64
numerals_more texts more text w l t m h =
    ap (λ ts. ts ++ numerals (w + 1) (65 - (w + 1))) (m ∙ ap (λ x. texts ++ x ∷ []) t)
    ∙ append_assoc texts (decimal w ∷ []) (numerals (w + 1) (65 - (w + 1)))
    ∙ ap (λ ts. texts ++ ts) (sym (numerals_first w (65 - (w + 1))) ∙ ap (numerals w) less)
    ∙ h
  where
    less : suc (65 - (w + 1)) ≡ 65 - w
    less = omega arith

pub numerals_pushed : {E : Type 0} (item : Result (List ℕ) E) (texts more : List (List ℕ)) (w : ℕ) → w < 65 → IfOk item (λ t. t ≡ decimal w) → IsOkAnd item (λ t. more ≡ texts ++ t ∷ [])
    → texts ++ numerals w (65 - w) ≡ numerals 1 64 → more ++ numerals (w + 1) (65 - (w + 1)) ≡ numerals 1 64
numerals_pushed (Ok t) texts more w l e n h = numerals_more texts more t w l e n h
numerals_pushed (Err k) texts more w l e n h = absurd n

pub numerals_all : (texts : List (List ℕ)) (w : ℕ) → 65 ≤ w → texts ++ numerals w (65 - w) ≡ numerals 1 64 → texts ≡ numerals 1 64
numerals_all texts w l h = sym (ap (λ ts. texts ++ ts) (ap (numerals w) past ∙ numerals_none w) ∙ append-nil texts) ∙ h
  where
    past : 65 - w ≡ 0
    past = omega arith

-- numbers of 64 bits are below 2 to a greater width
pub wide_fits : (v w : ℕ) → v < 18446744073709551616 → 64 ≤ w → true ≡ ltb v (2 ^ w)
wide_fits v w l h =
    let two : 0 < 2 = omega arith in
    let big : 2 ^ 64 ≤ 2 ^ w = pow-le-pow_right two h in
    let below : v < 2 ^ w = omega (arith, big) in
    sym (lt-ltb v (2 ^ w) below)
