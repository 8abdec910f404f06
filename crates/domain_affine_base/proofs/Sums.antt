-- The sum of two forms, place by place.
use Rattle.std.proofs.Common.{◌≡◌, ℕ, suc, ◌+◌, ◌%◌, ◌^◌, ◌<◌, List, [], ◌∷◌, ◌++◌, length, drop, get_or, refl, sym, ap, ap₂, ◌∙◌, arith, inl, inr, append_assoc, mod-eq_of_lt}
use Rattle.std.specs.Prelude.{max}
use Rattle.std.proofs.Math.Seq.{drop-cons}
use Rattle.std.proofs.lemmas.Bool.{cases_lt}
use Rattle.std.proofs.lemmas.List.{drop_all, get_or_past}
use Rattle.domain_affine_base.specs.Forms.{sum_of}

sum_none : (f : List ℕ) → sum_of f [] ≡ f
sum_none [] = refl
sum_none (a ∷ f) = refl

-- what is left of a sum from a place on begins with the sum of the numbers there
pub sum_step : (i : ℕ) (f g : List ℕ) → i < max (length f) (length g) → get_or f i 0 < 2 ^ 32 → get_or g i 0 < 2 ^ 32
    → sum_of (drop i f) (drop i g) ≡ ((get_or f i 0 + get_or g i 0) % 2 ^ 32) ∷ sum_of (drop (suc i) f) (drop (suc i) g)
sum_step i f g lt left right = elim (cases_lt i (length f)) [
  | inl inside ↦ elim (cases_lt i (length g)) [
    | inl within ↦ ap₂ sum_of (drop-cons f i 0 inside) (drop-cons g i 0 within)
    | inr past ↦
        let none : get_or g i 0 ≡ 0 = get_or_past g i 0 past in
        let number : get_or f i 0 + get_or g i 0 ≡ get_or f i 0 = omega (arith, none) in
        ap₂ sum_of (drop-cons f i 0 inside) (drop_all i g past)
        ∙ ap₂ (λ n l. n ∷ l) (sym (ap (λ n. n % 2 ^ 32) number ∙ mod-eq_of_lt left))
        (sym (ap (sum_of (drop (suc i) f)) (drop_all (suc i) g (omega (arith, past))) ∙ sum_none (drop (suc i) f)))
  ]
  | inr outside ↦ elim (cases_lt i (length g)) [
    | inl within ↦
        let none : get_or f i 0 ≡ 0 = get_or_past f i 0 outside in
        let number : get_or f i 0 + get_or g i 0 ≡ get_or g i 0 = omega (arith, none) in
        ap₂ sum_of (drop_all i f outside) (drop-cons g i 0 within)
        ∙ ap₂ (λ n l. n ∷ l) (sym (ap (λ n. n % 2 ^ 32) number ∙ mod-eq_of_lt right))
        (sym (ap (λ l. sum_of l (drop (suc i) g)) (drop_all (suc i) f (omega (arith, outside)))))
    | inr past ↦ absurd (omega (arith, lt, outside, past))
  ]
]

-- a sum that is done up to a place is done up to the next
pub sum_more : (i : ℕ) (f g done more : List ℕ) (x y : ℕ) → i < max (length f) (length g) → x ≡ get_or f i 0 → y ≡ get_or g i 0 → x < 2 ^ 32 → y < 2 ^ 32
    → more ≡ done ++ ((x + y) % 2 ^ 32) ∷ [] → done ++ sum_of (drop i f) (drop i g) ≡ sum_of f g → more ++ sum_of (drop (i + 1) f) (drop (i + 1) g) ≡ sum_of f g
sum_more i f g done more x y lt at_f at_g left right grown whole =
    let step = sum_step i f g lt (rw at_f at left) (rw at_g at right) in
    let next : i + 1 ≡ suc i = omega arith in
    let here : ((x + y) % 2 ^ 32) ∷ sum_of (drop (i + 1) f) (drop (i + 1) g) ≡ sum_of (drop i f) (drop i g) = ap₂ (λ a b. ((a + b) % 2 ^ 32) ∷ sum_of (drop (i + 1) f) (drop (i + 1) g)) at_f at_g
    ∙ ap (λ k. ((get_or f i 0 + get_or g i 0) % 2 ^ 32) ∷ sum_of (drop k f) (drop k g)) next ∙ sym step in
    ap (λ l. l ++ sum_of (drop (i + 1) f) (drop (i + 1) g)) grown
    ∙ append_assoc done (((x + y) % 2 ^ 32) ∷ []) (sum_of (drop (i + 1) f) (drop (i + 1) g))
    ∙ ap (λ l. done ++ l) here ∙ whole
