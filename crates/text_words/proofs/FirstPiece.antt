-- The first of the texts between separators.
use Rattle.std.proofs.Common.{◌≡◌, ◌+◌, ◌-◌, ◌<◌, ◌≤◌, ◌==◌, ℕ, suc, not, List, [], ◌∷◌, length, take, drop, refl, sym, subst, inl, inr, arith}
use Rattle.std.proofs.lemmas.Bool.{cases_Bool}
use Rattle.std.proofs.lemmas.List.{take_all, length-drop}
use Rattle.std.specs.List.{prefix_len}
use Rattle.text_words.specs.Pieces.{pieces}

take_more : (n b : ℕ) (text : List ℕ) → take (1 + n) (b ∷ text) ≡ b ∷ take n text
take_more n b text = let e : 1 + n ≡ suc n = omega arith in subst (λ m. take m (b ∷ text) ≡ b ∷ take n text) (sym e) refl

drop_more : (n b : ℕ) (text : List ℕ) → drop (1 + n + 1) (b ∷ text) ≡ drop (n + 1) text
drop_more n b text = let e : 1 + n + 1 ≡ suc (n + 1) = omega arith in subst (λ m. drop m (b ∷ text) ≡ drop (n + 1) text) (sym e) refl

module _ (separator : ℕ) where
  abbrev inner_len : List ℕ → ℕ
  inner_len text = prefix_len (λ b. not (b == separator)) text

  first_of : (text : List ℕ) → inner_len text < length text → pieces separator text ≡ take (inner_len text) text ∷ pieces separator (drop (inner_len text + 1) text)
  first_of [] h = absurd (omega (arith, h))
  first_of (b ∷ text) h = elim (cases_Bool (b == separator)) [
    | inl e ↦ rw e refl
    | inr e ↦
        let within : inner_len text < length text = (let k = rw e at h in omega (arith, k)) in
        rw (e, first_of text within, take_more (inner_len text) b text, drop_more (inner_len text) b text) refl
  ]

  pub first_is : (text : List ℕ) (n : ℕ) → n ≡ inner_len text → n < length text
      → pieces separator text ≡ take n text ∷ pieces separator (take (length text - (n + 1)) (drop (n + 1) text))
  first_is text n e within =
      let all : take (length text - (n + 1)) (drop (n + 1) text) ≡ drop (n + 1) text = take_all (length text - (n + 1)) (drop (n + 1) text) (rw (length-drop (n + 1) text) (omega arith)) in
      rw (all, e) (first_of text (rw e at within))

  pub only_is : (text : List ℕ) → length text ≤ inner_len text → pieces separator text ≡ text ∷ []
  only_is [] h = refl
  only_is (b ∷ text) h = elim (cases_Bool (b == separator)) [
    | inl e ↦ absurd (let k = rw e at h in omega (arith, k))
    | inr e ↦ rw (e, only_is text (let k = rw e at h in omega (arith, k))) refl
  ]
