-- A line and its LF, beside a text.
use Rattle.std.proofs.Common.{◌≡◌, ℕ, Bool, true, false, List, [], ◌∷◌, ◌++◌, Some, None, refl, sym, ap, subst, ◌∙◌, inl, inr}
use Rattle.std.specs.Prelude.{bytes_eq}
use Rattle.std.proofs.lemmas.Bool.{cases_Bool}
use Rattle.std.proofs.lemmas.List.{append_cancel_left}
use Rattle.std.proofs.lemmas.Option.{none-some}
use Rattle.std.proofs.lemmas.Slice.Eq.{bytes_eq-Decides}
use Rattle.text_words.specs.Fronts.{behind_back, behind_tells}
use Rattle.text_words.specs.Reading.{behind}

-- two tests that say the same
same_test : (a b : Bool) → (a ≡ true → b ≡ true) → (b ≡ true → a ≡ true) → a ≡ b
same_test true b f g = sym (f refl)
same_test false true f g = g refl
same_test false false f g = refl

-- the text is the line and an end
pub line_ends : (line text end : List ℕ) → behind line text ≡ Some end → bytes_eq end (10 ∷ []) ≡ bytes_eq (line ++ 10 ∷ []) text
line_ends line text end e =
    let whole : line ++ end ≡ text = behind_tells line text end e in
    same_test (bytes_eq end (10 ∷ [])) (bytes_eq (line ++ 10 ∷ []) text)
    (λ h. let is : end ≡ 10 ∷ [] = (bytes_eq-Decides end (10 ∷ [])).0 h in (bytes_eq-Decides (line ++ 10 ∷ []) text).1 (ap (λ t. line ++ t) (sym is) ∙ whole))
    (λ h. let is : line ++ 10 ∷ [] ≡ text = (bytes_eq-Decides (line ++ 10 ∷ []) text).0 h in
    (bytes_eq-Decides end (10 ∷ [])).1 (append_cancel_left line end (10 ∷ []) (whole ∙ sym is)))

pub other_line : (line text : List ℕ) → behind line text ≡ None → bytes_eq (line ++ 10 ∷ []) text ≡ false
other_line line text e = elim (cases_Bool (bytes_eq (line ++ 10 ∷ []) text)) [
  | inl h ↦ absurd (let is : line ++ 10 ∷ [] ≡ text = (bytes_eq-Decides (line ++ 10 ∷ []) text).0 h in none-some (10 ∷ []) (sym e ∙ subst (λ t. behind line t ≡ Some (10 ∷ [])) is (behind_back line (10 ∷ []))))
  | inr h ↦ h
]
