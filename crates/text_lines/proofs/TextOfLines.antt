-- Texts and their lines.
use Rattle.std.proofs.Common.{◌≡◌, ◌==◌, ℕ, Bool, true, false, not, List, [], ◌∷◌, ◌++◌, Some, None, refl, sym, ap, ◌∙◌, inl, inr, arith}
use Rattle.std.proofs.lemmas.Bool.{and_parts, cases_Bool}
use Rattle.std.proofs.lemmas.Bool.Decides.{nat_tests}
use Rattle.std.specs.List.{list_all}
use Rattle.text_lines.specs.Lines.{Lines, all_end, is_inside, lines, onto, text_of}
use Rattle.text_lines.specs.Laws.{LinesAreTheText, LinesOfBoth, LineOfText, LinesHaveNoEnd}

is_lf : (b : ℕ) → (b == 10) ≡ true → b ≡ 10
is_lf b h = grind (arith, nat_tests, h)

-- ---- a text is that of its lines

onto_ends : (b : ℕ) (ls : Lines) → all_end (onto b ls) ≡ true → (all_end ls ≡ true) × (text_of (onto b ls) ≡ b ∷ text_of ls)
onto_ends b [] h = absurd (let bad : false ≡ true = h in cc)
onto_ends b (None ∷ ls) h = absurd (let bad : false ≡ true = h in cc)
onto_ends b (Some line ∷ ls) h = (h, refl)

pub lines_are_the_text : LinesAreTheText
lines_are_the_text [] h = refl
lines_are_the_text (b ∷ bytes) h = elim (cases_Bool (b == 10)) [
  | inl e ↦
      let k : all_end (lines bytes) ≡ true = rw e at h in
      rw (e, lines_are_the_text bytes k) (ap (λ c. c ∷ bytes) (sym (is_lf b e)))
  | inr e ↦
      let k = onto_ends b (lines bytes) (rw e at h) in
      rw e (k.1 ∙ ap (λ t. b ∷ t) (lines_are_the_text bytes k.0))
]

-- ---- texts behind one another

onto_both : (b : ℕ) (ls more : Lines) → all_end (onto b ls) ≡ true → onto b (ls ++ more) ≡ onto b ls ++ more
onto_both b [] more h = absurd (let bad : false ≡ true = h in cc)
onto_both b (None ∷ ls) more h = absurd (let bad : false ≡ true = h in cc)
onto_both b (Some line ∷ ls) more h = refl

pub lines_of_both : LinesOfBoth
lines_of_both [] more h = refl
lines_of_both (b ∷ bytes) more h = elim (cases_Bool (b == 10)) [
  | inl e ↦
      let k : all_end (lines bytes) ≡ true = rw e at h in
      rw (e, lines_of_both bytes more k) refl
  | inr e ↦
      let k : all_end (onto b (lines bytes)) ≡ true = rw e at h in
      rw (e, lines_of_both bytes more (onto_ends b (lines bytes) k).0) (onto_both b (lines bytes) (lines more) k)
]

-- ---- one line

pub line_of_text : LineOfText
line_of_text [] more h = refl
line_of_text (b ∷ line) more h =
    let both = and_parts (is_inside b) (list_all is_inside line) h in
    elim (cases_Bool (b == 10)) [
      | inl e ↦ absurd (let bad : false ≡ true = rw e at both.0 in cc)
      | inr e ↦ rw (e, line_of_text line more both.1) refl
    ]

-- ---- no LF in a line

first_inside : Lines → Bool
first_inside [] = true
first_inside (None ∷ ls) = true
first_inside (Some line ∷ ls) = list_all is_inside line

onto_inside : (b : ℕ) (ls : Lines) → (b == 10) ≡ false → first_inside ls ≡ true → first_inside (onto b ls) ≡ true
unfolding first_inside
onto_inside b [] e h = refl
onto_inside b (None ∷ ls) e h = refl
onto_inside b (Some line ∷ ls) e h = rw e h

inside : (bytes : List ℕ) → first_inside (lines bytes) ≡ true
unfolding first_inside
inside [] = refl
inside (b ∷ bytes) = elim (cases_Bool (b == 10)) [ inl e ↦ rw e refl | inr e ↦ rw e (onto_inside b (lines bytes) e (inside bytes)) ]

pub lines_have_no_end : LinesHaveNoEnd
unfolding first_inside
lines_have_no_end bytes line ls h = let P : Lines → Type 0 = λ xs. first_inside xs ≡ true in let k : first_inside (Some line ∷ ls) ≡ true = rw h at (inside bytes) in k
