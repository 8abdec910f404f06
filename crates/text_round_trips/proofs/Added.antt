-- Lines that are those of a text, and others behind them.
use Rattle.std.proofs.Common.{◌≡◌, ◌∙◌, ℕ, true, false, List, [], ◌∷◌, ◌++◌, Some, None, refl, sym, ap, subst, append_assoc, append-nil}
use Rattle.std.specs.Prelude.{codes}
use Rattle.std.specs.List.{list_all}
use Rattle.text_lines.specs.Lines.{Lines, all_end, is_inside, lines, text_of}
use Rattle.text_lines.proofs.TextOfLines.{line_of_text, lines_are_the_text}

-- ---- what is told of lines

-- The lines are those of the text, and the others behind them.
pub record Adds (text : List ℕ) (ls others : Lines) : Type 0 where
  pub ends : all_end ls ≡ all_end others
  pub adds : text_of ls ≡ text ++ text_of others

pub adds_nothing : (ls : Lines) → Adds [] ls ls
adds_nothing ls = record { ends = refl; adds = refl }

pub adds_line : (line : List ℕ) (others : Lines) → Adds (line ++ codes "\n") (Some line ∷ others) others
adds_line line others = record { ends = refl; adds = sym (append_assoc line (codes "\n") (text_of others)) }

pub adds_both : (first second : List ℕ) (ls between others : Lines) → Adds first ls between → Adds second between others → Adds (first ++ second) ls others
adds_both first second ls between others h k = record {
  ends = h.ends ∙ k.ends;
  adds = h.adds ∙ ap (λ t. first ++ t) k.adds ∙ sym (append_assoc first second (text_of others));
}

pub adds_as : (text other : List ℕ) (ls others : Lines) → text ≡ other → Adds text ls others → Adds other ls others
adds_as text other ls others e h = subst (λ t. Adds t ls others) e h

ends_behind : (front others : Lines) → all_end front ≡ true → all_end (front ++ others) ≡ all_end others
ends_behind [] others h = refl
ends_behind (None ∷ front) others h = absurd (let bad : false ≡ true = h in cc)
ends_behind (Some line ∷ front) others h = ends_behind front others h

text_behind : (front others : Lines) → all_end front ≡ true → text_of (front ++ others) ≡ text_of front ++ text_of others
text_behind [] others h = refl
text_behind (None ∷ front) others h = absurd (let bad : false ≡ true = h in cc)
text_behind (Some line ∷ front) others h = ap (λ t. line ++ 10 ∷ t) (text_behind front others h) ∙ sym (append_assoc line (10 ∷ text_of front) (text_of others))

-- whole lines in front of others
pub adds_front : (front ls others : Lines) → ls ≡ front ++ others → all_end front ≡ true → Adds (text_of front) ls others
adds_front front ls others are whole = subst (λ l. Adds (text_of front) l others) (sym are) (record { ends = ends_behind front others whole; adds = text_behind front others whole })

-- a text, where all of its lines are told
pub whole_text : (bytes text : List ℕ) → Adds text (lines bytes) [] → bytes ≡ text
whole_text bytes text h = sym (lines_are_the_text bytes h.ends) ∙ h.adds ∙ append-nil text

-- ---- a line in front of a text

pub line_in_front : (line more : List ℕ) → list_all is_inside line ≡ true → lines ((line ++ codes "\n") ++ more) ≡ Some line ∷ lines more
line_in_front line more inside = ap lines (append_assoc line (codes "\n") more) ∙ line_of_text line more inside

-- the same of a text that is a line and its end
pub first_line_of : (text line more : List ℕ) → text ≡ line ++ codes "\n" → list_all is_inside line ≡ true → lines (text ++ more) ≡ Some line ∷ lines more
first_line_of text line more e inside = ap (λ t. lines (t ++ more)) e ∙ line_in_front line more inside
