-- What is read of lines and what is written of elements are one another's inverse.
use Rattle.std.specs.Prelude.{◌≡◌, ℕ, Bool, true, List, [], ◌∷◌, ◌++◌, Some, IsTrue, ◌⊎◌, codes, is_some}
use Rattle.std.specs.List.{list_any}
use Rattle.spec_ir.specs.Specification.{Spec}
use Rattle.fixpoint_theory.specs.Elements.{Elements}
use Rattle.text_words.specs.Reading.{behind}
use Rattle.text_lines.specs.Lines.{Lines, all_end, lines, text_of}
use Rattle.text_elements.specs.Parts.{ElementText}
use Rattle.text_element_readers.specs.Reading.{ElementReading}

-- the words that lines behind an element's own begin with
abbrev pub other_words : List (List ℕ)
other_words = codes "part " ∷ codes "use " ∷ codes "next " ∷ codes "exit " ∷ codes "open " ∷ codes "undecodable " ∷ codes "at " ∷ []

-- A text that does not go on with the element before it: it is empty, or begins with one of these words.
abbrev pub IsBehindElement : List ℕ → Type 0
IsBehindElement text = (text ≡ []) ⊎ IsTrue (list_any (λ word. is_some (behind word text)) other_words)

-- The lines in front of others are whole, and this is their text.
pub record AreInFront (Is : List ℕ → Type 0) (ls rest : Lines) : Type 0 where
  pub front : Lines
  pub are : ls ≡ front ++ rest
  pub whole : all_end front ≡ true
  pub text : Is (text_of front)

-- An element that is read is one that its lines are a text of, and it is printable where `code` tells the addresses of code words. A text of a
-- printable element that fits is read as that element, whatever follows that does not go on with it.
pub record RoundTrips {E S : Type 0} (Reads : ElementReading E) (IsText : ElementText E) (D : Elements E S) (IsPrintable : (ℕ → Bool) → E → Type 0) (spec : Spec) : Type 0 where
  pub told : (code : ℕ → Bool) (ls rest : Lines) (x : E) → Reads spec code ls (Some x) rest → AreInFront (IsText spec x) ls rest
  pub printable : (code : ℕ → Bool) (ls rest : Lines) (x : E) → Reads spec code ls (Some x) rest → IsPrintable code x
  pub back : (code : ℕ → Bool) (x : E) (text more : List ℕ) → D.fits x → IsPrintable code x → IsText spec x text → IsBehindElement more → Reads spec code (lines (text ++ more)) (Some x) (lines more)
