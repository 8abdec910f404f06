-- What is read of a text as a word of 32 bits, as those of a counter are.
use Rattle.std.specs.Prelude.{ℕ, zero, suc, ◌==◌, List, [], ◌∷◌, length, take, drop, Option, Some, None, option_map, bytes_eq, codes, if◌then◌else◌}
use Rattle.std.specs.Option.{option_and_then}
use Rattle.domain_affine_base.specs.declared.word.Word.{Word}
use Rattle.domain_affine_base.specs.declared.word.Word.TheVariants.{Any, Const, Form}
use Rattle.domain_affine_base.specs.Words.{word_of}
use Rattle.text_words.specs.Reading.{behind, number_in}
use Rattle.text_words.specs.Readings.{Readings}
use Rattle.text_part_readers.specs.Pieces.{cut}

-- the word that a text is, or none
abbrev pub WordReading : Type 0 → Type 0
WordReading W = List ℕ → Option W

-- ---- cells

abbrev pub cells_word : {W N : Type 0} → Readings W N → WordReading W
cells_word readings text = readings.word 32 text

-- ---- affine forms

-- a number of 32 bits in front, and what stands behind it
abbrev pub first_number : List ℕ → Option (ℕ × List ℕ)
first_number text = option_map (λ n. (n, drop 8 text)) (number_in 32 (take 8 text))

-- such a number behind a comma
abbrev pub behind_comma : List ℕ → Option (ℕ × List ℕ)
behind_comma text = option_and_then first_number (behind (codes ",") text)

-- n numbers, each behind a comma, and nothing else
abbrev pub commas_in : ℕ → List ℕ → Option (List ℕ)
commas_in zero [] = Some []
commas_in zero (b ∷ text) = None
commas_in (suc n) text = option_and_then (λ p. option_map (λ xs. p.0 ∷ xs) (commas_in n p.1)) (behind_comma text)

-- the numbers of a form over k cells: k + 1, with commas between
abbrev pub form_in : ℕ → List ℕ → Option (List ℕ)
form_in k text = option_and_then (λ p. option_map (λ xs. p.0 ∷ xs) (commas_in k p.1)) (first_number text)

-- a word that is a form
abbrev pub as_form : Word → Option Word
as_form (Form f) = Some (Form f)
as_form _ = None

-- `any`, a number, or the numbers of a form over k cells, which is no constant
abbrev pub affine_word : ℕ → WordReading Word
affine_word k text =
    if bytes_eq text (codes "any") then Some Any
    else (if length text == 8 then option_map Const (number_in 32 text) else option_and_then (λ f. as_form (word_of f)) (form_in k text))

-- ---- pairs

-- both parts, the first in front of the first space
abbrev pub pair_word : {V W : Type 0} → WordReading V → WordReading W → WordReading (V × W)
pair_word first second text = option_and_then (λ p. option_and_then (λ x. option_map (λ y. (x, y)) (second p.1)) (first p.0)) (cut 32 text)
