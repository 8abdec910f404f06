-- What is read of a word is what is written of it, and the other way round.
use Rattle.std.specs.Prelude.{◌≡◌, ℕ, List, Some, IsTrue}
use Rattle.std.specs.List.{list_all}
use Rattle.base_trait.specs.Algebra.{Algebra}
use Rattle.domain_affine_base.specs.Meaning.{affine}
use Rattle.domain_affine_laws.specs.Calls.{cell_count}
use Rattle.domain_affine_laws.specs.Tracked.{tracked_cells}
use Rattle.domain_laws.specs.States.{StateType}
use Rattle.text_words.specs.Readings.{Readings, is_solid}
use Rattle.text_words.specs.Texts.{Texts}
use Rattle.text_words.specs.Words.{affine_text, pair_text}
use Rattle.text_lines.specs.Lines.{is_inside}
use Rattle.text_element_readers.specs.Words.{WordReading, affine_word, cells_word, pair_word}

-- Texts of words of 32 bits tell them: what is written is read back, what is read is what was written, and no text has an end of a line.
pub record WordsTell {W : Type 0} (write : ℕ → W → List ℕ) (reads : WordReading W) (Fits : W → Type 0) : Type 0 where
  pub back : (x : W) → Fits x → reads (write 32 x) ≡ Some x
  pub tells : (text : List ℕ) (x : W) → reads text ≡ Some x → (write 32 x ≡ text) × Fits x
  pub inside : (x : W) → IsTrue (list_all is_inside (write 32 x))

-- no text has an end of a line or a space
abbrev pub AreSolid : {W : Type 0} → (ℕ → W → List ℕ) → Type 0
AreSolid {W} write = (x : W) → IsTrue (list_all is_solid (write 32 x))

-- The texts of words of cells tell them,
abbrev pub CellsWordsTell : {W N C : Type 0} → Algebra W N C → Texts W N → Readings W N → Type 0
CellsWordsTell {C = C} B texts readings = (c : C) → WordsTell texts.word (cells_word readings) (B.words.fits c 32) × AreSolid texts.word

-- those of affine words,
abbrev pub RelationsWordsTell : Type 0
RelationsWordsTell = (t : StateType) → WordsTell affine_text (affine_word (cell_count t)) (affine.words.fits (tracked_cells t) 32) × AreSolid affine_text

-- and those of pairs, where both parts do, and no text of the first has a space.
abbrev pub PairsWordsTell : {V W : Type 0} → (ℕ → V → List ℕ) → (ℕ → W → List ℕ) → WordReading V → WordReading W → (V → Type 0) → (W → Type 0) → Type 0
PairsWordsTell first second reads_first reads_second Fits Holds =
    AreSolid first → WordsTell first reads_first Fits → WordsTell second reads_second Holds → WordsTell (pair_text first second) (pair_word reads_first reads_second) (λ x. Fits x.0 × Holds x.1)
