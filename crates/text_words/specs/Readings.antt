-- What is read of the texts of the words and notes of each base, and that these texts tell them.
use Rattle.std.specs.Prelude.{◌≡◌, ℕ, ◌^◌, ◌<◌, ◌≤◌, ◌==◌, Bool, not, ◌&&◌, List, [], ◌∷◌, ◌++◌, map, length, Option, Some, IsTrue}
use Rattle.std.specs.List.{list_all}
use Rattle.word_operations.specs.Width.{IsWidth}
use Rattle.base_trait.specs.Algebra.{Algebra}
use Rattle.base_trait.specs.Lists.{Each, IsAscending}
use Rattle.base_trait.specs.Stamps.{AreAscending}
use Rattle.base_trait.specs.declared.uses.Stamp.{Stamp}
use Rattle.base_trait.specs.declared.uses.Stamp.TheVariants.{Entry, At}
use Rattle.base_interval.specs.declared.range.Range.{Range}
use Rattle.base_bits.specs.declared.known.Known.{Known}
use Rattle.base_strides.specs.Words as strided
use Rattle.text_words.specs.Reading.{addresses_in, known_in, nothing_in, range_in, set_in, stamps_in, strided_in}
use Rattle.text_words.specs.Lists.{behind_spaces}
use Rattle.text_words.specs.Texts.{Texts}
use Rattle.text_words.specs.Words.{number}

-- What is read of texts, the other way round than `Texts`.
pub record Readings (W N : Type 0) : Type 0 where
  -- the word of so many bits that a text is
  pub word : ℕ → List ℕ → Option W
  -- the note that stands behind a word, where this tells addresses of code words
  pub note : (ℕ → Bool) → List ℕ → Option N

abbrev pub set_readings : ℕ → Readings (Option (List ℕ)) (Unit {0})
set_readings K = record { word = set_in K; note = λ code text. nothing_in text }

abbrev pub interval_readings : Readings Range (Unit {0})
interval_readings = record { word = range_in; note = λ code text. nothing_in text }

abbrev pub bits_readings : Readings Known (Unit {0})
bits_readings = record { word = known_in; note = λ code text. nothing_in text }

abbrev pub strides_readings : Readings strided.Word (Unit {0})
strides_readings = record { word = strided_in; note = λ code text. nothing_in text }

abbrev pub defuse_readings : Readings (Option (List ℕ)) (List Stamp)
defuse_readings = record { word = set_in 1; note = stamps_in }

-- ---- which notes have texts that are read

-- a note that tells nothing always has
abbrev pub NothingFits : (ℕ → Bool) → Unit {0} → Type 0
NothingFits code note = Unit {0}

-- the entry, or the address of a code word
abbrev pub StampFits : (ℕ → Bool) → Stamp → Type 0
StampFits code Entry = Unit {0}
StampFits code (At a) = (a < 2 ^ 32) × IsTrue (code a)

-- some stamps, the entry first, then addresses of code words, ascending
abbrev pub StampsFit : (ℕ → Bool) → List Stamp → Type 0
StampsFit code [] = ⊥
StampsFit code (s ∷ stamps) = AreAscending (s ∷ stamps) × Each (StampFits code) (s ∷ stamps)

-- ---- what texts look like

-- no LF
abbrev pub is_inside : ℕ → Bool
is_inside b = not (b == 10)

-- no LF and no space
abbrev pub is_solid : ℕ → Bool
is_solid b = not (b == 10) && not (b == 32)

-- it is empty, or begins with a space and has no LF
abbrev pub IsNoteText : List ℕ → Type 0
IsNoteText [] = Unit {0}
IsNoteText (b ∷ text) = (b ≡ 32) × IsTrue (list_all is_inside text)

-- The texts of words and notes tell them: what is written is read back, and what is read is what was written.
pub record TextsTell {W N C : Type 0} (B : Algebra W N C) (NoteFits : (ℕ → Bool) → N → Type 0) (texts : Texts W N) (readings : Readings W N) : Type 0 where
  pub word_back : (c : C) (w : ℕ) (x : W) → IsWidth w → B.words.fits c w x → readings.word w (texts.word w x) ≡ Some x
  pub word_tells : (c : C) (w : ℕ) (text : List ℕ) (x : W) → IsWidth w → readings.word w text ≡ Some x → (texts.word w x ≡ text) × B.words.fits c w x
  pub note_back : (code : ℕ → Bool) (note : N) → NoteFits code note → readings.note code (texts.note note) ≡ Some note
  pub note_tells : (code : ℕ → Bool) (text : List ℕ) (note : N) → readings.note code text ≡ Some note → (texts.note note ≡ text) × NoteFits code note
  -- no byte of a word's text is LF or a space
  pub word_solid : (w : ℕ) (x : W) → IsTrue (list_all is_solid (texts.word w x))
  -- a note's text is empty, or begins with a space, and has no LF
  pub note_inside : (note : N) → IsNoteText (texts.note note)

-- ---- addresses

-- what addresses that are read behind a space are
pub record AddressesTold (text xs : List ℕ) : Type 0 where
  pub text_is : behind_spaces (map (number 32) xs) ≡ 32 ∷ text
  pub some : 1 ≤ length xs
  pub ascending : IsAscending xs
  pub below : Each (λ a. a < 2 ^ 32) xs

-- Texts of addresses, each behind a space, tell them: what is written is read back, and what is read is what was written.
pub record AddressesTell : Type 0 where
  pub back : (x : ℕ) (xs : List ℕ) → IsAscending (x ∷ xs) → Each (λ a. a < 2 ^ 32) (x ∷ xs) → addresses_in (number 32 x ++ behind_spaces (map (number 32) xs)) ≡ Some (x ∷ xs)
  pub tells : (text xs : List ℕ) → addresses_in text ≡ Some xs → AddressesTold text xs
