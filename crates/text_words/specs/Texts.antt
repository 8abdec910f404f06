-- The texts of the words and notes of each base.
use Rattle.std.specs.Prelude.{ℕ, List, [], ◌∷◌, ◌++◌, Option}
use Rattle.base_trait.specs.declared.uses.Stamp.{Stamp}
use Rattle.base_interval.specs.declared.range.Range.{Range}
use Rattle.base_bits.specs.declared.known.Known.{Known}
use Rattle.base_strides.specs.Words as strided
use Rattle.domain_affine_base.specs.declared.word.Word.{Word}
use Rattle.text_words.specs.Notes.{stamps_text}
use Rattle.text_words.specs.Words.{affine_text, known_text, number, pair_text, range_text, set_text, strided_text}

-- The texts of words W and notes N.
pub record Texts (W N : Type 0) : Type 0 where
  -- a word of so many bits
  pub word : ℕ → W → List ℕ
  -- where a cell came from, behind its word
  pub note : N → List ℕ

-- a word of so many bits, and where it came from
abbrev pub noted : {W N : Type 0} → Texts W N → ℕ → W → N → List ℕ
noted texts w x note = texts.word w x ++ texts.note note

-- a note that tells nothing
abbrev pub no_text : Unit {0} → List ℕ
no_text _ = []

abbrev pub concrete_texts : Texts ℕ Stamp
concrete_texts = record { word = number; note = λ stamp. stamps_text (stamp ∷ []) }

abbrev pub set_texts : Texts (Option (List ℕ)) (Unit {0})
set_texts = record { word = set_text; note = no_text }

abbrev pub interval_texts : Texts Range (Unit {0})
interval_texts = record { word = range_text; note = no_text }

abbrev pub bits_texts : Texts Known (Unit {0})
bits_texts = record { word = known_text; note = no_text }

abbrev pub strides_texts : Texts strided.Word (Unit {0})
strides_texts = record { word = strided_text; note = no_text }

abbrev pub defuse_texts : Texts (Option (List ℕ)) (List Stamp)
defuse_texts = record { word = set_text; note = stamps_text }

abbrev pub affine_texts : Texts Word (Unit {0})
affine_texts = record { word = affine_text; note = no_text }

abbrev pub paired_texts : {V W M N : Type 0} → Texts V M → Texts W N → Texts (V × W) (M × N)
paired_texts first second = record {
  word = pair_text first.word second.word;
  note = λ note. first.note note.0 ++ second.note note.1;
}
