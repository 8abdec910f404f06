-- The texts of each base of cells tell its words and notes.
use Rattle.std.proofs.Common.{◌≡◌, ℕ, List, [], ◌∷◌, Some, refl}
use Rattle.std.proofs.lemmas.Option.{none-some}
use Rattle.base_kset.specs.Meaning.{kset}
use Rattle.base_interval.specs.Meaning.{interval}
use Rattle.base_bits.specs.Meaning.{bits}
use Rattle.base_strides.specs.Meaning.{strides}
use Rattle.base_defuse.specs.Meaning.{defuse}
use Rattle.text_words.specs.Reading.{nothing_in}
use Rattle.text_words.specs.Readings.{NothingFits, StampsFit, TextsTell, bits_readings, defuse_readings, interval_readings, set_readings, strides_readings}
use Rattle.text_words.specs.Texts.{bits_texts, defuse_texts, interval_texts, no_text, set_texts, strides_texts}
use Rattle.text_words.specs.Inside.{known_solid, range_solid, set_solid, stamps_inside, strided_solid}
use Rattle.text_words.specs.StridesTold.{strided_back, strided_tells}
use Rattle.text_words.specs.Told.{known_back, known_tells, range_back, range_tells, set_back, set_tells, stamps_back, stamps_tell}

nothing_tells : (text : List ℕ) (note : Unit {0}) → nothing_in text ≡ Some note → (no_text note ≡ text) × Unit {0}
nothing_tells [] note e = (refl, tt)
nothing_tells (b ∷ text) note e = absurd (none-some note e)

pub sets_tell : (K : ℕ) → TextsTell (kset K) NothingFits set_texts (set_readings K)
sets_tell K = record {
  word_back = λ c w x width fits. set_back K w x width fits;
  word_tells = λ c w text x width e. set_tells K w text x e;
  note_back = λ code note fits. refl;
  note_tells = λ code text note e. nothing_tells text note e;
  word_solid = λ w x. set_solid w x;
  note_inside = λ note. tt;
}

pub intervals_tell : TextsTell interval NothingFits interval_texts interval_readings
intervals_tell = record {
  word_back = λ c w x width fits. range_back w x width fits;
  word_tells = λ c w text x width e. range_tells w text x width e;
  note_back = λ code note fits. refl;
  note_tells = λ code text note e. nothing_tells text note e;
  word_solid = λ w x. range_solid w x;
  note_inside = λ note. tt;
}

pub bits_tell : TextsTell bits NothingFits bits_texts bits_readings
bits_tell = record {
  word_back = λ c w x width fits. known_back w x width fits;
  word_tells = λ c w text x width e. known_tells w text x width e;
  note_back = λ code note fits. refl;
  note_tells = λ code text note e. nothing_tells text note e;
  word_solid = λ w x. known_solid w x;
  note_inside = λ note. tt;
}

pub strides_tell : TextsTell strides NothingFits strides_texts strides_readings
strides_tell = record {
  word_back = λ c w x width fits. strided_back w x width fits;
  word_tells = λ c w text x width e. strided_tells w text x e;
  note_back = λ code note fits. refl;
  note_tells = λ code text note e. nothing_tells text note e;
  word_solid = λ w x. strided_solid w x;
  note_inside = λ note. tt;
}

pub defuse_tell : TextsTell defuse StampsFit defuse_texts defuse_readings
defuse_tell = record {
  word_back = λ c w x width fits. set_back 1 w x width fits;
  word_tells = λ c w text x width e. set_tells 1 w text x e;
  note_back = λ code note fits. stamps_back code note fits;
  note_tells = λ code text note e. stamps_tell code text note e;
  word_solid = λ w x. set_solid w x;
  note_inside = λ note. stamps_inside note;
}
