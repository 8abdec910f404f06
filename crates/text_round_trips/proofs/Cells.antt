-- Cells are written and read back.
use Rattle.std.proofs.Common.{ℕ, Bool}
use Rattle.base_trait.specs.Algebra.{Algebra}
use Rattle.text_words.specs.Readings.{Readings, TextsTell}
use Rattle.text_words.specs.Texts.{Texts}
use Rattle.text_round_trips.specs.Laws.{CellsRoundTrip}
use Rattle.text_round_trips.proofs.CellsBack.{states_back}
use Rattle.text_round_trips.proofs.CellsTold.{states_told}

pub cells_round_trip : {W N C : Type 0} (B : Algebra W N C) {NoteFits : (ℕ → Bool) → N → Type 0} (texts : Texts W N) (readings : Readings W N) → TextsTell B NoteFits texts readings → CellsRoundTrip B NoteFits texts readings
cells_round_trip B texts readings tell c cap name spec inside is has = record {
  told = λ code ls rest x h. (states_told B c texts readings tell code spec cap name ls rest x is h).0;
  printable = λ code ls rest x h. (states_told B c texts readings tell code spec cap name ls rest x is h).1;
  back = λ code x text more fits fair is_text behind. states_back B c texts readings tell code spec cap name x text more inside has fits fair is_text behind;
}
