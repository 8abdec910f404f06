-- Domains whose elements are written and read back, and the tables of whose analyses are printable.
use Rattle.std.proofs.Common.{◌≡◌, ℕ, Bool, true, max, List}
use Rattle.std.specs.List.{list_all}
use Rattle.base_trait.specs.Algebra.{Algebra}
use Rattle.spec_ir.specs.Specification.{Spec}
use Rattle.domain_laws.specs.States.{has_states, state_type}
use Rattle.state_text.specs.Laws.{HasFields}
use Rattle.text_words.specs.Readings.{Readings, TextsTell}
use Rattle.text_words.specs.Texts.{Texts}
use Rattle.text_lines.specs.Lines.{is_inside}
use Rattle.analysis_table_laws.specs.Domains.{ElementsKeep, HasNone, PiecesKeep}
use Rattle.analysis_table_laws.specs.Notes.{BothNotes, NotesKeep, TellsNothing}
use Rattle.analysis_table_laws.specs.Values.{PartsHaveNotes}
use Rattle.analysis_table_laws.proofs.Affine.{relations_keep}
use Rattle.analysis_table_laws.proofs.Cells.{cells_keep}
use Rattle.analysis_table_laws.proofs.Notes.{nothing_keeps, pairs_keep}
use Rattle.analysis_table_laws.proofs.Pairs.{domains_keep}
use Rattle.analysis_table_laws.proofs.Pieces.{cell_pieces_keep, pair_pieces_keep, whole_pieces_keep}
use Rattle.base_cuts.specs.Cuts.{Cuts}
use Rattle.text_round_trips.specs.Laws.{BeginWithPart}
use Rattle.text_round_trips.specs.RoundTrips.{RoundTrips}
use Rattle.text_round_trips.specs.Words.{AreSolid, WordsTell}
use Rattle.text_round_trips.proofs.Begin.{cells_begin, pairs_begin, relations_begin}
use Rattle.text_round_trips.proofs.Cells.{cells_round_trip}
use Rattle.text_round_trips.proofs.Pairs.{pairs_round_trip}
use Rattle.text_round_trips.proofs.Relations.{relations_round_trip}
use Rattle.text_round_trips.proofs.Words.{cells_words_tell, pairs_words_tell, relations_words_tell}
use Rattle.program_domains.specs.Domains.{DomainOf, cells_of, pair_of, relations}
use Rattle.program_laws.specs.Printable.{Asks}

-- Texts of elements tell them, and calls keep what texts ask of elements and notes.
pub record IsTold {E W N C : Type 0} (domain : DomainOf E W N C) (notes_are : Asks N) (elements_are : Asks E) (spec : Spec) : Type 0 where
  pub trips : RoundTrips domain.Reads domain.IsText domain.elements elements_are spec
  pub words : WordsTell domain.word_text domain.word_in (domain.base.words.fits domain.meaning.context 32)
  pub begin : BeginWithPart domain.IsText spec
  pub notes : (code : ℕ → Bool) → NotesKeep domain.base.notes code (notes_are code)
  pub keeps : (code : ℕ → Bool) → ElementsKeep domain.elements domain.meaning (notes_are code) (elements_are code)
  pub pieces : (code : ℕ → Bool) → PiecesKeep domain.pieces (elements_are code)

module _ (spec : Spec) (has : has_states spec ≡ true) (fields : HasFields spec) where
  pub cells_are_told : {W N C : Type 0} (base : Algebra W N C) (cuts : Cuts W C) (c : C) (name : List ℕ) (texts : Texts W N) (readings : Readings W N) (F : Asks N) → TextsTell base F texts readings
      → ((code : ℕ → Bool) → NotesKeep base.notes code (F code)) → list_all is_inside name ≡ true → IsTold (cells_of (state_type spec) base cuts c 256 name texts readings) F (λ code. PartsHaveNotes (F code)) spec
  cells_are_told base cuts c name texts readings F tell notes inside = record {
    trips = cells_round_trip base texts readings tell c 256 name spec inside has fields;
    words = (cells_words_tell base texts readings tell c).0;
    begin = cells_begin texts name spec;
    notes = notes;
    keeps = λ code. cells_keep base c 256 code (F code) (notes code) (state_type spec);
    pieces = λ code. cell_pieces_keep base cuts c 256 code (F code) (notes code) (state_type spec).fields;
  }

  pub relations_are_told : IsTold (relations (state_type spec)) TellsNothing (λ code. HasNone) spec
  relations_are_told = record {
    trips = relations_round_trip (state_type spec) spec;
    words = (relations_words_tell (state_type spec)).0;
    begin = relations_begin spec;
    notes = nothing_keeps;
    keeps = λ code. relations_keep (state_type spec) code;
    pieces = λ code. whole_pieces_keep HasNone;
  }

module _ {E F V W M N C D : Type 0} (first : DomainOf E V M C) (second : DomainOf F W N D) (spec : Spec) (P : Asks M) (Q : Asks N) (J : Asks E) (K : Asks F) where
  pub pairs_are_told : AreSolid first.word_text → IsTold first P J spec → IsTold second Q K spec → IsTold (pair_of first second) (λ code. BothNotes (P code) (Q code)) (λ code x. J code x.0 × K code x.1) spec
  pairs_are_told solid left right = record {
    trips = pairs_round_trip first.Reads second.Reads first.IsText second.IsText first.elements second.elements J K spec right.begin left.trips right.trips;
    words = pairs_words_tell first.word_text second.word_text first.word_in second.word_in (first.base.words.fits first.meaning.context 32) (second.base.words.fits second.meaning.context 32) solid left.words right.words;
    begin = pairs_begin first.IsText second.IsText spec left.begin;
    notes = λ code. pairs_keep first.base.notes second.base.notes code (P code) (Q code) (left.notes code) (right.notes code);
    keeps = λ code. domains_keep first.base second.base (max first.cap second.cap) code first.elements second.elements first.meaning second.meaning
        (P code) (Q code) (J code) (K code) (left.notes code) (right.notes code) (left.keeps code) (right.keeps code);
    pieces = λ code. pair_pieces_keep (J code) (K code) first.pieces second.pieces (left.pieces code) (right.pieces code);
  }
