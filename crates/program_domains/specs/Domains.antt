-- Domains as definitions see them, for states of a type.
use Rattle.std.specs.Prelude.{ℕ, ◌==◌, List, [], max, Option, codes, if◌then◌else◌}
use Rattle.base_trait.specs.Algebra.{Algebra}
use Rattle.base_trait.specs.declared.uses.Stamp.{Stamp}
use Rattle.base_kset.specs.Meaning.{kset}
use Rattle.base_interval.specs.Meaning.{interval}
use Rattle.base_interval.specs.declared.range.Range.{Range}
use Rattle.base_bits.specs.Meaning.{bits}
use Rattle.base_bits.specs.declared.known.Known.{Known}
use Rattle.base_strides.specs.Meaning.{strides}
use Rattle.base_strides.specs.Words as strided
use Rattle.base_defuse.specs.Meaning.{defuse}
use Rattle.domain_affine_base.specs.Meaning.{affine}
use Rattle.domain_affine_base.specs.declared.word.Word.{Word}
use Rattle.support_modular_rows.specs.Submodule.{Submodule}
use Rattle.base_product.specs.Meaning.{paired}
use Rattle.base_cuts.specs.Cuts.{Cuts, uncut}
use Rattle.base_cuts.specs.Intervals.{interval_cuts}
use Rattle.base_cuts.specs.Sets.{set_cuts}
use Rattle.base_cuts.specs.Strides.{stride_cuts}
use Rattle.semantics_values.specs.declared.entry.KeyAt.{KeyAt}
use Rattle.semantics_values.specs.States.{State}
use Rattle.abstract_value_laws.specs.Abs.{Parts}
use Rattle.fixpoint_theory.specs.Elements.{Elements}
use Rattle.fixpoint_theory.specs.Pairs.{paired as paired_elements}
use Rattle.fixpoint_cases.specs.Pieces.{Piece, pair_piece, whole_piece}
use Rattle.domain_laws.specs.Domain.{Meaning}
use Rattle.domain_laws.specs.States.{StateType}
use Rattle.domain_laws.specs.Calls.{cell_calls}
use Rattle.domain_laws.specs.Cells.{cells}
use Rattle.domain_cell_pieces.specs.Pieces.{cell_piece}
use Rattle.domain_affine_laws.specs.Calls.{affine_calls, affine_elements, cell_count}
use Rattle.domain_product_laws.specs.Domain.{pair_meaning}
use Rattle.text_words.specs.Readings.{Readings, bits_readings, defuse_readings, interval_readings, set_readings, strides_readings}
use Rattle.text_words.specs.Texts.{Texts, bits_texts, defuse_texts, interval_texts, set_texts, strides_texts}
use Rattle.text_words.specs.Words.{affine_text, pair_text}
use Rattle.text_elements.specs.Parts.{AffineText, CellsText, ElementText, PairText}
use Rattle.text_element_readers.specs.Reading.{AffineRead, CellsRead, ElementReading, PairRead}
use Rattle.text_element_readers.specs.Words.{WordReading, affine_word, cells_word, pair_word}
use Rattle.analysis_query_laws.specs.Affine.{affine_tell}
use Rattle.analysis_query_laws.specs.Answers.{Telling}
use Rattle.analysis_query_laws.specs.Cells.{cells_tell}
use Rattle.analysis_query_laws.specs.Pairs.{pairs_tell}

-- A domain with elements E, over words W, notes N and contexts C.
pub record DomainOf (E W N C : Type 0) : Type 1 where
  -- its base, and how many cells a map may list
  pub base : Algebra W N C
  pub cap : ℕ
  -- its elements, and the calls on them
  pub elements : Elements E State
  pub meaning : Meaning E W N C
  -- what is left of elements where a cell lies between two numbers
  pub pieces : Piece (ℕ × KeyAt) E
  -- the texts of elements, what is read of lines, what is read of a text as a word of 32 bits, and the texts of words of so many bits
  pub IsText : ElementText E
  pub Reads : ElementReading E
  pub word_in : WordReading W
  pub word_text : ℕ → W → List ℕ
  -- what elements tell of claims
  pub telling : Telling E

-- two domains side by side
abbrev pub pair_of : {E F V W M N C D : Type 0} → DomainOf E V M C → DomainOf F W N D → DomainOf (E × F) (V × W) (M × N) (C × D)
pair_of first second = record {
  base = paired first.base second.base;
  cap = max first.cap second.cap;
  elements = paired_elements first.elements second.elements;
  meaning = pair_meaning first.base second.base (max first.cap second.cap) first.meaning second.meaning;
  pieces = pair_piece first.pieces second.pieces;
  IsText = PairText first.IsText second.IsText;
  Reads = PairRead first.Reads second.Reads;
  word_in = pair_word first.word_in second.word_in;
  word_text = pair_text first.word_text second.word_text;
  telling = pairs_tell first.telling second.telling;
}

module _ (t : StateType) where
  -- cells of a base that has a name
  abbrev pub cells_of : {W N C : Type 0} → Algebra W N C → Cuts W C → C → ℕ → List ℕ → Texts W N → Readings W N → DomainOf (Parts W N) W N C
  cells_of base cuts c cap name texts readings = record {
    base = base;
    cap = cap;
    elements = cells base c cap t.fields;
    meaning = cell_calls base c cap t;
    pieces = cell_piece base cuts c cap t.fields;
    IsText = CellsText name texts;
    Reads = CellsRead readings cap name;
    word_in = cells_word readings;
    word_text = texts.word;
    telling = cells_tell base c;
  }

  -- sets of at most K numbers
  abbrev pub sets : ℕ → DomainOf (Parts (Option (List ℕ)) (Unit {0})) (Option (List ℕ)) (Unit {0}) (Unit {0})
  sets K = cells_of (kset K) (set_cuts K) tt 256 (if K == 1 then codes "const" else codes "kset") set_texts (set_readings K)

  abbrev pub intervals : DomainOf (Parts Range (Unit {0})) Range (Unit {0}) (Unit {0})
  intervals = cells_of interval interval_cuts tt 256 (codes "interval") interval_texts interval_readings

  abbrev pub known_bits : DomainOf (Parts Known (Unit {0})) Known (Unit {0}) (Unit {0})
  known_bits = cells_of bits uncut tt 256 (codes "bits") bits_texts bits_readings

  -- small sets and strided intervals, which are widened with no stops
  abbrev pub strided_sets : DomainOf (Parts strided.Word (Unit {0})) strided.Word (Unit {0}) (List ℕ)
  strided_sets = cells_of strides stride_cuts [] 256 (codes "strides") strides_texts strides_readings

  -- definitions and uses
  abbrev pub definitions : DomainOf (Parts (Option (List ℕ)) (List Stamp)) (Option (List ℕ)) (List Stamp) (Unit {0})
  definitions = cells_of defuse (set_cuts 1) tt 256 (codes "defuse") defuse_texts defuse_readings

  -- affine relations
  abbrev pub relations : DomainOf Submodule Word (Unit {0}) (List (ℕ × KeyAt))
  relations = record {
    base = affine;
    cap = 256;
    elements = affine_elements t;
    meaning = affine_calls t;
    pieces = whole_piece;
    IsText = AffineText;
    Reads = AffineRead (cell_count t);
    word_in = affine_word (cell_count t);
    word_text = affine_text;
    telling = affine_tell t;
  }
