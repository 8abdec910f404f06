-- What is read of lines in each domain.
use Rattle.std.proofs.Common.{◌≡◌, ℕ, true, List, []}
use Rattle.base_kset.specs.Meaning.{kset}
use Rattle.base_interval.specs.Meaning.{interval}
use Rattle.base_bits.specs.Meaning.{bits}
use Rattle.base_strides.specs.Meaning.{strides}
use Rattle.base_defuse.specs.Meaning.{defuse}
use Rattle.spec_ir.specs.Specification.{Spec}
use Rattle.semantics_values.specs.States.{State}
use Rattle.fixpoint_theory.specs.Elements.{Elements}
use Rattle.fixpoint_theory.specs.Pairs.{paired}
use Rattle.domain_laws.specs.States.{has_states, state_type}
use Rattle.domain_laws.specs.Cells.{cells}
use Rattle.domain_affine_laws.specs.Calls.{affine_elements, cell_count}
use Rattle.text_words.specs.Tell.{bits_tell, defuse_tell, intervals_tell, sets_tell, strides_tell}
use Rattle.text_words.specs.Texts.{bits_texts, defuse_texts, interval_texts, set_texts, strides_texts}
use Rattle.text_words.specs.Readings.{bits_readings, defuse_readings, interval_readings, set_readings, strides_readings}
use Rattle.text_element_readers.specs.Reading.{AffineRead, CellsRead, ElementReading, PairRead}
use Rattle.text_element_readers.specs.Laws.{ReadingLaws}
use Rattle.text_element_readers.proofs.Told as told

module _ (spec : Spec) (has : has_states spec ≡ true) where
  pub sets_are_read : (K : ℕ) (name : List ℕ) → ReadingLaws (CellsRead (set_readings K) 256 name) (cells (kset K) tt 256 (state_type spec).fields) spec
  sets_are_read K name = told.cells_are_read (kset K) set_texts (set_readings K) (sets_tell K) 256 tt name spec has

  pub intervals_are_read : (name : List ℕ) → ReadingLaws (CellsRead interval_readings 256 name) (cells interval tt 256 (state_type spec).fields) spec
  intervals_are_read name = told.cells_are_read interval interval_texts interval_readings intervals_tell 256 tt name spec has

  pub bits_are_read : (name : List ℕ) → ReadingLaws (CellsRead bits_readings 256 name) (cells bits tt 256 (state_type spec).fields) spec
  bits_are_read name = told.cells_are_read bits bits_texts bits_readings bits_tell 256 tt name spec has

  pub strided_are_read : (name : List ℕ) → ReadingLaws (CellsRead strides_readings 256 name) (cells strides [] 256 (state_type spec).fields) spec
  strided_are_read name = told.cells_are_read strides strides_texts strides_readings strides_tell 256 [] name spec has

  pub definitions_are_read : (name : List ℕ) → ReadingLaws (CellsRead defuse_readings 256 name) (cells defuse tt 256 (state_type spec).fields) spec
  definitions_are_read name = told.cells_are_read defuse defuse_texts defuse_readings defuse_tell 256 tt name spec has

  pub relations_are_read : ReadingLaws (AffineRead (cell_count (state_type spec))) (affine_elements (state_type spec)) spec
  relations_are_read = told.relations_are_read (state_type spec) spec

pub pairs_are_read : {E F : Type 0} (First : ElementReading E) (Second : ElementReading F) (D : Elements E State) (G : Elements F State) (spec : Spec) → ReadingLaws First D spec → ReadingLaws Second G spec → ReadingLaws (PairRead First Second) (paired D G) spec
pairs_are_read First Second D G spec first second = told.pairs_are_read First Second D G spec first second
