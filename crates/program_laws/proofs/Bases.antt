-- The domain of each base is told by its texts.
use Rattle.std.proofs.Common.{◌≡◌, true, [], refl}
use Rattle.std.specs.List.{list_all}
use Rattle.std.specs.Prelude.{codes}
use Rattle.base_kset.specs.Meaning.{kset}
use Rattle.base_interval.specs.Meaning.{interval}
use Rattle.base_bits.specs.Meaning.{bits}
use Rattle.base_strides.specs.Meaning.{strides}
use Rattle.base_defuse.specs.Meaning.{defuse}
use Rattle.base_cuts.specs.Cuts.{uncut}
use Rattle.base_cuts.specs.Intervals.{interval_cuts}
use Rattle.base_cuts.specs.Sets.{set_cuts}
use Rattle.base_cuts.specs.Strides.{stride_cuts}
use Rattle.support_command_line.specs.declared.bases.BaseName.{BaseName}
use Rattle.support_command_line.specs.declared.bases.BaseName.TheVariants as b
use Rattle.support_command_line.specs.Bases.{base_text}
use Rattle.spec_ir.specs.Specification.{Spec}
use Rattle.domain_laws.specs.States.{StateType, has_states, state_type}
use Rattle.state_text.specs.Laws.{HasFields}
use Rattle.text_words.specs.Readings.{NothingFits, StampsFit, bits_readings, defuse_readings, interval_readings, set_readings, strides_readings}
use Rattle.text_words.specs.Tell.{bits_tell, defuse_tell, intervals_tell, sets_tell, strides_tell}
use Rattle.text_words.specs.Texts.{bits_texts, defuse_texts, interval_texts, set_texts, strides_texts}
use Rattle.text_words.specs.Words.{affine_text}
use Rattle.text_lines.specs.Lines.{is_inside}
use Rattle.analysis_table_laws.specs.Domains.{HasNone}
use Rattle.analysis_table_laws.specs.Notes.{BothNotes, TellsNothing}
use Rattle.analysis_table_laws.specs.Values.{PartsHaveNotes}
use Rattle.analysis_table_laws.proofs.Notes.{nothing_keeps, stamps_keep}
use Rattle.text_round_trips.specs.Words.{AreSolid}
use Rattle.text_round_trips.proofs.Words.{relations_words_tell}
use Rattle.program_domains.specs.Domains.{definitions, intervals, known_bits, relations, sets, strided_sets}
use Rattle.program_domains.specs.Named.{domain_of}
use Rattle.program_laws.specs.Printable.{Asks, IsPrintableIn}
use Rattle.program_laws.proofs.Told.{IsTold, cells_are_told, pairs_are_told, relations_are_told}

-- no name of a base has an end of a line
pub names_inside : (base : BaseName) → list_all is_inside (base_text base) ≡ true
names_inside b.Const = refl
names_inside b.KSet = refl
names_inside b.Interval = refl
names_inside b.Affine = refl
names_inside b.DefUse = refl
names_inside b.ConstInterval = refl
names_inside b.KSetInterval = refl
names_inside b.KSetAffine = refl
names_inside b.KSetDefUse = refl
names_inside b.IntervalAffine = refl
names_inside b.IntervalDefUse = refl
names_inside b.AffineDefUse = refl
names_inside b.Bits = refl
names_inside b.KSetBits = refl
names_inside b.IntervalBits = refl
names_inside b.BitsDefUse = refl
names_inside b.Strides = refl
names_inside b.StridesAffine = refl
names_inside b.StridesDefUse = refl

-- no text of a word has a space
solid_sets : AreSolid set_texts.word
solid_sets = λ x. (sets_tell 16).word_solid 32 x

solid_intervals : AreSolid interval_texts.word
solid_intervals = λ x. intervals_tell.word_solid 32 x

solid_bits : AreSolid bits_texts.word
solid_bits = λ x. bits_tell.word_solid 32 x

solid_strided : AreSolid strides_texts.word
solid_strided = λ x. strides_tell.word_solid 32 x

module _ (spec : Spec) (has : has_states spec ≡ true) (fields : HasFields spec) where
  abbrev t : StateType
  t = state_type spec

  of_constants : IsTold (sets t 1) NothingFits (λ code. PartsHaveNotes (NothingFits code)) spec
  of_constants = cells_are_told spec has fields (kset 1) (set_cuts 1) tt (codes "const") set_texts (set_readings 1) NothingFits (sets_tell 1) nothing_keeps refl

  of_sets : IsTold (sets t 16) NothingFits (λ code. PartsHaveNotes (NothingFits code)) spec
  of_sets = cells_are_told spec has fields (kset 16) (set_cuts 16) tt (codes "kset") set_texts (set_readings 16) NothingFits (sets_tell 16) nothing_keeps refl

  of_intervals : IsTold (intervals t) NothingFits (λ code. PartsHaveNotes (NothingFits code)) spec
  of_intervals = cells_are_told spec has fields interval interval_cuts tt (codes "interval") interval_texts interval_readings NothingFits intervals_tell nothing_keeps refl

  of_bits : IsTold (known_bits t) NothingFits (λ code. PartsHaveNotes (NothingFits code)) spec
  of_bits = cells_are_told spec has fields bits uncut tt (codes "bits") bits_texts bits_readings NothingFits bits_tell nothing_keeps refl

  of_strided : IsTold (strided_sets t) NothingFits (λ code. PartsHaveNotes (NothingFits code)) spec
  of_strided = cells_are_told spec has fields strides stride_cuts [] (codes "strides") strides_texts strides_readings NothingFits strides_tell nothing_keeps refl

  of_definitions : IsTold (definitions t) StampsFit (λ code. PartsHaveNotes (StampsFit code)) spec
  of_definitions = cells_are_told spec has fields defuse (set_cuts 1) tt (codes "defuse") defuse_texts defuse_readings StampsFit defuse_tell stamps_keep refl

  of_relations : IsTold (relations t) TellsNothing (λ code. HasNone) spec
  of_relations = relations_are_told spec has fields

  solid_relations : AreSolid affine_text
  solid_relations = (relations_words_tell t).1

  -- What is told of a base, with what texts ask of its notes.
  abbrev pub Told : BaseName → Type 1
  Told base = (notes_are : Asks (domain_of t base).Note) × IsTold (domain_of t base).domain notes_are (IsPrintableIn t base) spec

  pub all_told : (base : BaseName) → Told base
  all_told b.Const = (NothingFits, of_constants)
  all_told b.KSet = (NothingFits, of_sets)
  all_told b.Interval = (NothingFits, of_intervals)
  all_told b.Affine = (TellsNothing, of_relations)
  all_told b.DefUse = (StampsFit, of_definitions)
  all_told b.ConstInterval = (λ code. BothNotes (NothingFits code) (NothingFits code), pairs_are_told (sets t 1) (intervals t) spec NothingFits NothingFits _ _ solid_sets of_constants of_intervals)
  all_told b.KSetInterval = (λ code. BothNotes (NothingFits code) (NothingFits code), pairs_are_told (sets t 16) (intervals t) spec NothingFits NothingFits _ _ solid_sets of_sets of_intervals)
  all_told b.KSetAffine = (λ code. BothNotes (NothingFits code) (TellsNothing code), pairs_are_told (sets t 16) (relations t) spec NothingFits TellsNothing _ _ solid_sets of_sets of_relations)
  all_told b.KSetDefUse = (λ code. BothNotes (NothingFits code) (StampsFit code), pairs_are_told (sets t 16) (definitions t) spec NothingFits StampsFit _ _ solid_sets of_sets of_definitions)
  all_told b.IntervalAffine = (λ code. BothNotes (NothingFits code) (TellsNothing code), pairs_are_told (intervals t) (relations t) spec NothingFits TellsNothing _ _ solid_intervals of_intervals of_relations)
  all_told b.IntervalDefUse = (λ code. BothNotes (NothingFits code) (StampsFit code), pairs_are_told (intervals t) (definitions t) spec NothingFits StampsFit _ _ solid_intervals of_intervals of_definitions)
  all_told b.AffineDefUse = (λ code. BothNotes (TellsNothing code) (StampsFit code), pairs_are_told (relations t) (definitions t) spec TellsNothing StampsFit _ _ solid_relations of_relations of_definitions)
  all_told b.Bits = (NothingFits, of_bits)
  all_told b.KSetBits = (λ code. BothNotes (NothingFits code) (NothingFits code), pairs_are_told (sets t 16) (known_bits t) spec NothingFits NothingFits _ _ solid_sets of_sets of_bits)
  all_told b.IntervalBits = (λ code. BothNotes (NothingFits code) (NothingFits code), pairs_are_told (intervals t) (known_bits t) spec NothingFits NothingFits _ _ solid_intervals of_intervals of_bits)
  all_told b.BitsDefUse = (λ code. BothNotes (NothingFits code) (StampsFit code), pairs_are_told (known_bits t) (definitions t) spec NothingFits StampsFit _ _ solid_bits of_bits of_definitions)
  all_told b.Strides = (NothingFits, of_strided)
  all_told b.StridesAffine = (λ code. BothNotes (NothingFits code) (TellsNothing code), pairs_are_told (strided_sets t) (relations t) spec NothingFits TellsNothing _ _ solid_strided of_strided of_relations)
  all_told b.StridesDefUse = (λ code. BothNotes (NothingFits code) (StampsFit code), pairs_are_told (strided_sets t) (definitions t) spec NothingFits StampsFit _ _ solid_strided of_strided of_definitions)
