-- The bases.
use Rattle.std.proofs.Common.{◌≡◌, ◌⊎◌, ℕ, List, [], true, IsTrue, inl, inr, refl}
use Rattle.std.specs.Prelude.{codes, if◌then◌else◌, ◌==◌}
use Rattle.base_kset.specs.Meaning.{kset}
use Rattle.base_kset.specs.Instance.{kset_laws}
use Rattle.base_interval.specs.Meaning.{interval}
use Rattle.base_interval.specs.Instance.{interval_laws}
use Rattle.base_bits.specs.Meaning.{bits}
use Rattle.base_bits.specs.Instance.{bits_laws}
use Rattle.base_strides.specs.Meaning.{strides}
use Rattle.base_strides.specs.Instance.{strides_laws}
use Rattle.base_defuse.specs.Meaning.{defuse}
use Rattle.base_defuse.specs.Instance.{defuse_laws}
use Rattle.support_command_line.specs.declared.bases.BaseName.{BaseName}
use Rattle.support_command_line.specs.declared.bases.BaseName.TheVariants as b
use Rattle.support_command_line.specs.Bases.{base_text}
use Rattle.code_image.specs.Image.{Image}
use Rattle.spec_ir.specs.Specification.{Spec}
use Rattle.domain_laws.specs.States.{StateType, has_states, state_type}
use Rattle.analysis_transfer_laws.specs.Problem.{IsWellFormedProblem, Problem}
use Rattle.domain_product_laws.specs.Domain.{may_pair}
use Rattle.analysis_problems.proofs.States.{accepted_have_states}
use Rattle.text_words.specs.Readings.{bits_readings, defuse_readings, interval_readings, set_readings, strides_readings}
use Rattle.text_words.specs.Texts.{bits_texts, defuse_texts, interval_texts, set_texts, strides_texts}
use Rattle.program_common.specs.Outcome.{Outcome}
use Rattle.program_domains.specs.Domains.{DomainOf, definitions, intervals, known_bits, pair_of, relations, sets, strided_sets}
use Rattle.program_domains.specs.Analyses.{IsTable}
use Rattle.program_domains.specs.Laws.{AnalysesAreOne, AnalysesHaveSome, AreOne, AreTextsOfOne, OpenAnalysesAreOne, OpenAnalysesHaveSome, of_open_table, of_table}
use Rattle.program_domains.specs.Named.{Analysed, AnalysedOpen, AnyDomain, domain_of, has_relations}
use Rattle.program_domains.specs.OpenAnalyses.{IsOpenTable}
use Rattle.base_cuts.specs.Cuts.{uncut}
use Rattle.base_cuts.specs.IntervalLaws.{intervals_are_cut}
use Rattle.base_cuts.specs.Intervals.{interval_cuts}
use Rattle.base_cuts.specs.SetLaws.{sets_are_cut}
use Rattle.base_cuts.specs.Sets.{set_cuts}
use Rattle.base_cuts.specs.StrideLaws.{strides_are_cut}
use Rattle.base_cuts.specs.Strides.{stride_cuts}
use Rattle.base_cuts.specs.UncutLaws.{words_may_stay_uncut}
use Rattle.program_domains.proofs.Lawful.{IsLawful, IsPlain, cells_are_plain, pairs_are_lawful, pairs_are_plain, relations_are_lawful}
use Rattle.program_domains.proofs.Read.{bits_are_read, definitions_are_read, intervals_are_read, sets_are_read, strided_are_read}
use Rattle.program_domains.proofs.OpenOutcomes.{has_open_outcome, open_ends_are_alike, open_outcomes_are_alike, open_outcomes_are_one, open_tables_are_alike}
use Rattle.program_domains.proofs.Outcomes.{has_outcome, outcomes_are_alike, outcomes_are_one, tables_are_alike}

-- The domain of a base is plain, or it has relations and is lawful.
abbrev pub IsKnown : {E W N C : Type 0} → BaseName → DomainOf E W N C → Spec → Type 0
IsKnown base domain spec = IsPlain domain spec ⊎ (IsTrue (has_relations base) × IsLawful domain spec)

module _ {E W N C : Type 0} (base : BaseName) (domain : DomainOf E W N C) (spec : Spec) where
  pub known_is_lawful : IsKnown base domain spec → IsLawful domain spec
  known_is_lawful (inl plain) = plain.lawful
  known_is_lawful (inr related) = related.1

module _ (spec : Spec) (has : has_states spec ≡ true) where
  abbrev t : StateType
  t = state_type spec

  -- ---- those of cells
  of_sets : (K : ℕ) → IsPlain (sets t K) spec
  of_sets K = cells_are_plain spec has (kset K) (set_cuts K) tt (if K == 1 then codes "const" else codes "kset") set_texts (set_readings K) (kset_laws K) (sets_are_cut K) refl refl (sets_are_read spec has K (if K == 1 then codes "const" else codes "kset"))

  of_intervals : IsPlain (intervals t) spec
  of_intervals = cells_are_plain spec has interval interval_cuts tt (codes "interval") interval_texts interval_readings interval_laws intervals_are_cut refl refl (intervals_are_read spec has (codes "interval"))

  of_bits : IsPlain (known_bits t) spec
  of_bits = cells_are_plain spec has bits uncut tt (codes "bits") bits_texts bits_readings bits_laws (words_may_stay_uncut bits bits_laws) refl refl (bits_are_read spec has (codes "bits"))

  of_strided : IsPlain (strided_sets t) spec
  of_strided = cells_are_plain spec has strides stride_cuts [] (codes "strides") strides_texts strides_readings strides_laws strides_are_cut refl refl (strided_are_read spec has (codes "strides"))

  of_definitions : IsPlain (definitions t) spec
  of_definitions = cells_are_plain spec has defuse (set_cuts 1) tt (codes "defuse") defuse_texts defuse_readings defuse_laws (sets_are_cut 1) refl refl (definitions_are_read spec has (codes "defuse"))

  of_relations : IsLawful (relations t) spec
  of_relations = relations_are_lawful spec has

  -- ---- pairs
  plain_pair : (base : BaseName) {E F V W M N C D : Type 0} (first : DomainOf E V M C) (second : DomainOf F W N D) → IsPlain first spec → IsPlain second spec
      → IsTrue (may_pair first.base second.base) → IsKnown base (pair_of first second) spec
  plain_pair base first second left right may = inl (pairs_are_plain first second spec left right may)

  related_pair : (base : BaseName) {E F V W M N C D : Type 0} (first : DomainOf E V M C) (second : DomainOf F W N D) → IsTrue (has_relations base)
      → IsLawful first spec → IsLawful second spec → IsTrue (may_pair first.base second.base) → IsKnown base (pair_of first second) spec
  related_pair base first second has_some left right may = inr (has_some, pairs_are_lawful first second spec left right may)

  -- ---- each base
  pub all_known : (base : BaseName) → IsKnown base (domain_of t base).domain spec
  all_known b.Const = inl (of_sets 1)
  all_known b.KSet = inl (of_sets 16)
  all_known b.Interval = inl of_intervals
  all_known b.Affine = inr (refl, of_relations)
  all_known b.DefUse = inl of_definitions
  all_known b.ConstInterval = plain_pair b.ConstInterval (sets t 1) (intervals t) (of_sets 1) of_intervals refl
  all_known b.KSetInterval = plain_pair b.KSetInterval (sets t 16) (intervals t) (of_sets 16) of_intervals refl
  all_known b.KSetAffine = related_pair b.KSetAffine (sets t 16) (relations t) refl (of_sets 16).lawful of_relations refl
  all_known b.KSetDefUse = plain_pair b.KSetDefUse (sets t 16) (definitions t) (of_sets 16) of_definitions refl
  all_known b.IntervalAffine = related_pair b.IntervalAffine (intervals t) (relations t) refl of_intervals.lawful of_relations refl
  all_known b.IntervalDefUse = plain_pair b.IntervalDefUse (intervals t) (definitions t) of_intervals of_definitions refl
  all_known b.AffineDefUse = related_pair b.AffineDefUse (relations t) (definitions t) refl of_relations of_definitions.lawful refl
  all_known b.Bits = inl of_bits
  all_known b.KSetBits = plain_pair b.KSetBits (sets t 16) (known_bits t) (of_sets 16) of_bits refl
  all_known b.IntervalBits = plain_pair b.IntervalBits (intervals t) (known_bits t) of_intervals of_bits refl
  all_known b.BitsDefUse = plain_pair b.BitsDefUse (known_bits t) (definitions t) of_bits of_definitions refl
  all_known b.Strides = inl of_strided
  all_known b.StridesAffine = related_pair b.StridesAffine (strided_sets t) (relations t) refl of_strided.lawful of_relations refl
  all_known b.StridesDefUse = plain_pair b.StridesDefUse (strided_sets t) (definitions t) of_strided of_definitions refl

-- ---- analyses

module _ (image : Image) (p : Problem) (base : BaseName) (posed : IsWellFormedProblem p) where
  pub posed_have_states : has_states p.spec ≡ true
  posed_have_states = accepted_have_states p.spec p.machine posed.accepted posed.machine

  abbrev any_domain : AnyDomain
  any_domain = domain_of (state_type p.spec) base

  pub known : IsKnown base any_domain.domain p.spec
  known = all_known p.spec posed_have_states base

  texts_of_one : IsLawful any_domain.domain p.spec → (bytes other : List ℕ) → IsTable any_domain.domain p image (base_text base) bytes → IsTable any_domain.domain p image (base_text base) other
      → AreTextsOfOne base p.spec image bytes other
  texts_of_one lawful bytes other h k = of_table h.table k.table (tables_are_alike any_domain.domain p lawful posed image (base_text base) bytes other h k) h.text k.text

  open_texts_of_one : IsLawful any_domain.domain p.spec → (bytes other : List ℕ) → IsOpenTable any_domain.domain p image (base_text base) bytes → IsOpenTable any_domain.domain p image (base_text base) other
      → AreTextsOfOne base p.spec image bytes other
  open_texts_of_one lawful bytes other h k =
      let alike = open_tables_are_alike any_domain.domain p lawful posed image (base_text base) bytes other h k in
      of_open_table h.table k.table h.ends k.ends alike (open_ends_are_alike any_domain.domain p lawful posed image (base_text base) bytes other h k) h.text k.text

  are_one : (found other : Outcome) → IsKnown base any_domain.domain p.spec → Analysed image p base found → Analysed image p base other → AreOne base p.spec image found other
  are_one found other (inl plain) h k = inl (outcomes_are_one any_domain.domain p plain.lawful posed image (base_text base) plain.exact found other h k)
  are_one found other (inr related) h k =
      outcomes_are_alike any_domain.domain p image (base_text base) (AreOne base p.spec image) (λ bytes other h k. inr (related.0, texts_of_one related.1 bytes other h k)) (λ refusal. inl refl) found other h k

  open_one : (found other : Outcome) → IsKnown base any_domain.domain p.spec → AnalysedOpen image p base found → AnalysedOpen image p base other → AreOne base p.spec image found other
  open_one found other (inl plain) h k = inl (open_outcomes_are_one any_domain.domain p plain.lawful posed image (base_text base) plain.exact found other h k)
  open_one found other (inr related) h k =
      open_outcomes_are_alike any_domain.domain p image (base_text base) (AreOne base p.spec image) (λ bytes other h k. inr (related.0, open_texts_of_one related.1 bytes other h k)) found other h k

pub analyses_are_one : AnalysesAreOne
analyses_are_one image p base found other posed h k = are_one image p base posed found other (known image p base posed) h k

pub analyses_have_some : AnalysesHaveSome
analyses_have_some image p base posed =
    let any = domain_of (state_type p.spec) base in
    has_outcome any.domain p (known_is_lawful base any.domain p.spec (known image p base posed)) posed image (base_text base)

pub open_analyses_are_one : OpenAnalysesAreOne
open_analyses_are_one image p base found other posed h k = open_one image p base posed found other (known image p base posed) h k

pub open_analyses_have_some : OpenAnalysesHaveSome
open_analyses_have_some image p base posed =
    let any = domain_of (state_type p.spec) base in
    has_open_outcome any.domain p (known_is_lawful base any.domain p.spec (known image p base posed)) posed image (base_text base)
