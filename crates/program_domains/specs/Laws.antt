-- The outcomes of work on tables.
use Rattle.std.specs.Prelude.{◌≡◌, ◌⊎◌, ◌↔◌, ℕ, IsSome, IsTrue, List, ◌∷◌, Ok, Some, is_some, true}
use Rattle.base_trait.specs.Lists.{Each}
use Rattle.support_modular_rows.specs.Submodule.{Congruent, Submodule, dot}
use Rattle.domain_affine_laws.specs.Calls.{cell_count}
use Rattle.domain_affine_laws.specs.Tracked.{tracked_cells}
use Rattle.analysis_query_laws.specs.Affine.{IsDescribed}
use Rattle.analysis_query_laws.specs.Answers.{column_of, form_of, told}
use Rattle.analysis_query_laws.specs.Claims.{Multiple, sum}
use Rattle.support_command_line.specs.Bases.{base_text}
use Rattle.support_command_line.specs.declared.bases.BaseName.{BaseName}
use Rattle.code_image.specs.Image.{Image, code_at}
use Rattle.spec_ir.specs.Specification.{Spec}
use Rattle.domain_laws.specs.States.{StateType, has_states, state_type}
use Rattle.fixpoint_theory.specs.Code.{is_code}
use Rattle.fixpoint_theory.specs.Table.{Listings}
use Rattle.fixpoint_open_tables.specs.Endings.{Endings}
use Rattle.text_tables.specs.Open.{IsOpenTableText}
use Rattle.text_tables.specs.Tables.{IsTableText}
use Rattle.text_table_reader.specs.Readings.{AreAlike}
use Rattle.analysis_transfer_laws.specs.Problem.{IsWellFormedProblem, Problem}
use Rattle.text_slices.specs.declared.slice_cell.SliceCell.{SliceCell}
use Rattle.program_common.specs.Outcome.{Outcome, text}
use Rattle.program_domains.specs.Named.{Analysed, AnalysedOpen, Checked, CheckedOpen, Claimed, ClaimedOpen, Converted, Measured, Sliced, SlicedOpen, domain_of, has_relations, relations_in}

-- Both are texts of one table of a specification's states and a code over a base, whose elements may have several texts: they list the same, up to
-- how elements are written. Of one that is left open the blocks end alike, too.
pub data AreTextsOfOne (base : BaseName) (spec : Spec) (image : Image) (bytes other : List ℕ) : Type 0 where
  of_table : (table again : Listings (domain_of (state_type spec) base).Element) → AreAlike (domain_of (state_type spec) base).domain.elements table again
      → IsTableText ((domain_of (state_type spec) base).domain.IsText spec) spec image (base_text base) table bytes
      → IsTableText ((domain_of (state_type spec) base).domain.IsText spec) spec image (base_text base) again other → AreTextsOfOne base spec image bytes other
  of_open_table : (table again : Listings (domain_of (state_type spec) base).Element) (ends ends_again : Endings (domain_of (state_type spec) base).Word)
      → AreAlike (domain_of (state_type spec) base).domain.elements table again → ((a : ℕ) → ends a ≡ ends_again a)
      → IsOpenTableText (domain_of (state_type spec) base).domain.word_text ((domain_of (state_type spec) base).domain.IsText spec) spec image (base_text base) table ends bytes
      → IsOpenTableText (domain_of (state_type spec) base).domain.word_text ((domain_of (state_type spec) base).domain.IsText spec) spec image (base_text base) again ends_again other → AreTextsOfOne base spec image bytes other

abbrev pub AreTexts : BaseName → Spec → Image → Outcome → Outcome → Type 0
AreTexts base spec image (Ok (text bytes)) (Ok (text other)) = AreTextsOfOne base spec image bytes other
AreTexts base spec image _ _ = ⊥

-- They are one outcome; over relations both may be texts of one table.
abbrev pub AreOne : BaseName → Spec → Image → Outcome → Outcome → Type 0
AreOne base spec image found other = (found ≡ other) ⊎ (IsTrue (has_relations base) × AreTexts base spec image found other)

-- Of a well-posed problem the analysis over a base has one outcome at most, but that over relations two may be texts of its table,
abbrev pub AnalysesAreOne : Type 0
AnalysesAreOne = (image : Image) (p : Problem) (base : BaseName) (found other : Outcome) → IsWellFormedProblem p → Analysed image p base found → Analysed image p base other → AreOne base p.spec image found other

-- and at least one.
abbrev pub AnalysesHaveSome : Type 0
AnalysesHaveSome = (image : Image) (p : Problem) (base : BaseName) → IsWellFormedProblem p → (found : Outcome) × Analysed image p base found

-- So it is of an analysis that is left open: one outcome at most, but that over relations two may be texts of its table,
abbrev pub OpenAnalysesAreOne : Type 0
OpenAnalysesAreOne = (image : Image) (p : Problem) (base : BaseName) (found other : Outcome) → IsWellFormedProblem p → AnalysedOpen image p base found → AnalysedOpen image p base other → AreOne base p.spec image found other

-- and at least one.
abbrev pub OpenAnalysesHaveSome : Type 0
OpenAnalysesHaveSome = (image : Image) (p : Problem) (base : BaseName) → IsWellFormedProblem p → (found : Outcome) × AnalysedOpen image p base found

-- Where an analysis has a table, the one that is left open has it too: nothing in it is open.
abbrev pub ClosedAnalysesAreOpen : Type 0
ClosedAnalysesAreOpen = (image : Image) (p : Problem) (base : BaseName) (bytes : List ℕ) → Analysed image p base (Ok (text bytes)) → AnalysedOpen image p base (Ok (text bytes))

-- What is measured of an analysis has one outcome at most, over relations too,
abbrev pub MeasuresAreOne : Type 0
MeasuresAreOne = (image : Image) (p : Problem) (base : BaseName) (found other : Outcome) → IsWellFormedProblem p → Measured image p base found → Measured image p base other → found ≡ other

-- and at least one.
abbrev pub MeasuresHaveSome : Type 0
MeasuresHaveSome = (image : Image) (p : Problem) (base : BaseName) → IsWellFormedProblem p → (found : Outcome) × Measured image p base found

-- ---- checks and conversions

-- The code words of an image are those of a problem.
abbrev pub HasWordsOf : Image → Problem → Type 0
HasWordsOf image p = (a : ℕ) → IsTrue (is_some (code_at image a)) → IsTrue (is_code p.addresses a)

-- Of a well-posed problem the check of a text has one outcome at most,
abbrev pub ChecksAreOne : Type 0
ChecksAreOne = (image : Image) (p : Problem) (base : BaseName) (bytes : List ℕ) (found other : Outcome) → IsWellFormedProblem p → Checked image p base bytes found → Checked image p base bytes other → found ≡ other

-- and at least one, where the image is the problem's.
abbrev pub ChecksHaveSome : Type 0
ChecksHaveSome = (image : Image) (p : Problem) (base : BaseName) (bytes : List ℕ) → IsWellFormedProblem p → HasWordsOf image p → (found : Outcome) × Checked image p base bytes found

-- A text that is written anew has one outcome at most, but that over relations two may be texts of its table, where the specification has states,
abbrev pub ConversionsAreOne : Type 0
ConversionsAreOne = (image : Image) (spec : Spec) (base : BaseName) (bytes : List ℕ) (found other : Outcome) → has_states spec ≡ true → Converted image spec base bytes found → Converted image spec base bytes other → AreOne base spec image found other

-- and at least one.
abbrev pub ConversionsHaveSome : Type 0
ConversionsHaveSome = (image : Image) (spec : Spec) (base : BaseName) (bytes : List ℕ) → has_states spec ≡ true → (found : Outcome) × Converted image spec base bytes found

-- ---- slices and claims

-- Of a well-posed problem the slice of a text has one outcome at most,
abbrev pub SlicesAreOne : Type 0
SlicesAreOne = (image : Image) (p : Problem) (base : BaseName) (bytes : List ℕ) (at : ℕ) (asked : SliceCell) (found other : Outcome) → IsWellFormedProblem p → Sliced image p base bytes at asked found → Sliced image p base bytes at asked other → found ≡ other

-- and at least one, where the image is the problem's.
abbrev pub SlicesHaveSome : Type 0
SlicesHaveSome = (image : Image) (p : Problem) (base : BaseName) (bytes : List ℕ) (at : ℕ) (asked : SliceCell) → IsWellFormedProblem p → HasWordsOf image p → (found : Outcome) × Sliced image p base bytes at asked found

-- Claims have one outcome at most,
abbrev pub ClaimsAreOne : Type 0
ClaimsAreOne = (image : Image) (p : Problem) (base : BaseName) (bytes list : List ℕ) (found other : Outcome) → IsWellFormedProblem p → Claimed image p base bytes list found → Claimed image p base bytes list other → found ≡ other

-- and at least one.
abbrev pub ClaimsHaveSome : Type 0
ClaimsHaveSome = (image : Image) (p : Problem) (base : BaseName) (bytes list : List ℕ) → IsWellFormedProblem p → HasWordsOf image p → (found : Outcome) × Claimed image p base bytes list found

-- ---- the same, where blocks may be left open

-- The check of a text has one outcome at most, and at least one.
abbrev pub OpenChecksAreOne : Type 0
OpenChecksAreOne = (image : Image) (p : Problem) (base : BaseName) (bytes : List ℕ) (found other : Outcome) → IsWellFormedProblem p → CheckedOpen image p base bytes found → CheckedOpen image p base bytes other → found ≡ other

abbrev pub OpenChecksHaveSome : Type 0
OpenChecksHaveSome = (image : Image) (p : Problem) (base : BaseName) (bytes : List ℕ) → IsWellFormedProblem p → HasWordsOf image p → (found : Outcome) × CheckedOpen image p base bytes found

-- So it is of its slice,
abbrev pub OpenSlicesAreOne : Type 0
OpenSlicesAreOne = (image : Image) (p : Problem) (base : BaseName) (bytes : List ℕ) (at : ℕ) (asked : SliceCell) (found other : Outcome) → IsWellFormedProblem p → SlicedOpen image p base bytes at asked found → SlicedOpen image p base bytes at asked other → found ≡ other

abbrev pub OpenSlicesHaveSome : Type 0
OpenSlicesHaveSome = (image : Image) (p : Problem) (base : BaseName) (bytes : List ℕ) (at : ℕ) (asked : SliceCell) → IsWellFormedProblem p → HasWordsOf image p → (found : Outcome) × SlicedOpen image p base bytes at asked found

-- and of claims.
abbrev pub OpenClaimsAreOne : Type 0
OpenClaimsAreOne = (image : Image) (p : Problem) (base : BaseName) (bytes list : List ℕ) (found other : Outcome) → IsWellFormedProblem p → ClaimedOpen image p base bytes list found → ClaimedOpen image p base bytes list other → found ≡ other

abbrev pub OpenClaimsHaveSome : Type 0
OpenClaimsHaveSome = (image : Image) (p : Problem) (base : BaseName) (bytes list : List ℕ) → IsWellFormedProblem p → HasWordsOf image p → (found : Outcome) × ClaimedOpen image p base bytes list found

-- A text that a check accepts is accepted where blocks may be left open, too: none is.
abbrev pub ClosedChecksAreOpen : Type 0
ClosedChecksAreOpen = (image : Image) (p : Problem) (base : BaseName) (bytes accepted : List ℕ) → IsWellFormedProblem p → Checked image p base bytes (Ok (text accepted)) → CheckedOpen image p base bytes (Ok (text accepted))

-- Where affine relations describe some numbers of the tracked cells, a sum is told exactly where it is 0 for all numbers that they describe.
abbrev pub SumsAreExact : Type 0
SumsAreExact =
    (t : StateType) (base : BaseName) (x : (domain_of t base).Element) (relations : Submodule) (at c : ℕ) (parts : List Multiple) (some : List ℕ) → relations_in t base x ≡ Some relations
    → Each (λ part. IsSome (column_of (tracked_cells t) part.1 part.2)) parts → IsDescribed (cell_count t) relations.rows some
    → IsTrue (told (domain_of t base).domain.telling x (sum at c parts))
    ↔ ((numbers : List ℕ) → IsDescribed (cell_count t) relations.rows numbers → Congruent (dot (form_of (tracked_cells t) c parts) (1 ∷ numbers)) 0)
