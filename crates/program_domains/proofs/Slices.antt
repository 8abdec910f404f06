-- Slices have one outcome, and hold chains.
use Rattle.std.proofs.Common.{◌≡◌, ◌∙◌, ◌⊎◌, ℕ, IsTrue, List, Option, Some, None, inl, inr, refl, sym, ap, subst}
use Rattle.std.specs.Prelude.{Ok, Err}
use Rattle.base_trait.specs.Lists.{IsAmong}
use Rattle.base_trait.specs.declared.uses.Stamp.{Stamp}
use Rattle.support_command_line.specs.declared.bases.BaseName.{BaseName}
use Rattle.support_command_line.specs.declared.bases.BaseName.TheVariants as b
use Rattle.support_command_line.specs.Bases.{base_text, is_stamped}
use Rattle.code_image.specs.Image.{Image}
use Rattle.domain_laws.specs.States.{StateType, state_type}
use Rattle.fixpoint_theory.specs.Table.{Listing, Listings, TableFits}
use Rattle.fixpoint_theory.specs.Verdicts.{verdict_of}
use Rattle.fixpoint_theory.specs.declared.verdict.Verdict.TheVariants as v
use Rattle.fixpoint_theory.proofs.Bounded.{code_among}
use Rattle.analysis_query_laws.specs.Slices.{IsSliceFrom, asked_uses, is_from, listed_uses, uses_in}
use Rattle.analysis_query_laws.proofs.One.{slices_are_one as slices_are_of_one}
use Rattle.analysis_query_laws.proofs.Slices.{slices_hold_chains}
use Rattle.analysis_query_laws.proofs.There.{slices_are_there}
use Rattle.text_slices.specs.declared.slice_cell.SliceCell.{SliceCell}
use Rattle.text_slices.specs.Writing.{slice_text}
use Rattle.text_table_reader.specs.Readings.{AreAlike, AreAlikeAt}
use Rattle.text_table_reader.proofs.Errors.{tables_are_alike}
use Rattle.analysis_transfer_laws.specs.Problem.{IsWellFormedProblem, Problem}
use Rattle.program_common.specs.Outcome.{Answer, Outcome, Refusal, text}
use Rattle.program_domains.specs.Analyses.{analysis}
use Rattle.program_domains.specs.Checks.{IsJudged}
use Rattle.program_domains.specs.Closed.{ByVerdict}
use Rattle.program_domains.specs.Domains.{DomainOf}
use Rattle.program_domains.specs.Laws.{HasWordsOf, SlicesAreOne, SlicesHaveSome}
use Rattle.program_domains.specs.Named.{SliceHolds, Sliced, domain_of}
use Rattle.program_domains.specs.Slices.{HoldsChains, IsSliceText, Slices, judged, refused}
use Rattle.program_domains.proofs.Bases.{known, known_is_lawful}
use Rattle.program_domains.proofs.Closed.{is_closed, verdicts_are_one, verdicts_have_some}
use Rattle.program_domains.proofs.Lawful.{IsLawful}
use Rattle.program_domains.proofs.Readings.{is_judged, one_verdict}
use Rattle.program_domains.proofs.Refusals.{IsReadOrRefused, read_or_refused, refusals_are_one, tables_are_not_refused}

module _ {E W N C : Type 0} (domain : DomainOf E W N C) (p : Problem) (image : Image) (base bytes : List ℕ) (at : ℕ) (asked : SliceCell) where
  module _ (lawful : IsLawful domain p.spec) (posed : IsWellFormedProblem p) where
    -- ---- there is one at most
    alike_uses : (x y : Option (Listing E)) → AreAlikeAt domain.elements x y → uses_in x ≡ uses_in y
    alike_uses None None alike = refl
    alike_uses None (Some c) alike = absurd alike
    alike_uses (Some b) None alike = absurd alike
    alike_uses (Some b) (Some c) alike = alike.uses

    pub one_text : (t u : Listings E) → AreAlike domain.elements t u → (found other : List ℕ) → IsSliceText p.spec t at asked found → IsSliceText p.spec u at asked other → found ≡ other
    one_text t u alike found other h k =
        let same : listed_uses t ≡ listed_uses u = λ i a. alike_uses (t a) (u a) (alike a) i in
        let slice = subst (λ uses. IsSliceFrom uses (asked_uses uses at asked.map asked.key) h.told h.addresses) same h.slice in
        let one = slices_are_of_one (listed_uses u) (asked_uses (listed_uses u) at asked.map asked.key) h.told k.told h.addresses k.addresses slice k.slice in
        h.written ∙ ap (λ told. slice_text p.spec at asked told h.addresses) one.0 ∙ ap (slice_text p.spec at asked k.told) one.1 ∙ sym k.written

    pub sliced_one : (found other : Outcome) → Slices domain p image base bytes at asked found → Slices domain p image base bytes at asked other → found ≡ other
    sliced_one found other (refused {refusal = x} h) (refused {refusal = y} k) = ap (λ (z : Refusal). Err z) (refusals_are_one domain p.spec lawful image base bytes x y h k)
    sliced_one found other (refused {refusal = x} h) (judged u k by) = absurd (tables_are_not_refused domain p.spec lawful image base bytes u x k.is_table h)
    sliced_one found other (judged t h by) (refused {refusal = y} k) = absurd (tables_are_not_refused domain p.spec lawful image base bytes t y h.is_table k)
    sliced_one found other (judged t h by) (judged u k also) =
        verdicts_are_one domain.word_text (IsSliceText p.spec t at asked) (IsSliceText p.spec u at asked)
        (one_text t u (tables_are_alike domain.Reads domain.word_in domain.elements p.spec lawful.reads base image bytes t u h.is_table k.is_table))
        (verdict_of (analysis domain p) t) (verdict_of (analysis domain p) u) found other (one_verdict domain p lawful posed image base bytes t u h k) by also

    -- ---- there is one
    listed_code : (t : Listings E) → TableFits (analysis domain p) t → (a : ℕ) (s : Stamp) → IsTrue (is_from (listed_uses t a) s) → IsAmong a p.addresses
    listed_code t fits a s has = by_block (t a) refl has
      where
        by_block : (o : Option (Listing E)) → t a ≡ o → IsTrue (is_from (uses_in o) s) → IsAmong a p.addresses
        by_block None e h = cc
        by_block (Some block) e h = code_among p.addresses a (fits a block e).0

    pub has_text : (t : Listings E) → TableFits (analysis domain p) t → (found : List ℕ) × IsSliceText p.spec t at asked found
    has_text t fits =
        let found = slices_are_there (listed_uses t) (asked_uses (listed_uses t) at asked.map asked.key) p.addresses (listed_code t fits) in
        (slice_text p.spec at asked found.0 found.1, record { told = found.0; addresses = found.1; slice = found.2; written = refl })

    by_reading : HasWordsOf image p → IsReadOrRefused domain p.spec lawful image base bytes
        → (found : Outcome) × Slices domain p image base bytes at asked found
    by_reading words (inl (t, is)) =
        let own = is_judged domain p lawful posed image base bytes words t is in
        let found = verdicts_have_some domain.word_text (IsSliceText p.spec t at asked) (verdict_of (analysis domain p) t) (λ closed. has_text t own.fits) in
        (found.0, judged t own found.1)
    by_reading words (inr (x, is)) = (Err x, refused is)

    pub sliced_some : HasWordsOf image p → (found : Outcome) × Slices domain p image base bytes at asked found
    sliced_some words = by_reading words (read_or_refused domain p.spec lawful image base bytes)

  -- ---- what it says of runs
  -- Where the outcome is an answer, it is a slice that holds chains.
  SaysHolds : Outcome → Type 0
  SaysHolds (Ok answer) = (written : List ℕ) × (answer ≡ text written) × HoldsChains domain p image base bytes at asked written
  SaysHolds (Err refusal) = Unit {0}

  module _ (stamped : IsTrue domain.base.notes.stamped) where
    holding : (t : Listings E) → (is : IsJudged domain p image base bytes t) → verdict_of (analysis domain p) t ≡ v.Accepted → (written : List ℕ) → IsSliceText p.spec t at asked written
        → HoldsChains domain p image base bytes at asked written
    holding t is closed written s = record {
      accepted = record { table = t; is_table = is.is_table; fits = is.fits; closed = closed; is_true = is.is_true closed };
      told = s.told;
      addresses = s.addresses;
      slice = s.slice;
      written = s.written;
      chains = slices_hold_chains domain.base domain.elements p t at asked.map asked.key s.told s.addresses (is.is_true closed) stamped s.slice;
    }

    by_outcome : (t : Listings E) → IsJudged domain p image base bytes t → (found : Outcome) → ByVerdict domain.word_text (IsSliceText p.spec t at asked) (verdict_of (analysis domain p) t) found → SaysHolds found
    unfolding SaysHolds
    by_outcome t is (Ok answer) by =
        let found = is_closed domain.word_text (IsSliceText p.spec t at asked) answer (verdict_of (analysis domain p) t) by in
        (found.1.0, found.1.1, holding t is found.0 found.1.0 found.1.2)
    by_outcome t is (Err refusal) by = tt

    sliced_holds : (found : Outcome) → Slices domain p image base bytes at asked found → SaysHolds found
    unfolding SaysHolds
    sliced_holds found (refused is) = tt
    sliced_holds found (judged t is by) = by_outcome t is found by

    pub answers_hold : (answer : Answer) → Slices domain p image base bytes at asked (Ok answer) → (written : List ℕ) × (answer ≡ text written) × HoldsChains domain p image base bytes at asked written
    unfolding SaysHolds
    answers_hold answer is = sliced_holds (Ok answer) is

-- ---- over each base

pub stamped_is : (t : StateType) (base : BaseName) → IsTrue (is_stamped base) → IsTrue (domain_of t base).domain.base.notes.stamped
stamped_is t b.Const h = cc
stamped_is t b.KSet h = cc
stamped_is t b.Interval h = cc
stamped_is t b.Affine h = cc
stamped_is t b.DefUse h = refl
stamped_is t b.ConstInterval h = cc
stamped_is t b.KSetInterval h = cc
stamped_is t b.KSetAffine h = cc
stamped_is t b.KSetDefUse h = refl
stamped_is t b.IntervalAffine h = cc
stamped_is t b.IntervalDefUse h = refl
stamped_is t b.AffineDefUse h = refl
stamped_is t b.Bits h = cc
stamped_is t b.KSetBits h = cc
stamped_is t b.IntervalBits h = cc
stamped_is t b.BitsDefUse h = refl
stamped_is t b.Strides h = cc
stamped_is t b.StridesAffine h = cc
stamped_is t b.StridesDefUse h = refl

pub slices_are_one : SlicesAreOne
slices_are_one image p base bytes at asked found other posed h k =
    let any = domain_of (state_type p.spec) base in
    sliced_one any.domain p image (base_text base) bytes at asked (known_is_lawful base any.domain p.spec (known image p base posed)) posed found other h k

pub slices_have_some : SlicesHaveSome
slices_have_some image p base bytes at asked posed words =
    let any = domain_of (state_type p.spec) base in
    sliced_some any.domain p image (base_text base) bytes at asked (known_is_lawful base any.domain p.spec (known image p base posed)) posed words

-- An answer over a base that tells stamps is a slice that holds chains.
pub slices_hold : (image : Image) (p : Problem) (base : BaseName) (bytes : List ℕ) (at : ℕ) (asked : SliceCell) (answer : Answer) → IsTrue (is_stamped base) → Sliced image p base bytes at asked (Ok answer)
    → (written : List ℕ) × (answer ≡ text written) × SliceHolds image p base bytes at asked written
slices_hold image p base bytes at asked answer stamped is =
    let t = state_type p.spec in
    answers_hold (domain_of t base).domain p image (base_text base) bytes at asked (stamped_is t base stamped) answer is
