-- Slices of tables that may be left open have one outcome, and hold chains.
use Rattle.std.proofs.Common.{◌≡◌, ℕ, IsTrue, List, inl, inr, refl, ap, subst}
use Rattle.std.specs.Prelude.{Ok, Err}
use Rattle.support_command_line.specs.declared.bases.BaseName.{BaseName}
use Rattle.support_command_line.specs.Bases.{base_text, is_stamped}
use Rattle.code_image.specs.Image.{Image}
use Rattle.domain_laws.specs.States.{state_type}
use Rattle.fixpoint_theory.specs.Table.{Listings}
use Rattle.fixpoint_theory.specs.declared.verdict.Verdict.{Verdict}
use Rattle.fixpoint_theory.specs.declared.verdict.Verdict.TheVariants as v
use Rattle.fixpoint_open_tables.specs.Endings.{Endings}
use Rattle.text_slices.specs.declared.slice_cell.SliceCell.{SliceCell}
use Rattle.text_faults.specs.declared.table_error.TableError.{TableError}
use Rattle.analysis_transfer_laws.specs.Problem.{IsWellFormedProblem, Problem}
use Rattle.program_common.specs.Outcome.{Answer, Outcome, table_refused, text}
use Rattle.program_domains.specs.Closed.{ByVerdict}
use Rattle.program_domains.specs.Domains.{DomainOf}
use Rattle.program_domains.specs.Laws.{HasWordsOf, OpenSlicesAreOne, OpenSlicesHaveSome}
use Rattle.program_domains.specs.Named.{SliceHoldsOpen, SlicedOpen, domain_of}
use Rattle.program_domains.specs.OpenChecks.{IsOpenJudged}
use Rattle.program_domains.specs.OpenSlices.{HoldsOpenChains, SlicesOpen, judged, refused}
use Rattle.program_domains.specs.Slices.{IsSliceText}
use Rattle.program_domains.specs.Until.{IsMarked, Marked}
use Rattle.program_domains.proofs.Bases.{known, known_is_lawful}
use Rattle.program_domains.proofs.Closed.{is_closed, verdicts_are_one, verdicts_have_some}
use Rattle.program_domains.proofs.Decided.{AreDecided, words_are_decided}
use Rattle.program_domains.proofs.Lawful.{IsLawful}
use Rattle.program_domains.proofs.Marked.{marked_are_one, marked_is_there}
use Rattle.program_domains.proofs.OpenChains.{holds_open_chain}
use Rattle.program_domains.proofs.OpenReadings.{IsRead, both_are_alike, both_do_not_stand, is_open_judged, is_read, nowhere_or_somewhere, one_error, one_open_verdict}
use Rattle.program_domains.proofs.Slices.{has_text, one_text, stamped_is}

module _ {E W N C : Type 0} (domain : DomainOf E W N C) (p : Problem) (image : Image) (base bytes : List ℕ) (at : ℕ) (asked : SliceCell) where
  module _ (lawful : IsLawful domain p.spec) (posed : IsWellFormedProblem p) where
    -- ---- there is one at most
    one_marked_text : (t u : Listings E) (ends others : Endings W) (x y : Verdict W) → IsOpenJudged domain p image base bytes t ends x → IsOpenJudged domain p image base bytes u others y
        → (found other : List ℕ) → Marked ends (IsSliceText p.spec t at asked) found → Marked others (IsSliceText p.spec u at asked) other → found ≡ other
    one_marked_text t u ends others x y h k found other is also =
        let alike = both_are_alike domain p lawful image base bytes t u ends others h.is_table k.is_table in
        marked_are_one ends others alike.1 (IsSliceText p.spec t at asked) (IsSliceText p.spec u at asked) (one_text domain p image base bytes at asked lawful posed t u alike.0) found other is also

    open_sliced_one : (found other : Outcome) → SlicesOpen domain p image base bytes at asked found → SlicesOpen domain p image base bytes at asked other → found ≡ other
    open_sliced_one found other (refused {error = e} h) (refused {error = f} k) = ap (λ (z : TableError). Err (table_refused z)) (one_error domain p lawful image base bytes e f h k)
    open_sliced_one found other (refused {error = e} h) (judged u others y k also) = absurd (both_do_not_stand domain p lawful image base bytes u others e k.is_table h)
    open_sliced_one found other (judged t ends x h by) (refused {error = f} k) = absurd (both_do_not_stand domain p lawful image base bytes t ends f h.is_table k)
    open_sliced_one found other (judged t ends x h by) (judged u others y k also) =
        verdicts_are_one domain.word_text (Marked ends (IsSliceText p.spec t at asked)) (Marked others (IsSliceText p.spec u at asked)) (one_marked_text t u ends others x y h k)
        x y found other (one_open_verdict domain p lawful image base bytes posed t u ends others x y h k) by also

    -- ---- there is one
    by_reading : AreDecided W → HasWordsOf image p → IsRead domain p lawful image base bytes → (found : Outcome) × SlicesOpen domain p image base bytes at asked found
    by_reading words has (inl (t, ends, is)) =
        let own = is_open_judged domain p lawful image base bytes posed words has t ends is in
        let fits = own.1.fits in
        let is_marked = marked_is_there ends (IsSliceText p.spec t at asked) (nowhere_or_somewhere domain p lawful image base bytes t ends is) (has_text domain p image base bytes at asked lawful posed t fits) in
        let found = verdicts_have_some domain.word_text (Marked ends (IsSliceText p.spec t at asked)) own.0 (λ closed. is_marked) in
        (found.0, judged t ends own.0 own.1 found.1)
    by_reading words has (inr (e, is)) = (Err (table_refused e), refused is)

    open_sliced_some : AreDecided W → HasWordsOf image p → (found : Outcome) × SlicesOpen domain p image base bytes at asked found
    open_sliced_some words has = by_reading words has (is_read domain p lawful image base bytes)

  -- ---- what it says of runs
  -- Where the outcome is an answer, it is a slice that holds chains.
  SaysHolds : Outcome → Type 0
  SaysHolds (Ok answer) = (written : List ℕ) × (answer ≡ text written) × HoldsOpenChains domain p image base bytes at asked written
  SaysHolds (Err refusal) = Unit {0}

  module _ (stamped : IsTrue domain.base.notes.stamped) where
    holding : (t : Listings E) (ends : Endings W) (is : IsOpenJudged domain p image base bytes t ends v.Accepted) (written : List ℕ) → Marked ends (IsSliceText p.spec t at asked) written
        → HoldsOpenChains domain p image base bytes at asked written
    holding t ends is written marked =
        let s = marked.1 in
        record {
          accepted = record { table = t; ends = ends; is_table = is.is_table; fits = is.fits; closed = is.is_verdict; is_true = is.is_true refl };
          told = s.told;
          addresses = s.addresses;
          slice = s.slice;
          written = subst (λ (lines : List ℕ). IsMarked ends lines written) s.written marked.2;
          chains = λ d n first x steps begins closed of_read chain.
              holds_open_chain domain.base domain.elements p t ends (is.is_true refl) stamped d first begins at asked.map asked.key s.told s.addresses s.slice n x steps closed of_read chain;
        }

    by_outcome : (t : Listings E) (ends : Endings W) (x : Verdict W) → IsOpenJudged domain p image base bytes t ends x → (found : Outcome) → ByVerdict domain.word_text (Marked ends (IsSliceText p.spec t at asked)) x found → SaysHolds found
    unfolding SaysHolds
    by_outcome t ends x is (Ok answer) by =
        let found = is_closed domain.word_text (Marked ends (IsSliceText p.spec t at asked)) answer x by in
        let own = subst (λ (z : Verdict W). IsOpenJudged domain p image base bytes t ends z) found.0 is in
        (found.1.0, found.1.1, holding t ends own found.1.0 found.1.2)
    by_outcome t ends x is (Err refusal) by = tt

    sliced_holds : (found : Outcome) → SlicesOpen domain p image base bytes at asked found → SaysHolds found
    unfolding SaysHolds
    sliced_holds found (refused is) = tt
    sliced_holds found (judged t ends x is by) = by_outcome t ends x is found by

    open_answers_hold : (answer : Answer) → SlicesOpen domain p image base bytes at asked (Ok answer) → (written : List ℕ) × (answer ≡ text written) × HoldsOpenChains domain p image base bytes at asked written
    unfolding SaysHolds
    open_answers_hold answer is = sliced_holds (Ok answer) is

-- ---- over each base

pub open_slices_are_one : OpenSlicesAreOne
open_slices_are_one image p base bytes at asked found other posed h k =
    let any = domain_of (state_type p.spec) base in
    open_sliced_one any.domain p image (base_text base) bytes at asked (known_is_lawful base any.domain p.spec (known image p base posed)) posed found other h k

pub open_slices_have_some : OpenSlicesHaveSome
open_slices_have_some image p base bytes at asked posed words =
    let any = domain_of (state_type p.spec) base in
    open_sliced_some any.domain p image (base_text base) bytes at asked (known_is_lawful base any.domain p.spec (known image p base posed)) posed (words_are_decided (state_type p.spec) base) words

-- An answer over a base that tells stamps is a slice that holds chains, until an address is open.
pub open_slices_hold : (image : Image) (p : Problem) (base : BaseName) (bytes : List ℕ) (at : ℕ) (asked : SliceCell) (answer : Answer) → IsTrue (is_stamped base) → SlicedOpen image p base bytes at asked (Ok answer)
    → (written : List ℕ) × (answer ≡ text written) × SliceHoldsOpen image p base bytes at asked written
open_slices_hold image p base bytes at asked answer stamped is =
    let t = state_type p.spec in
    open_answers_hold (domain_of t base).domain p image (base_text base) bytes at asked (stamped_is t base stamped) answer is
