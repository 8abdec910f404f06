-- Claims of tables that may be left open have one outcome, and what is answered yes holds.
use Rattle.std.proofs.Common.{◌≡◌, ◌∙◌, ℕ, IsTrue, List, [], ◌∷◌, inl, inr, refl, sym, ap, subst}
use Rattle.std.specs.Prelude.{IsSomeAnd, Result, Ok, Err}
use Rattle.base_trait.specs.Lists.{Each}
use Rattle.support_command_line.specs.declared.bases.BaseName.{BaseName}
use Rattle.support_command_line.specs.Bases.{base_text}
use Rattle.code_image.specs.Image.{Image}
use Rattle.domain_laws.specs.States.{state_type}
use Rattle.fixpoint_theory.specs.Code.{is_code}
use Rattle.fixpoint_theory.specs.Table.{Listings}
use Rattle.fixpoint_theory.specs.declared.verdict.Verdict.{Verdict}
use Rattle.fixpoint_theory.specs.declared.verdict.Verdict.TheVariants as v
use Rattle.fixpoint_open_tables.specs.Endings.{Endings}
use Rattle.text_faults.specs.declared.claim_error.ClaimError.{ClaimError}
use Rattle.analysis_query_laws.specs.Answers.{answer as answer_of}
use Rattle.analysis_query_laws.specs.Claims.{Claim, address_of}
use Rattle.analysis_query_laws.specs.Laws.{IsClaim}
use Rattle.analysis_query_laws.proofs.Holding.{listed_true}
use Rattle.text_claims.specs.Answers.{answers}
use Rattle.text_claims.specs.Laws.{IsReadClaim}
use Rattle.text_claims.specs.Reading.{has_word, read}
use Rattle.text_claims.proofs.Fitting.{read_claims_fit}
use Rattle.text_faults.specs.declared.table_error.TableError.{TableError}
use Rattle.text_table_reader.specs.Tables.{IsErrorIn, IsOpenTableIn}
use Rattle.analysis_transfer_laws.specs.Problem.{IsWellFormedProblem, Problem}
use Rattle.analysis_transfer_laws.specs.Runs.{run_of}
use Rattle.program_common.specs.Outcome.{Answer, Outcome, claims_refused, table_refused, text}
use Rattle.program_domains.specs.Closed.{ByVerdict}
use Rattle.program_domains.specs.Domains.{DomainOf}
use Rattle.program_domains.specs.Laws.{HasWordsOf, OpenClaimsAreOne, OpenClaimsHaveSome}
use Rattle.program_domains.specs.Named.{ClaimedOpen, ClaimsHoldOpen, domain_of}
use Rattle.program_domains.specs.OpenChecks.{IsOpenJudged}
use Rattle.program_domains.specs.OpenClaims.{ClaimsOpen, HoldsOpenClaims, IsTrueOfOpenStates, judged, refused, unread}
use Rattle.program_domains.specs.Until.{IsMarked, Marked}
use Rattle.program_domains.proofs.Bases.{known, known_is_lawful}
use Rattle.program_domains.proofs.Claims.{one_text}
use Rattle.program_domains.proofs.Closed.{is_closed, verdicts_are_one, verdicts_have_some}
use Rattle.program_domains.proofs.Decided.{AreDecided, words_are_decided}
use Rattle.program_domains.proofs.Lawful.{IsLawful}
use Rattle.program_domains.proofs.Marked.{marked_are_one, marked_is_there}
use Rattle.program_domains.proofs.OpenReadings.{IsRead, both_are_alike, both_do_not_stand, is_open_judged, is_read, nowhere_or_somewhere, one_error, one_open_verdict}

module _ {E W N C : Type 0} (domain : DomainOf E W N C) (p : Problem) (lawful : IsLawful domain p.spec) (posed : IsWellFormedProblem p) (image : Image) (base bytes list : List ℕ) where
  -- the lines for claims on a table
  abbrev AreLines : Listings E → List Claim → List ℕ → Type 0
  AreLines t claims lines = lines ≡ answers domain.telling t claims

  -- ---- there is one at most
  one_marked_text : (t u : Listings E) (ends others : Endings W) (claims also : List Claim) → IsOpenTableIn domain.Reads domain.word_in p.spec base image bytes t ends → IsOpenTableIn domain.Reads domain.word_in p.spec base image bytes u others
      → read domain.telling (has_word image) p.spec list ≡ Ok claims → read domain.telling (has_word image) p.spec list ≡ Ok also
      → (found other : List ℕ) → Marked ends (AreLines t claims) found → Marked others (AreLines u also) other → found ≡ other
  one_marked_text t u ends others claims also h k e f found other is other_is =
      let alike = both_are_alike domain p lawful image base bytes t u ends others h k in
      marked_are_one ends others alike.1 (AreLines t claims) (AreLines u also) (one_text domain p lawful posed image base bytes list t u claims also alike.0 e f) found other is other_is

  not_refused : (t : Listings E) (ends : Endings W) (error : TableError) → IsOpenTableIn domain.Reads domain.word_in p.spec base image bytes t ends → IsErrorIn domain.Reads domain.word_in p.spec base image bytes error → ⊥
  not_refused t ends error h k = both_do_not_stand domain p lawful image base bytes t ends error h k

  open_claimed_one : (found other : Outcome) → ClaimsOpen domain p image base bytes list found → ClaimsOpen domain p image base bytes list other → found ≡ other
  open_claimed_one found other (refused {error = x} h) (refused {error = y} k) = ap (λ (z : TableError). Err (table_refused z)) (one_error domain p lawful image base bytes x y h k)
  open_claimed_one found other (refused {error = x} h) (unread u others k f) = absurd (not_refused u others x k h)
  open_claimed_one found other (refused {error = x} h) (judged u others y also k f by) = absurd (not_refused u others x k.is_table h)
  open_claimed_one found other (unread t ends h e) (refused {error = y} k) = absurd (not_refused t ends y h k)
  open_claimed_one found other (unread {error = x} t ends h e) (unread {error = y} u others k f) = let both : Err x ≡ Err y = sym e ∙ f in let same : x ≡ y = cc in ap (λ (z : ClaimError). Err (claims_refused z)) same
  open_claimed_one found other (unread t ends h e) (judged u others y also k f by) = absurd (cc)
  open_claimed_one found other (judged t ends x claims h e by) (refused {error = y} k) = absurd (not_refused t ends y h.is_table k)
  open_claimed_one found other (judged t ends x claims h e by) (unread u others k f) = absurd (cc)
  open_claimed_one found other (judged t ends x claims h e by) (judged u others y also k f too) =
      verdicts_are_one domain.word_text (Marked ends (AreLines t claims)) (Marked others (AreLines u also)) (one_marked_text t u ends others claims also h.is_table k.is_table e f)
      x y found other (one_open_verdict domain p lawful image base bytes posed t u ends others x y h k) by too

  -- ---- there is one
  module _ (words : AreDecided W) (has : HasWordsOf image p) where
    by_claims : (t : Listings E) (ends : Endings W) → IsOpenTableIn domain.Reads domain.word_in p.spec base image bytes t ends → (r : Result (List Claim) ClaimError) → read domain.telling (has_word image) p.spec list ≡ r
        → (found : Outcome) × ClaimsOpen domain p image base bytes list found
    by_claims t ends is (Err error) e = (Err (claims_refused error), unread t ends is e)
    by_claims t ends is (Ok claims) e =
        let own = is_open_judged domain p lawful image base bytes posed words has t ends is in
        let is_marked = marked_is_there ends (AreLines t claims) (nowhere_or_somewhere domain p lawful image base bytes t ends is) (answers domain.telling t claims, refl) in
        let found = verdicts_have_some domain.word_text (Marked ends (AreLines t claims)) own.0 (λ closed. is_marked) in
        (found.0, judged t ends own.0 claims own.1 e found.1)

    by_reading : IsRead domain p lawful image base bytes → (found : Outcome) × ClaimsOpen domain p image base bytes list found
    by_reading (inl (t, ends, is)) = by_claims t ends is (read domain.telling (has_word image) p.spec list) refl
    by_reading (inr (e, is)) = (Err (table_refused e), refused is)

    open_claimed_some : (found : Outcome) × ClaimsOpen domain p image base bytes list found
    open_claimed_some = by_reading (is_read domain p lawful image base bytes)

  -- ---- what they say of runs
  -- Where the outcome is an answer, what is answered yes holds.
  SaysHold : Outcome → Type 0
  SaysHold (Ok answer) = (written : List ℕ) × (answer ≡ text written) × HoldsOpenClaims domain p image base bytes list written
  SaysHold (Err refusal) = Unit {0}

  module _ (words : HasWordsOf image p) where
    holds_until : (t : Listings E) (ends : Endings W) (claim : Claim) → IsOpenJudged domain p image base bytes t ends v.Accepted → IsClaim domain.telling (state_type p.spec).fields claim → IsTrue (is_code p.addresses (address_of claim))
        → IsTrue (answer_of domain.telling t claim) → IsTrueOfOpenStates p ends claim
    holds_until t ends claim is of_cells code told d n first begins stop before pc =
        let s = (run_of p d n first).state in
        let is_true = is.is_true refl in
        let holds = is_true.holds d n first begins stop before (subst (λ a. IsTrue (is_code p.addresses a)) (sym pc) code) in
        listed_true domain.elements.fits domain.elements.holds domain.telling (state_type p.spec).fields lawful.tells.truly (t (address_of claim)) s claim (λ b listed. (is.fits (address_of claim) b listed).1)
        (subst (λ a. IsSomeAnd (t a) (λ b. domain.elements.holds b.elem s)) pc holds) of_cells told

    each_holds : (t : Listings E) (ends : Endings W) (claims : List Claim) → IsOpenJudged domain p image base bytes t ends v.Accepted → Each (IsReadClaim domain.telling (has_word image) p.spec) claims
        → Each (λ claim. IsTrue (answer_of domain.telling t claim) → IsTrueOfOpenStates p ends claim) claims
    each_holds t ends [] is are = tt
    each_holds t ends (claim ∷ claims) is are =
        ((λ told. holds_until t ends claim is are.0.of_cells (words (address_of claim) are.0.at_code) told), each_holds t ends claims is are.1)

    holding : (t : Listings E) (ends : Endings W) (claims : List Claim) (is : IsOpenJudged domain p image base bytes t ends v.Accepted) → read domain.telling (has_word image) p.spec list ≡ Ok claims → (written : List ℕ)
        → Marked ends (AreLines t claims) written → HoldsOpenClaims domain p image base bytes list written
    holding t ends claims is e written marked = record {
      accepted = record { table = t; ends = ends; is_table = is.is_table; fits = is.fits; closed = is.is_verdict; is_true = is.is_true refl };
      claims = claims;
      are_read = e;
      written = subst (λ (lines : List ℕ). IsMarked ends lines written) marked.1 marked.2;
      hold = each_holds t ends claims is (read_claims_fit domain.telling (has_word image) p.spec list claims e);
    }

    by_outcome : (t : Listings E) (ends : Endings W) (x : Verdict W) (claims : List Claim) → IsOpenJudged domain p image base bytes t ends x → read domain.telling (has_word image) p.spec list ≡ Ok claims → (found : Outcome)
        → ByVerdict domain.word_text (Marked ends (AreLines t claims)) x found → SaysHold found
    unfolding SaysHold
    by_outcome t ends x claims is e (Ok answer) by =
        let found = is_closed domain.word_text (Marked ends (AreLines t claims)) answer x by in
        let own = subst (λ (z : Verdict W). IsOpenJudged domain p image base bytes t ends z) found.0 is in
        (found.1.0, found.1.1, holding t ends claims own e found.1.0 found.1.2)
    by_outcome t ends x claims is e (Err refusal) by = tt

    claimed_holds : (found : Outcome) → ClaimsOpen domain p image base bytes list found → SaysHold found
    unfolding SaysHold
    claimed_holds found (refused is) = tt
    claimed_holds found (unread t ends is e) = tt
    claimed_holds found (judged t ends x claims is e by) = by_outcome t ends x claims is e found by

    open_answers_hold : (answer : Answer) → ClaimsOpen domain p image base bytes list (Ok answer) → (written : List ℕ) × (answer ≡ text written) × HoldsOpenClaims domain p image base bytes list written
    unfolding SaysHold
    open_answers_hold answer is = claimed_holds (Ok answer) is

-- ---- over each base

pub open_claims_are_one : OpenClaimsAreOne
open_claims_are_one image p base bytes list found other posed h k =
    let any = domain_of (state_type p.spec) base in
    open_claimed_one any.domain p (known_is_lawful base any.domain p.spec (known image p base posed)) posed image (base_text base) bytes list found other h k

pub open_claims_have_some : OpenClaimsHaveSome
open_claims_have_some image p base bytes list posed words =
    let any = domain_of (state_type p.spec) base in
    open_claimed_some any.domain p (known_is_lawful base any.domain p.spec (known image p base posed)) posed image (base_text base) bytes list (words_are_decided (state_type p.spec) base) words

-- An answer is of claims of which each that is answered yes holds, until an address is open.
pub open_claims_hold : (image : Image) (p : Problem) (base : BaseName) (bytes list : List ℕ) (answer : Answer) → IsWellFormedProblem p → HasWordsOf image p → ClaimedOpen image p base bytes list (Ok answer)
    → (written : List ℕ) × (answer ≡ text written) × ClaimsHoldOpen image p base bytes list written
open_claims_hold image p base bytes list answer posed words is =
    let any = domain_of (state_type p.spec) base in
    open_answers_hold any.domain p (known_is_lawful base any.domain p.spec (known image p base posed)) posed image (base_text base) bytes list words answer is
