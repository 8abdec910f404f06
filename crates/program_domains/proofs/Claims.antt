-- Claims have one outcome, and what is answered yes holds.
use Rattle.std.proofs.Common.{◌≡◌, ◌∙◌, ◌⊎◌, ℕ, IsTrue, List, [], ◌∷◌, ◌++◌, Option, Some, None, inl, inr, refl, sym, ap}
use Rattle.std.specs.Prelude.{Result, Ok, Err}
use Rattle.base_trait.specs.Lists.{Each}
use Rattle.support_command_line.specs.declared.bases.BaseName.{BaseName}
use Rattle.support_command_line.specs.Bases.{base_text}
use Rattle.code_image.specs.Image.{Image}
use Rattle.domain_laws.specs.States.{state_type}
use Rattle.fixpoint_theory.specs.Table.{Listing, Listings}
use Rattle.fixpoint_theory.specs.Verdicts.{verdict_of}
use Rattle.fixpoint_theory.specs.declared.verdict.Verdict.TheVariants as v
use Rattle.text_faults.specs.declared.claim_error.ClaimError.{ClaimError}
use Rattle.analysis_query_laws.specs.Answers.{answer as answer_of, answer_at}
use Rattle.analysis_query_laws.specs.Claims.{Claim, address_of}
use Rattle.analysis_query_laws.specs.Laws.{IsClaim}
use Rattle.analysis_query_laws.proofs.Holding.{claims_hold as claims_are_true}
use Rattle.text_claims.specs.Answers.{answer_line, answers}
use Rattle.text_claims.specs.Laws.{IsReadClaim}
use Rattle.text_claims.specs.Reading.{has_word, read}
use Rattle.text_claims.proofs.Fitting.{read_claims_fit}
use Rattle.text_table_reader.specs.Tables.{IsTableIn}
use Rattle.text_table_reader.specs.Readings.{AreAlike, AreAlikeAt}
use Rattle.text_table_reader.proofs.Errors.{tables_are_alike}
use Rattle.analysis_transfer_laws.specs.Problem.{IsWellFormedProblem, Problem}
use Rattle.program_common.specs.Outcome.{Answer, Outcome, Refusal, claims_refused, text}
use Rattle.program_domains.specs.Analyses.{analysis}
use Rattle.program_domains.specs.Checks.{IsJudged}
use Rattle.program_domains.specs.Claims.{Claims, HoldsClaims, IsTrueOfStates, judged, refused, unread}
use Rattle.program_domains.specs.Closed.{ByVerdict}
use Rattle.program_domains.specs.Domains.{DomainOf}
use Rattle.program_domains.specs.Laws.{ClaimsAreOne, ClaimsHaveSome, HasWordsOf}
use Rattle.program_domains.specs.Named.{Claimed, ClaimsHold, domain_of}
use Rattle.program_domains.specs.Refusals.{IsRefused}
use Rattle.program_domains.proofs.Bases.{known, known_is_lawful}
use Rattle.program_domains.proofs.Closed.{is_closed, verdicts_are_one, verdicts_have_some}
use Rattle.program_domains.proofs.Lawful.{IsLawful}
use Rattle.program_domains.proofs.Readings.{is_judged, one_verdict}
use Rattle.program_domains.proofs.Refusals.{IsReadOrRefused, read_or_refused, refusals_are_one, tables_are_not_refused}
use Rattle.program_domains.proofs.Telling.{told_alike}

module _ {E W N C : Type 0} (domain : DomainOf E W N C) (p : Problem) (lawful : IsLawful domain p.spec) (posed : IsWellFormedProblem p) (image : Image) (base bytes list : List ℕ) where
  -- ---- there is one at most
  alike_answer : (x y : Option (Listing E)) (claim : Claim) → AreAlikeAt domain.elements x y → IsClaim domain.telling (state_type p.spec).fields claim → answer_at domain.telling x claim ≡ answer_at domain.telling y claim
  alike_answer None None claim alike is = refl
  alike_answer None (Some c) claim alike is = absurd alike
  alike_answer (Some b) None claim alike is = absurd alike
  alike_answer (Some b) (Some c) claim alike is = told_alike domain.elements.same domain.telling lawful.tells.alike (state_type p.spec).fields b.elem c.elem claim alike.elem is

  alike_answers : (t u : Listings E) (claims : List Claim) → AreAlike domain.elements t u → Each (IsReadClaim domain.telling (has_word image) p.spec) claims → answers domain.telling t claims ≡ answers domain.telling u claims
  alike_answers t u [] alike are = refl
  alike_answers t u (claim ∷ claims) alike are =
      let first = alike_answer (t (address_of claim)) (u (address_of claim)) claim (alike (address_of claim)) are.0.of_cells in
      let rest = alike_answers t u claims alike are.1 in
      ap (λ told. answer_line told ++ answers domain.telling t claims) first ∙ ap (λ (lines : List ℕ). answer_line (answer_of domain.telling u claim) ++ lines) rest

  pub one_text : (t u : Listings E) (claims others : List Claim) → AreAlike domain.elements t u → read domain.telling (has_word image) p.spec list ≡ Ok claims → read domain.telling (has_word image) p.spec list ≡ Ok others
      → (found other : List ℕ) → found ≡ answers domain.telling t claims → other ≡ answers domain.telling u others → found ≡ other
  one_text t u claims others alike e f found other h k =
      let same : claims ≡ others = (let both : Ok claims ≡ Ok others = sym e ∙ f in cc) in
      h ∙ alike_answers t u claims alike (read_claims_fit domain.telling (has_word image) p.spec list claims e) ∙ ap (answers domain.telling u) same ∙ sym k

  tables_alike : (t u : Listings E) → IsTableIn domain.Reads domain.word_in p.spec base image bytes t → IsTableIn domain.Reads domain.word_in p.spec base image bytes u → AreAlike domain.elements t u
  tables_alike t u h k = tables_are_alike domain.Reads domain.word_in domain.elements p.spec lawful.reads base image bytes t u h k

  not_refused : (t : Listings E) (x : Refusal) → IsTableIn domain.Reads domain.word_in p.spec base image bytes t → IsRefused domain p.spec image base bytes x → ⊥
  not_refused t x is wrong = tables_are_not_refused domain p.spec lawful image base bytes t x is wrong

  pub claimed_one : (found other : Outcome) → Claims domain p image base bytes list found → Claims domain p image base bytes list other → found ≡ other
  claimed_one found other (refused {refusal = x} h) (refused {refusal = y} k) = ap (λ (z : Refusal). Err z) (refusals_are_one domain p.spec lawful image base bytes x y h k)
  claimed_one found other (refused {refusal = x} h) (unread u k f) = absurd (not_refused u x k h)
  claimed_one found other (refused {refusal = x} h) (judged u claims k f by) = absurd (not_refused u x k.is_table h)
  claimed_one found other (unread t h e) (refused {refusal = y} k) = absurd (not_refused t y h k)
  claimed_one found other (unread {error = x} t h e) (unread {error = y} u k f) = let both : Err x ≡ Err y = sym e ∙ f in let same : x ≡ y = cc in ap (λ (z : ClaimError). Err (claims_refused z)) same
  claimed_one found other (unread t h e) (judged u claims k f by) = absurd (cc)
  claimed_one found other (judged t claims h e by) (refused {refusal = y} k) = absurd (not_refused t y h.is_table k)
  claimed_one found other (judged t claims h e by) (unread u k f) = absurd (cc)
  claimed_one found other (judged t claims h e by) (judged u others k f also) =
      verdicts_are_one domain.word_text (λ written. written ≡ answers domain.telling t claims) (λ written. written ≡ answers domain.telling u others)
      (one_text t u claims others (tables_alike t u h.is_table k.is_table) e f)
      (verdict_of (analysis domain p) t) (verdict_of (analysis domain p) u) found other (one_verdict domain p lawful posed image base bytes t u h k) by also

  -- ---- there is one
  by_claims : (t : Listings E) → IsJudged domain p image base bytes t → (r : Result (List Claim) ClaimError) → read domain.telling (has_word image) p.spec list ≡ r → (found : Outcome) × Claims domain p image base bytes list found
  by_claims t is (Err error) e = (Err (claims_refused error), unread t is.is_table e)
  by_claims t is (Ok claims) e =
      let found = verdicts_have_some domain.word_text (λ written. written ≡ answers domain.telling t claims) (verdict_of (analysis domain p) t) (λ closed. (answers domain.telling t claims, refl)) in
      (found.0, judged t claims is e found.1)

  by_reading : HasWordsOf image p → IsReadOrRefused domain p.spec lawful image base bytes
      → (found : Outcome) × Claims domain p image base bytes list found
  by_reading words (inl (t, is)) = by_claims t (is_judged domain p lawful posed image base bytes words t is) (read domain.telling (has_word image) p.spec list) refl
  by_reading words (inr (x, is)) = (Err x, refused is)

  pub claimed_some : HasWordsOf image p → (found : Outcome) × Claims domain p image base bytes list found
  claimed_some words = by_reading words (read_or_refused domain p.spec lawful image base bytes)

  -- ---- what they say of runs
  -- Where the outcome is an answer, what is answered yes holds.
  SaysHold : Outcome → Type 0
  SaysHold (Ok answer) = (written : List ℕ) × (answer ≡ text written) × HoldsClaims domain p image base bytes list written
  SaysHold (Err refusal) = Unit {0}

  module _ (words : HasWordsOf image p) where
    each_holds : (t : Listings E) (claims : List Claim) → IsJudged domain p image base bytes t → verdict_of (analysis domain p) t ≡ v.Accepted → Each (IsReadClaim domain.telling (has_word image) p.spec) claims
        → Each (λ claim. IsTrue (answer_of domain.telling t claim) → IsTrueOfStates p claim) claims
    each_holds t [] is closed are = tt
    each_holds t (claim ∷ claims) is closed are = (
      λ told. claims_are_true domain.base domain.elements domain.telling p t claim (is.is_true closed) (λ at b listed. (is.fits at b listed).1) lawful.tells.truly are.0.of_cells (words (address_of claim) are.0.at_code) told,
      each_holds t claims is closed are.1,
    )

    by_outcome : (t : Listings E) (claims : List Claim) → IsJudged domain p image base bytes t → read domain.telling (has_word image) p.spec list ≡ Ok claims → (found : Outcome)
        → ByVerdict domain.word_text (λ written. written ≡ answers domain.telling t claims) (verdict_of (analysis domain p) t) found → SaysHold found
    unfolding SaysHold
    by_outcome t claims is e (Ok answer) by =
        let found = is_closed domain.word_text (λ written. written ≡ answers domain.telling t claims) answer (verdict_of (analysis domain p) t) by in (
          found.1.0,
          found.1.1,
          record {
            accepted = record { table = t; is_table = is.is_table; fits = is.fits; closed = found.0; is_true = is.is_true found.0 };
            claims = claims;
            are_read = e;
            written = found.1.2;
            hold = each_holds t claims is found.0 (read_claims_fit domain.telling (has_word image) p.spec list claims e);
          },
        )
    by_outcome t claims is e (Err refusal) by = tt

    claimed_holds : (found : Outcome) → Claims domain p image base bytes list found → SaysHold found
    unfolding SaysHold
    claimed_holds found (refused is) = tt
    claimed_holds found (unread t is e) = tt
    claimed_holds found (judged t claims is e by) = by_outcome t claims is e found by

    pub answers_hold : (answer : Answer) → Claims domain p image base bytes list (Ok answer) → (written : List ℕ) × (answer ≡ text written) × HoldsClaims domain p image base bytes list written
    unfolding SaysHold
    answers_hold answer is = claimed_holds (Ok answer) is

-- ---- over each base

pub claims_are_one : ClaimsAreOne
claims_are_one image p base bytes list found other posed h k =
    let any = domain_of (state_type p.spec) base in
    claimed_one any.domain p (known_is_lawful base any.domain p.spec (known image p base posed)) posed image (base_text base) bytes list found other h k

pub claims_have_some : ClaimsHaveSome
claims_have_some image p base bytes list posed words =
    let any = domain_of (state_type p.spec) base in
    claimed_some any.domain p (known_is_lawful base any.domain p.spec (known image p base posed)) posed image (base_text base) bytes list words

-- An answer is of claims of which each that is answered yes holds.
pub claims_hold : (image : Image) (p : Problem) (base : BaseName) (bytes list : List ℕ) (answer : Answer) → IsWellFormedProblem p → HasWordsOf image p → Claimed image p base bytes list (Ok answer)
    → (written : List ℕ) × (answer ≡ text written) × ClaimsHold image p base bytes list written
claims_hold image p base bytes list answer posed words is =
    let any = domain_of (state_type p.spec) base in
    answers_hold any.domain p (known_is_lawful base any.domain p.spec (known image p base posed)) posed image (base_text base) bytes list words answer is
