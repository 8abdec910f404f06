-- What is measured of an analysis in a lawful domain: there is one outcome, and the verdict is that the table is closed.
use Rattle.std.proofs.Common.{◌≡◌, ◌∙◌, ◌⊎◌, ℕ, ◌+◌, List, [], ◌∷◌, Option, Some, None, Ok, Err, length, inl, inr, refl, sym, ap, subst}
use Rattle.std.specs.Prelude.{codes}
use Rattle.support_command_line.specs.declared.bases.BaseName.{BaseName}
use Rattle.code_image.specs.Image.{Image}
use Rattle.domain_laws.specs.States.{state_type}
use Rattle.fixpoint_theory.specs.Analysis.{Analysis}
use Rattle.fixpoint_theory.specs.WorklistState.{IsStopped, WorklistState, Reached, worklist_state}
use Rattle.fixpoint_theory.specs.Table.{IsBlockOf, IsTableOf, Listing, Listings}
use Rattle.fixpoint_theory.specs.Verdicts.{verdict_of}
use Rattle.fixpoint_theory.specs.declared.verdict.Verdict.TheVariants as v
use Rattle.fixpoint_theory.proofs.One.{legal_traces_are_one}
use Rattle.fixpoint_theory.proofs.Tables.{full_traces_close}
use Rattle.fixpoint_theory.proofs.Verdicts.{accepted_are_closed}
use Rattle.program_stress_code.specs.Summary.{measure_text}
use Rattle.analysis_transfer_laws.specs.Problem.{IsWellFormedProblem, Problem}
use Rattle.program_common.specs.Outcome as o
use Rattle.program_common.specs.Outcome.{Outcome, Refusal, text}
use Rattle.program_domains.specs.Analyses.{ComesTo, IsStop, IsTable, analysis}
use Rattle.program_domains.specs.Domains.{DomainOf}
use Rattle.program_domains.specs.Laws.{MeasuresAreOne, MeasuresHaveSome}
use Rattle.program_domains.specs.Measures.{IsMeasured, Measures, count_of, listed_count, verdict_name}
use Rattle.program_domains.specs.Named.{Measured, domain_of}
use Rattle.program_domains.proofs.Bases.{known, known_is_lawful}
use Rattle.program_domains.proofs.Lawful.{IsLawful}
use Rattle.program_domains.proofs.Outcomes.{IsStopAt, has_outcome, stop_at, stops_are_one}
use Rattle.program_domains.proofs.Plays.{no_stop}
use Rattle.program_domains.proofs.Ready.{keeps_the_laws}

-- ---- two tables of what was reached list as many addresses
module _ {E W S : Type 0} (A : Analysis E W S) where
  counts_alike : (at : ℕ) (b c : Option (Listing E)) (r : Option (Reached E)) → IsBlockOf A at b r → IsBlockOf A at c r → count_of b ≡ count_of c
  counts_alike at None None r h k = refl
  counts_alike at None (Some c) None h k = absurd k
  counts_alike at None (Some c) (Some r) h k = absurd h
  counts_alike at (Some b) None None h k = absurd h
  counts_alike at (Some b) None (Some r) h k = absurd k
  counts_alike at (Some b) (Some c) r h k = refl

  lists_alike : (t u : Listings E) (p : WorklistState E) → IsTableOf A t p → IsTableOf A u p → (addresses : List ℕ) → listed_count t addresses ≡ listed_count u addresses
  lists_alike t u p h k [] = refl
  lists_alike t u p h k (a ∷ rest) =
      ap (λ n. n + listed_count t rest) (counts_alike a (t a) (u a) (p a) (h a) (k a)) ∙ ap (λ n. count_of (u a) + n) (lists_alike t u p h k rest)

module _ {E W N C : Type 0} (domain : DomainOf E W N C) (p : Problem) where
  -- ---- an outcome is the lines of a table, or the refusal of a stop
  abbrev IsOutcome : Outcome → Type 0
  IsOutcome found = ((bytes : List ℕ) × (found ≡ Ok (text bytes)) × IsMeasured domain p bytes) ⊎ ((refusal : Refusal) × (found ≡ Err refusal) × IsStopAt domain p refusal)

  outcome_is : (found : Outcome) → Measures domain p found → IsOutcome found
  outcome_is (Ok (text bytes)) h = inl (bytes, refl, h)
  outcome_is (Ok (o.undecodable bytes)) h = absurd h
  outcome_is (Ok (o.calls_ended bytes)) h = absurd h
  outcome_is (Err refusal) h = inr (refusal, refl, stop_at domain p refusal h)

  tables_do_not_stop : (bytes : List ℕ) (refusal : Refusal) → IsMeasured domain p bytes → IsStopAt domain p refusal → ⊥
  tables_do_not_stop bytes refusal h k =
      let A = analysis domain p in
      let same : h.trace ≡ k.trace = legal_traces_are_one A h.trace k.trace h.legal (inl h.complete) k.stop.0 (inr (k.at, k.given, k.stop.1)) in
      no_stop A (worklist_state A h.trace) k.at k.given h.complete (subst (λ trace. IsStopped A (worklist_state A trace) k.at k.given) (sym same) k.stop.1)

  module _ (lawful : IsLawful domain p.spec) (posed : IsWellFormedProblem p) where
    -- The verdict is that the table is closed.
    pub is_closed : (bytes : List ℕ) (h : IsMeasured domain p bytes) → verdict_of (analysis domain p) h.table ≡ v.Accepted
    is_closed bytes h =
        let A = analysis domain p in
        let laws = keeps_the_laws domain p lawful posed in
        (accepted_are_closed A laws h.table h.fits).1 (full_traces_close A laws h.trace h.table h.legal h.complete h.fits h.is_table)

    lines_are_one : (bytes other : List ℕ) → IsMeasured domain p bytes → IsMeasured domain p other → bytes ≡ other
    lines_are_one bytes other h k =
        let A = analysis domain p in
        let same : h.trace ≡ k.trace = legal_traces_are_one A h.trace k.trace h.legal (inl h.complete) k.legal (inl k.complete) in
        let count = lists_alike A h.table k.table (worklist_state A k.trace) (subst (λ trace. IsTableOf A h.table (worklist_state A trace)) same h.is_table) k.is_table p.addresses in
        let verdict = is_closed bytes h ∙ sym (is_closed other k) in
        h.told ∙ ap (λ trace. measure_text (length trace) (listed_count h.table p.addresses) (verdict_name (verdict_of A h.table))) same
        ∙ ap (λ n. measure_text (length k.trace) n (verdict_name (verdict_of A h.table))) count
        ∙ ap (λ x. measure_text (length k.trace) (listed_count k.table p.addresses) (verdict_name x)) verdict ∙ sym k.told

    pub measures_are_one_in : (found other : Outcome) → Measures domain p found → Measures domain p other → found ≡ other
    measures_are_one_in found other h k = from (outcome_is found h) (outcome_is other k)
      where
        from : IsOutcome found → IsOutcome other → found ≡ other
        from (inl x) (inl y) = x.1 ∙ ap (λ bytes. Ok (text bytes)) (lines_are_one x.0 y.0 x.2 y.2) ∙ sym y.1
        from (inl x) (inr y) = absurd (tables_do_not_stop x.0 y.0 x.2 y.2)
        from (inr x) (inl y) = absurd (tables_do_not_stop y.0 x.0 y.2 x.2)
        from (inr x) (inr y) = x.1 ∙ ap Err (stops_are_one domain p x.0 y.0 x.2 y.2) ∙ sym y.1

    module _ (image : Image) (base : List ℕ) where
      from_outcome : (found : Outcome) → ComesTo domain p image base found → (measured : Outcome) × Measures domain p measured
      from_outcome (Ok (text bytes)) h = (
        Ok (text (measure_text (length h.trace) (listed_count h.table p.addresses) (verdict_name (verdict_of (analysis domain p) h.table)))),
        record { trace = h.trace; table = h.table; legal = h.legal; complete = h.complete; few = h.few; is_table = h.is_table; fits = h.fits; is_true = h.is_true; told = refl },
      )
      from_outcome (Ok (o.undecodable bytes)) h = absurd h
      from_outcome (Ok (o.calls_ended bytes)) h = absurd h
      from_outcome (Err refusal) h = (Err refusal, h)

      pub has_measure : (found : Outcome) × Measures domain p found
      has_measure = let found = has_outcome domain p lawful posed image base in from_outcome found.0 found.1

-- ---- over a base

pub measures_are_one : MeasuresAreOne
measures_are_one image p base found other posed h k =
    let any = domain_of (state_type p.spec) base in
    measures_are_one_in any.domain p (known_is_lawful base any.domain p.spec (known image p base posed)) posed found other h k

pub measures_have_some : MeasuresHaveSome
measures_have_some image p base posed =
    let any = domain_of (state_type p.spec) base in
    has_measure any.domain p (known_is_lawful base any.domain p.spec (known image p base posed)) posed image []

accepted_lines : {E W N C : Type 0} (domain : DomainOf E W N C) (p : Problem) (lawful : IsLawful domain p.spec) (posed : IsWellFormedProblem p) (bytes : List ℕ) → IsMeasured domain p bytes
    → (transfers : ℕ) × (elements : ℕ) × (bytes ≡ measure_text transfers elements (codes "accepted"))
accepted_lines domain p lawful posed bytes h =
    let transfers = length h.trace in
    let elements = listed_count h.table p.addresses in
    (transfers, elements, h.told ∙ ap (λ x. measure_text transfers elements (verdict_name x)) (is_closed domain p lawful posed bytes h))

-- Where lines are measured, the verdict in them is that the table is accepted.
pub measures_accept : (image : Image) (p : Problem) (base : BaseName) (bytes : List ℕ) → IsWellFormedProblem p → Measured image p base (Ok (text bytes)) → (transfers : ℕ) × (elements : ℕ) × (bytes ≡ measure_text transfers elements (codes "accepted"))
measures_accept image p base bytes posed is =
    let any = domain_of (state_type p.spec) base in
    accepted_lines any.domain p (known_is_lawful base any.domain p.spec (known image p base posed)) posed bytes is
