-- The outcomes of an analysis in a lawful domain: there is one, and two are alike where their texts are.
use Rattle.std.proofs.Common.{◌≡◌, ◌∙◌, ◌⊎◌, ℕ, List, Ok, Err, inl, inr, refl, sym, ap, subst}
use Rattle.code_image.specs.Image.{Image}
use Rattle.fixpoint_theory.specs.Outcome as f
use Rattle.fixpoint_theory.specs.WorklistState.{IsComplete, IsLegal, IsStopped, worklist_state}
use Rattle.fixpoint_theory.specs.Table.{IsTableOf}
use Rattle.fixpoint_theory.proofs.Ending.{legal_traces_end}
use Rattle.fixpoint_theory.proofs.One.{legal_traces_are_one}
use Rattle.fixpoint_theory.proofs.Potential.{legal_traces_are_short}
use Rattle.fixpoint_theory.proofs.Tables.{full_traces_close, tables_are_one}
use Rattle.fixpoint_worklist.specs.Answers.{IsStopOf}
use Rattle.text_table_reader.specs.Readings.{AreAlike}
use Rattle.analysis_transfer_laws.specs.Problem.{IsWellFormedProblem, Problem}
use Rattle.program_common.specs.Outcome as o
use Rattle.program_common.specs.Outcome.{Outcome, Refusal, text}
use Rattle.program_domains.specs.Analyses.{ComesTo, IsShort, IsStop, IsTable, analysis}
use Rattle.program_domains.specs.Domains.{DomainOf}
use Rattle.program_domains.proofs.Lawful.{IsExact, IsLawful}
use Rattle.program_domains.proofs.Plays.{is_table, no_stop, one_stop, table_fits, table_of}
use Rattle.program_domains.proofs.Ready.{closed_is_true, keeps_the_laws}
use Rattle.program_domains.proofs.Texts.{has_text, one_text, same_are_alike}

module _ {E W N C : Type 0} (domain : DomainOf E W N C) (p : Problem) where
  -- ---- what an outcome is
  -- the refusal of a stop at an address
  abbrev refusal_of : ℕ → f.Outcome E W → Refusal
  refusal_of at (f.undecodable word) = o.undecodable_at at word
  refusal_of at (f.too_many x uses) = o.too_many_targets at (domain.word_text 32 x)
  refusal_of at (f.moves targets post uses) = o.calls_spent
  refusal_of at (f.sends arrivals uses) = o.calls_spent

  pub record IsStopAt (refusal : Refusal) : Type 0 where
    pub trace : List ℕ
    pub at : ℕ
    pub given : f.Outcome E W
    pub stop : IsStopOf (analysis domain p) trace at given
    pub is : refusal ≡ refusal_of at given

  pub stop_at : (refusal : Refusal) → IsStop domain p refusal → IsStopAt refusal
  stop_at o.bad_words h = absurd h
  stop_at (o.cannot_read name) h = absurd h
  stop_at (o.too_long name) h = absurd h
  stop_at (o.spec_refused fault) h = absurd h
  stop_at (o.code_refused fault) h = absurd h
  stop_at (o.entry_refused fault) h = absurd h
  stop_at o.calls_spent h = absurd h
  stop_at (o.undecodable_at at word) h = record { trace = h.0; at = at; given = f.undecodable word; stop = h.2; is = refl }
  stop_at (o.table_refused fault) h = absurd h
  stop_at (o.claims_refused fault) h = absurd h
  stop_at (o.rejected rejection) h = absurd h
  stop_at (o.too_many_targets at shown) h = record { trace = h.0; at = at; given = f.too_many h.1 h.2; stop = h.4; is = ap (o.too_many_targets at) h.5 }

  pub stops_are_one : (refusal other : Refusal) → IsStopAt refusal → IsStopAt other → refusal ≡ other
  stops_are_one refusal other h k =
      let A = analysis domain p in
      let same : h.trace ≡ k.trace = legal_traces_are_one A h.trace k.trace h.stop.0 (inr (h.at, h.given, h.stop.1)) k.stop.0 (inr (k.at, k.given, k.stop.1)) in
      let one = one_stop A (worklist_state A h.trace) h.at k.at h.given k.given h.stop.1 (subst (λ trace. IsStopped A (worklist_state A trace) k.at k.given) (sym same) k.stop.1) in
      h.is ∙ ap (λ at. refusal_of at h.given) one.0 ∙ ap (refusal_of k.at) one.1 ∙ sym k.is

  module _ (image : Image) (base : List ℕ) where
    -- It is a text of the table, or the refusal of a stop.
    abbrev IsOutcome : Outcome → Type 0
    IsOutcome found = ((bytes : List ℕ) × (found ≡ Ok (text bytes)) × IsTable domain p image base bytes) ⊎ ((refusal : Refusal) × (found ≡ Err refusal) × IsStopAt refusal)

    outcome_is : (found : Outcome) → ComesTo domain p image base found → IsOutcome found
    outcome_is (Ok (text bytes)) h = inl (bytes, refl, h)
    outcome_is (Ok (o.undecodable bytes)) h = absurd h
    outcome_is (Ok (o.calls_ended bytes)) h = absurd h
    outcome_is (Err refusal) h = inr (refusal, refl, stop_at refusal h)

    -- ---- two are alike
    tables_do_not_stop : (bytes : List ℕ) (refusal : Refusal) → IsTable domain p image base bytes → IsStopAt refusal → ⊥
    tables_do_not_stop bytes refusal h k =
        let A = analysis domain p in
        let same : h.trace ≡ k.trace = legal_traces_are_one A h.trace k.trace h.legal (inl h.complete) k.stop.0 (inr (k.at, k.given, k.stop.1)) in
        no_stop A (worklist_state A h.trace) k.at k.given h.complete (subst (λ trace. IsStopped A (worklist_state A trace) k.at k.given) (sym same) k.stop.1)

    -- where texts of the table are alike, and each refusal is like itself
    pub outcomes_are_alike : (Alike : Outcome → Outcome → Type 0)
        → ((bytes other : List ℕ) → IsTable domain p image base bytes → IsTable domain p image base other → Alike (Ok (text bytes)) (Ok (text other)))
        → ((refusal : Refusal) → Alike (Err refusal) (Err refusal))
        → (found other : Outcome) → ComesTo domain p image base found → ComesTo domain p image base other → Alike found other
    outcomes_are_alike Alike texts refusals found other h k = from (outcome_is found h) (outcome_is other k)
      where
        from : IsOutcome found → IsOutcome other → Alike found other
        from (inl x) (inl y) = subst (λ z. Alike z other) (sym x.1) (subst (Alike (Ok (text x.0))) (sym y.1) (texts x.0 y.0 x.2 y.2))
        from (inl x) (inr y) = absurd (tables_do_not_stop x.0 y.0 x.2 y.2)
        from (inr x) (inl y) = absurd (tables_do_not_stop y.0 x.0 y.2 x.2)
        from (inr x) (inr y) =
            subst (λ z. Alike z other) (sym x.1)
            (subst (Alike (Err x.0)) (sym y.1) (subst (λ r. Alike (Err x.0) (Err r)) (stops_are_one x.0 y.0 x.2 y.2) (refusals x.0)))

  module _ (lawful : IsLawful domain p.spec) (posed : IsWellFormedProblem p) (image : Image) (base : List ℕ) where
    -- The tables of two texts are alike.
    pub tables_are_alike : (bytes other : List ℕ) (h : IsTable domain p image base bytes) (k : IsTable domain p image base other) → AreAlike domain.elements h.table k.table
    tables_are_alike bytes other h k =
        let A = analysis domain p in
        let same : h.trace ≡ k.trace = legal_traces_are_one A h.trace k.trace h.legal (inl h.complete) k.legal (inl k.complete) in
        let tables = tables_are_one A (keeps_the_laws domain p lawful posed) k.trace h.table k.table h.fits k.fits
        (subst (λ trace. IsTableOf A h.table (worklist_state A trace)) same h.is_table) k.is_table in
        same_are_alike A domain.elements (λ x y same. same) h.table k.table tables

    tables_have_one_text : IsExact domain p.spec → (bytes other : List ℕ) → IsTable domain p image base bytes → IsTable domain p image base other → bytes ≡ other
    tables_have_one_text exact bytes other h k =
        one_text domain.elements (domain.IsText p.spec) p.spec exact image base h.table k.table bytes other (tables_are_alike bytes other h k) h.text k.text

    -- In a domain whose elements have one text there is one outcome.
    pub outcomes_are_one : IsExact domain p.spec → (found other : Outcome) → ComesTo domain p image base found → ComesTo domain p image base other → found ≡ other
    outcomes_are_one exact =
        outcomes_are_alike image base (λ x y. x ≡ y) (λ x y h k. ap (λ bytes. Ok (text bytes)) (tables_have_one_text exact x y h k)) (λ refusal. refl)

    -- ---- there is one
    is_short : (trace : List ℕ) → IsLegal (analysis domain p) trace → IsShort domain p trace
    is_short trace legal = legal_traces_are_short (analysis domain p) (keeps_the_laws domain p lawful posed) trace legal

    full_table : (trace : List ℕ) → IsLegal (analysis domain p) trace → IsComplete (worklist_state (analysis domain p) trace) → (bytes : List ℕ) × IsTable domain p image base bytes
    full_table trace legal complete =
        let A = analysis domain p in
        let laws = keeps_the_laws domain p lawful posed in
        let table = table_of A (worklist_state A trace) in
        let fits = table_fits A laws trace in
        let is = is_table A laws trace legal complete in
        let written = has_text (domain.IsText p.spec) p.spec lawful.written image base table in (
          written.0,
          record {
            trace = trace;
            table = table;
            legal = legal;
            complete = complete;
            few = is_short trace legal;
            is_table = is;
            fits = fits;
            is_true = closed_is_true domain p lawful posed table fits (full_traces_close A laws trace table legal complete fits is);
            text = written.1;
          },
        )

    stopped : (trace : List ℕ) (at : ℕ) (given : f.Outcome E W) → IsLegal (analysis domain p) trace → IsStopped (analysis domain p) (worklist_state (analysis domain p) trace) at given
        → (found : Outcome) × ComesTo domain p image base found
    stopped trace at (f.undecodable word) legal stop = (Err (o.undecodable_at at word), (trace, is_short trace legal, (legal, stop)))
    stopped trace at (f.too_many x uses) legal stop = (Err (o.too_many_targets at (domain.word_text 32 x)), (trace, x, uses, is_short trace legal, (legal, stop), refl))
    stopped trace at (f.moves targets post uses) legal stop = absurd (stop.0 tt)
    stopped trace at (f.sends arrivals uses) legal stop = absurd (stop.0 tt)

    pub has_outcome : (found : Outcome) × ComesTo domain p image base found
    has_outcome =
        let found = legal_traces_end (analysis domain p) (keeps_the_laws domain p lawful posed) in
        elim found.2 [
          | inl complete ↦ let table = full_table found.0 found.1 complete in (Ok (text table.0), table.1)
          | inr stop ↦ stopped found.0 stop.0 stop.1 found.1 stop.2
        ]
