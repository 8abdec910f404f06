-- The outcomes of an analysis that is left open, in a lawful domain: there is one, and two are alike where their texts are.
use Rattle.std.proofs.Common.{◌≡◌, ◌∙◌, ℕ, List, Option, None, Some, Ok, Err, inl, inr, refl, sym, ap, subst}
use Rattle.code_image.specs.Image.{Image}
use Rattle.fixpoint_theory.specs.Analysis.{Analysis, AnalysisLaws}
use Rattle.fixpoint_theory.specs.Outcome.{Moves, Outcome, SameOutcome, moves, sends, too_many, undecodable}
use Rattle.fixpoint_theory.specs.WorklistState.{IsAtEnd, IsComplete, worklist_state}
use Rattle.fixpoint_theory.specs.Table.{AreSameBlocks, AreSameTables, IsTableOf, Listing, Listings, TableFits}
use Rattle.fixpoint_theory.proofs.Ending.{legal_traces_end}
use Rattle.fixpoint_theory.proofs.One.{legal_traces_are_one}
use Rattle.fixpoint_theory.proofs.Potential.{legal_traces_are_short}
use Rattle.fixpoint_theory.proofs.Tables.{full_traces_close, tables_are_one}
use Rattle.fixpoint_open_tables.specs.Endings.{Endings, IsClosedButOpen, ending_at}
use Rattle.fixpoint_open_tables.specs.Instance.{left_open_laws}
use Rattle.fixpoint_open_tables.specs.LeftOpen.{ending_of, left_open, opened}
use Rattle.fixpoint_open_tables.proofs.Soundness.{open_tables_are_sound}
use Rattle.text_table_reader.specs.Readings.{AreAlike}
use Rattle.semantics_values.specs.States.{State}
use Rattle.analysis_transfer_laws.specs.Analysis.{machine_of}
use Rattle.analysis_transfer_laws.specs.OpenRuns.{IsTrueUntilOpen}
use Rattle.analysis_transfer_laws.specs.Problem.{IsWellFormedProblem, Problem}
use Rattle.program_common.specs.Outcome as o
use Rattle.program_common.specs.Outcome.{Outcome as Answered, text}
use Rattle.program_domains.specs.Analyses.{analysis}
use Rattle.program_domains.specs.Domains.{DomainOf}
use Rattle.program_domains.specs.OpenAnalyses.{ComesOpen, IsOpenTable, open_analysis, open_endings}
use Rattle.program_domains.proofs.Lawful.{IsExact, IsLawful}
use Rattle.program_domains.proofs.OpenTexts.{has_open_text, one_open_text}
use Rattle.program_domains.proofs.Plays.{is_table, table_fits, table_of}
use Rattle.program_domains.proofs.Ready.{is_sound, keeps_the_laws, open_is_true}
use Rattle.program_domains.proofs.Texts.{alike_are_same, same_are_alike}

-- ---- no transfer stops
opened_moves : {E W : Type 0} (given : Outcome E W) → Moves (opened given)
opened_moves (undecodable word) = tt
opened_moves (too_many shown uses) = tt
opened_moves (moves targets post uses) = tt
opened_moves (sends arrivals uses) = tt

ends_full : {E W S : Type 0} (A : Analysis E W S) (trace : List ℕ) → IsAtEnd (left_open A) (worklist_state (left_open A) trace) → IsComplete (worklist_state (left_open A) trace)
ends_full A trace (inl complete) = complete
ends_full A trace (inr (at, given, stop)) = absurd (stop.0 (subst Moves stop.1.2 (opened_moves (A.transfer at stop.1.0.elem))))

-- ---- endings of tables that are the same
same_ending : {E W S : Type 0} (A : Analysis E W S) (x y : Outcome E W) → SameOutcome A.elements x y → ending_of x ≡ ending_of y
same_ending A (undecodable v) (undecodable w) same = cc
same_ending A (undecodable v) (too_many y us) same = absurd same
same_ending A (undecodable v) (moves ts y us) same = absurd same
same_ending A (too_many x vs) (undecodable w) same = absurd same
same_ending A (too_many x vs) (too_many y us) same = let one = same.0 in cc
same_ending A (too_many x vs) (moves ts y us) same = absurd same
same_ending A (moves ts x vs) (undecodable w) same = absurd same
same_ending A (moves ts x vs) (too_many y us) same = absurd same
same_ending A (moves ts x vs) (moves ts' y us) same = refl
same_ending A (undecodable v) (sends ys us) same = absurd same
same_ending A (too_many x vs) (sends ys us) same = absurd same
same_ending A (moves ts x vs) (sends ys us) same = absurd same
same_ending A (sends xs vs) (undecodable w) same = absurd same
same_ending A (sends xs vs) (too_many y us) same = absurd same
same_ending A (sends xs vs) (moves ts' y us) same = absurd same
same_ending A (sends xs vs) (sends ys us) same = refl

module _ {E W S : Type 0} (A : Analysis E W S) (laws : AnalysisLaws A) (t u : Listings E) (fits : TableFits A t) (others : TableFits A u) where
  end_alike : (a : ℕ) (x y : Option (Listing E)) → t a ≡ x → u a ≡ y → AreSameBlocks A x y → ending_at A a x ≡ ending_at A a y
  end_alike a None None is_x is_y same = refl
  end_alike a None (Some c) is_x is_y same = absurd same
  end_alike a (Some b) None is_x is_y same = absurd same
  end_alike a (Some b) (Some c) is_x is_y same =
      same_ending A (A.transfer a b.elem) (A.transfer a c.elem) (laws.transfer_same a b.elem c.elem (fits a b is_x).0 (fits a b is_x).1 (others a c is_y).1 same.elem)

  ends_alike : AreSameTables A t u → (a : ℕ) → ending_at A a (t a) ≡ ending_at A a (u a)
  ends_alike same a = end_alike a (t a) (u a) refl refl (same a)

module _ {E W N C : Type 0} (domain : DomainOf E W N C) (p : Problem) where
  module _ (image : Image) (base : List ℕ) where
    -- where texts of the table are alike
    pub open_outcomes_are_alike : (Alike : Answered → Answered → Type 0)
        → ((bytes other : List ℕ) → IsOpenTable domain p image base bytes → IsOpenTable domain p image base other → Alike (Ok (text bytes)) (Ok (text other)))
        → (found other : Answered) → ComesOpen domain p image base found → ComesOpen domain p image base other → Alike found other
    open_outcomes_are_alike Alike texts (Ok (text bytes)) (Ok (text other)) h k = texts bytes other h k
    open_outcomes_are_alike Alike texts (Ok (text bytes)) (Ok (o.undecodable other)) h k = absurd k
    open_outcomes_are_alike Alike texts (Ok (text bytes)) (Ok (o.calls_ended other)) h k = absurd k
    open_outcomes_are_alike Alike texts (Ok (text bytes)) (Err refusal) h k = absurd k
    open_outcomes_are_alike Alike texts (Ok (o.undecodable bytes)) other h k = absurd h
    open_outcomes_are_alike Alike texts (Ok (o.calls_ended bytes)) other h k = absurd h
    open_outcomes_are_alike Alike texts (Err refusal) other h k = absurd h

  module _ (lawful : IsLawful domain p.spec) (posed : IsWellFormedProblem p) where
    abbrev A : Analysis E W State
    A = analysis domain p

    laws : AnalysisLaws A
    laws = keeps_the_laws domain p lawful posed

    open_laws : AnalysisLaws (left_open A)
    open_laws = left_open_laws A laws

    pub endings_are_alike : (t u : Listings E) → TableFits A t → TableFits A u → AreAlike domain.elements t u → (a : ℕ) → open_endings domain p t a ≡ open_endings domain p u a
    endings_are_alike t u fits others alike = ends_alike A laws t u fits others (alike_are_same A domain.elements (λ x y same. same) t u alike)

    pub open_true : (t : Listings E) (ends : Endings W) → TableFits A t → IsClosedButOpen A t ends → IsTrueUntilOpen domain.base domain.elements p t ends
    open_true t ends fits closed =
        open_is_true domain p lawful posed t ends closed (open_tables_are_sound A (machine_of p) laws (is_sound domain p lawful posed) t ends fits closed)

    module _ (image : Image) (base : List ℕ) where
      -- ---- two are alike
      pub open_tables_are_alike : (bytes other : List ℕ) (h : IsOpenTable domain p image base bytes) (k : IsOpenTable domain p image base other) → AreAlike domain.elements h.table k.table
      open_tables_are_alike bytes other h k =
          let B = open_analysis domain p in
          let same : h.trace ≡ k.trace = legal_traces_are_one B h.trace k.trace h.legal (inl h.complete) k.legal (inl k.complete) in
          let tables = tables_are_one B open_laws k.trace h.table k.table h.fits k.fits (subst (λ trace. IsTableOf B h.table (worklist_state B trace)) same h.is_table) k.is_table in
          same_are_alike B domain.elements (λ x y same. same) h.table k.table tables

      -- So are their endings.
      pub open_ends_are_alike : (bytes other : List ℕ) (h : IsOpenTable domain p image base bytes) (k : IsOpenTable domain p image base other) → (a : ℕ) → h.ends a ≡ k.ends a
      open_ends_are_alike bytes other h k a = h.endings a ∙ endings_are_alike h.table k.table h.fits k.fits (open_tables_are_alike bytes other h k) a ∙ sym (k.endings a)

      one_table_text : IsExact domain p.spec → (bytes other : List ℕ) → IsOpenTable domain p image base bytes → IsOpenTable domain p image base other → bytes ≡ other
      one_table_text exact bytes other h k =
          one_open_text domain.word_text (domain.IsText p.spec) p.spec domain.elements exact image base h.table k.table h.ends k.ends bytes other (open_tables_are_alike bytes other h k)
          (open_ends_are_alike bytes other h k) h.text k.text

      -- In a domain whose elements have one text there is one outcome.
      pub open_outcomes_are_one : IsExact domain p.spec → (found other : Answered) → ComesOpen domain p image base found → ComesOpen domain p image base other → found ≡ other
      open_outcomes_are_one exact = open_outcomes_are_alike image base (λ x y. x ≡ y) (λ x y h k. ap (λ (bytes : List ℕ). Ok (text bytes)) (one_table_text exact x y h k))

      -- ---- there is one
      pub has_open_outcome : (found : Answered) × ComesOpen domain p image base found
      has_open_outcome =
          let B = open_analysis domain p in
          let found = legal_traces_end B open_laws in
          let trace = found.0 in
          let legal = found.1 in
          let complete = ends_full A trace found.2 in
          let table = table_of B (worklist_state B trace) in
          let fits = table_fits B open_laws trace in
          let is = is_table B open_laws trace legal complete in
          let closed = full_traces_close B open_laws trace table legal complete fits is in
          let ends = open_endings domain p table in
          let written = has_open_text domain.word_text (domain.IsText p.spec) p.spec lawful.written image base table ends in (
            Ok (text written.0),
            record {
              trace = trace;
              table = table;
              ends = ends;
              legal = legal;
              complete = complete;
              few = legal_traces_are_short B open_laws trace legal;
              is_table = is;
              fits = fits;
              endings = λ a. refl;
              is_true = open_true table ends fits (record { closed = closed; endings = λ a. refl });
              text = written.1;
            },
          )
