-- The tables of traces are printable.
use Rattle.std.proofs.Common.{◌≡◌, ℕ, ◌<◌, ◌^◌, Bool, List, [], ◌∷◌, Option, Some, None, IsTrue, refl, sym, subst}
use Rattle.std.specs.Prelude.{filter, not}
use Rattle.base_trait.specs.Algebra.{Algebra}
use Rattle.base_trait.specs.Laws.{Laws}
use Rattle.base_trait.specs.Lists.{Each}
use Rattle.base_trait.proofs.Tests.{at_choice}
use Rattle.semantics_values.specs.States.{State}
use Rattle.abstract_value_laws.specs.Abs.{Abs}
use Rattle.abstract_semantics.specs.Answers.{Answer}
use Rattle.fixpoint_theory.specs.Analysis.{Analysis, AnalysisLaws}
use Rattle.fixpoint_theory.specs.Code.{is_code}
use Rattle.fixpoint_theory.specs.Elements.{Elements}
use Rattle.fixpoint_theory.specs.Outcome.{Outcome, addresses, moves, sends, too_many, undecodable}
use Rattle.fixpoint_theory.specs.WorklistState.{Reached, worklist_state}
use Rattle.fixpoint_theory.specs.Table.{IsBlockOf, IsTableOf, Listing, Listings, TableFits, Tells}
use Rattle.fixpoint_open_tables.specs.Instance.{left_open_laws}
use Rattle.fixpoint_open_tables.specs.LeftOpen.{left_open, opened}
use Rattle.domain_laws.specs.Domain.{Meaning}
use Rattle.domain_laws.specs.States.{state_type}
use Rattle.analysis_transfer_laws.specs.Analysis.{analysis_of}
use Rattle.analysis_transfer_laws.specs.Laws.{IsAnalysed}
use Rattle.analysis_transfer_laws.specs.Problem.{Problem}
use Rattle.analysis_transfer_laws.specs.Transfer.{transfer_of}
use Rattle.analysis_transfer_laws.specs.Uses.{AreInOrder}
use Rattle.analysis_transfer_laws.proofs.Keeping.{transfers_keep_the_laws}
use Rattle.analysis_table_laws.specs.Domains.{ElementsKeep}
use Rattle.analysis_table_laws.specs.InvariantLaws.{OpenTablesArePrintable, TablesArePrintable, has_word}
use Rattle.analysis_table_laws.specs.Notes.{NotesKeep}
use Rattle.analysis_table_laws.specs.Tables.{IsPrintable, IsPrintableTable, IsUseOf}
use Rattle.analysis_table_laws.proofs.Plays.{AnalysisKeeps, reached_keep}
use Rattle.analysis_table_laws.proofs.Transfers.{IsOutcome, transfer_is}

-- what holds of each item holds of those that pass a test
each_kept : (P : ℕ → Type 0) (test : ℕ → Bool) (xs : List ℕ) → Each P xs → Each P (filter test xs)
each_kept P test [] h = tt
each_kept P test (x ∷ xs) h = at_choice (Each P) (test x) (x ∷ filter test xs) (filter test xs) (λ e. (h.0, each_kept P test xs h.1)) (λ e. each_kept P test xs h.1)

module _ {E W S : Type 0} (A : Analysis E W S) where
  -- a block that tells an outcome
  told : (p : Problem) (K : E → Type 0) (b : Listing E) (given : Outcome E W) → K b.elem → IsOutcome p K given → Tells A b given → IsPrintable p.spec K b
  told p K b (undecodable code_word) kept is tells = absurd tells
  told p K b (too_many shown uses) kept is tells = absurd tells
  told p K b (sends arrivals uses) kept is tells = record {
    elem = kept;
    exits = subst (Each (λ to. to < 2 ^ 32)) (sym tells.1) (each_kept (λ to. to < 2 ^ 32) (λ a. not (is_code A.code a)) (addresses arrivals) is.targets);
    uses = subst (Each (IsUseOf p.spec)) (sym tells.2) is.uses.0;
    order = subst (AreInOrder (state_type p.spec).fields) (sym tells.2) is.uses.1;
  }
  told p K b (moves targets post uses) kept is tells = record {
    elem = kept;
    exits = subst (Each (λ to. to < 2 ^ 32)) (sym tells.1) (each_kept (λ to. to < 2 ^ 32) (λ a. not (is_code A.code a)) targets is.targets);
    uses = subst (Each (IsUseOf p.spec)) (sym tells.2) is.uses.0;
    order = subst (AreInOrder (state_type p.spec).fields) (sym tells.2) is.uses.1;
  }

-- Of an analysis of a problem whose calls keep a property of elements, and whose transfers give what tables may list.
module _ {E W S : Type 0} (A : Analysis E W S) (laws : AnalysisLaws A) (p : Problem) (K : E → Type 0) (keeps : AnalysisKeeps A K) (same_keep : (x y : E) → A.elements.same x y → K x → K y)
    (outcome : (a : ℕ) (x : E) → IsTrue (is_code A.code a) → A.elements.fits x → K x → IsOutcome p K (A.transfer a x)) where
  block_is : (trace : List ℕ) (t : Listings E) → TableFits A t → (at : ℕ) (b : Listing E) → t at ≡ Some b → (y : Option (Listing E)) (o : Option (Reached E)) → y ≡ Some b → worklist_state A trace at ≡ o → IsBlockOf A at y o
      → IsPrintable p.spec K b
  block_is trace t fits at b is None o e there block = absurd cc
  block_is trace t fits at b is (Some c) None e there block = absurd block
  block_is trace t fits at b is (Some c) (Some r) e there block =
      let same : c ≡ b = cc in
      let own = subst (λ (b : Listing E). A.elements.same b.elem r.elem × Tells A b (A.transfer at b.elem)) same block in
      let fine = fits at b is in
      let reached = reached_keep A laws K keeps trace at r there in
      let kept : K b.elem = same_keep r.elem b.elem (laws.elements.same_back b.elem r.elem own.0) reached.2 in
      told A p K b (A.transfer at b.elem) kept (outcome at b.elem fine.0 fine.1 kept) own.1

  -- each block of the table of a trace is printable
  table_is : (trace : List ℕ) (t : Listings E) → TableFits A t → IsTableOf A t (worklist_state A trace) → IsPrintableTable p.spec K t
  table_is trace t fits table at b is = block_is trace t fits at b is (t at) (worklist_state A trace at) is refl (table at)

module _ {E W N C : Type 0} (B : Algebra W N C) (laws : Laws W N C B) (cap : ℕ) (D : Elements E State) (M : Meaning E W N C) (p : Problem) (calls : ℕ → ℕ → List (Abs W N) → Answer (Abs W N)) (h : IsAnalysed B cap D M p calls)
    (F : N → Type 0) (K : E → Type 0) (notes : NotesKeep B.notes (has_word p) F) (elements : ElementsKeep D M F K) (transfer : ℕ → E → Outcome E W)
    (A_laws : AnalysisLaws (record (analysis_of B cap D M p calls) { transfer = transfer })) (outcomes : (a : ℕ) (x : E) → IsTrue (is_code p.addresses a) → D.fits x → K x → IsOutcome p K (transfer a x)) where
  -- the analysis by any transfers that give what tables may list
  abbrev A : Analysis E W State
  A = record (analysis_of B cap D M p calls) { transfer = transfer }

  keeps : AnalysisKeeps A K
  keeps = record { entry = elements.entry p.lines; join = elements.join; widen = elements.widen; transfer = λ a x code fit kept. (outcomes a x code fit kept).post }

  pub printable_by : (trace : List ℕ) (t : Listings E) → TableFits A t → IsTableOf A t (worklist_state A trace) → IsPrintableTable p.spec K t
  printable_by trace t fits table = table_is A A_laws p K keeps elements.same outcomes trace t fits table

  -- ---- left open

  opened_is : (o : Outcome E W) → IsOutcome p K o → IsOutcome p K (opened o)
  opened_is (undecodable code_word) is = record { targets = tt; uses = (tt, tt); post = tt }
  opened_is (too_many shown uses) is = record { targets = tt; uses = is.uses; post = tt }
  opened_is (moves targets post uses) is = is
  opened_is (sends arrivals uses) is = is

  open_outcomes : (a : ℕ) (x : E) → IsTrue (is_code p.addresses a) → D.fits x → K x → IsOutcome p K (opened (A.transfer a x))
  open_outcomes a x code fit kept = opened_is (A.transfer a x) (outcomes a x code fit kept)

  open_keeps : AnalysisKeeps (left_open A) K
  open_keeps = record { entry = elements.entry p.lines; join = elements.join; widen = elements.widen; transfer = λ a x code fit kept. (open_outcomes a x code fit kept).post }

  pub open_printable_by : (trace : List ℕ) (t : Listings E) → TableFits A t → IsTableOf (left_open A) t (worklist_state (left_open A) trace) → IsPrintableTable p.spec K t
  open_printable_by trace t fits table = table_is (left_open A) (left_open_laws A A_laws) p K open_keeps elements.same open_outcomes trace t fits table

module _ {E W N C : Type 0} (B : Algebra W N C) (laws : Laws W N C B) (cap : ℕ) (D : Elements E State) (M : Meaning E W N C) (F : (ℕ → Bool) → N → Type 0) (K : (ℕ → Bool) → E → Type 0)
    (notes : (code : ℕ → Bool) → NotesKeep B.notes code (F code)) (elements : (code : ℕ → Bool) → ElementsKeep D M (F code) (K code)) where
  pub tables_are_printable : TablesArePrintable B cap D M K
  tables_are_printable p calls trace t h fits table =
      let code = has_word p in
      printable_by B laws cap D M p calls h (F code) (K code) (notes code) (elements code) (transfer_of B cap M p calls) (transfers_keep_the_laws B laws cap D M p calls h)
      (λ a x is fit kept. transfer_is B laws cap D M p calls h (F code) (K code) (notes code) (elements code) a x is fit kept) trace t fits table

  pub open_tables_are_printable : OpenTablesArePrintable B cap D M K
  open_tables_are_printable p calls trace t h fits table =
      let code = has_word p in
      open_printable_by B laws cap D M p calls h (F code) (K code) (notes code) (elements code) (transfer_of B cap M p calls) (transfers_keep_the_laws B laws cap D M p calls h)
      (λ a x is fit kept. transfer_is B laws cap D M p calls h (F code) (K code) (notes code) (elements code) a x is fit kept) trace t fits table
