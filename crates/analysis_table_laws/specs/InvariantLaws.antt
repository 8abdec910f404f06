-- What tables of analyses have, so that their texts tell them.
use Rattle.std.specs.Prelude.{ℕ, Bool, IsTrue, is_some, List}
use Rattle.base_trait.specs.Algebra.{Algebra}
use Rattle.base_trait.specs.PairedNotes.{paired_notes}
use Rattle.semantics_values.specs.States.{State}
use Rattle.abstract_value_laws.specs.Abs.{Abs}
use Rattle.abstract_semantics.specs.Answers.{Answer}
use Rattle.fixpoint_theory.specs.Code.{is_code}
use Rattle.fixpoint_theory.specs.Elements.{Elements}
use Rattle.fixpoint_theory.specs.Outcome.{Outcome, moves, sends, too_many, undecodable}
use Rattle.fixpoint_theory.specs.Pairs.{paired as paired_elements}
use Rattle.fixpoint_theory.specs.WorklistState.{worklist_state}
use Rattle.fixpoint_theory.specs.Table.{IsTableOf, Listings, TableFits}
use Rattle.fixpoint_open_tables.specs.LeftOpen.{left_open}
use Rattle.domain_laws.specs.Domain.{Meaning}
use Rattle.domain_laws.specs.States.{StateType}
use Rattle.domain_laws.specs.Calls.{cell_calls}
use Rattle.domain_laws.specs.Cells.{cells}
use Rattle.domain_affine_laws.specs.Calls.{affine_calls, affine_elements}
use Rattle.domain_product_laws.specs.Domain.{pair_meaning}
use Rattle.analysis_transfer_laws.specs.Analysis.{analysis_of}
use Rattle.analysis_transfer_laws.specs.Laws.{IsAnalysed}
use Rattle.analysis_transfer_laws.specs.Problem.{Problem}
use Rattle.analysis_transfer_laws.specs.Transfer.{transfer_of}
use Rattle.analysis_table_laws.specs.Domains.{ElementsKeep, HasNone}
use Rattle.analysis_table_laws.specs.Notes.{BothNotes, NotesKeep, TellsNothing}
use Rattle.analysis_table_laws.specs.Tables.{IsPrintableTable}
use Rattle.analysis_table_laws.specs.Values.{PartsHaveNotes}

-- whether an address is that of a code word of the problem
abbrev pub has_word : Problem → ℕ → Bool
has_word p a = is_some (p.word_at a)

module _ {E W N C : Type 0} (B : Algebra W N C) (cap : ℕ) (D : Elements E State) (M : Meaning E W N C) (K : (ℕ → Bool) → E → Type 0) where
  -- The table of a trace is printable, by what elements keep where these are the code addresses.
  abbrev pub TablesArePrintable : Type 0
  TablesArePrintable =
      (p : Problem) (calls : ℕ → ℕ → List (Abs W N) → Answer (Abs W N)) (trace : List ℕ) (t : Listings E) → IsAnalysed B cap D M p calls
      → TableFits (analysis_of B cap D M p calls) t → IsTableOf (analysis_of B cap D M p calls) t (worklist_state (analysis_of B cap D M p calls) trace)
      → IsPrintableTable p.spec (K (has_word p)) t

  -- So is that of a trace of the analysis that is left open.
  abbrev pub OpenTablesArePrintable : Type 0
  OpenTablesArePrintable =
      (p : Problem) (calls : ℕ → ℕ → List (Abs W N) → Answer (Abs W N)) (trace : List ℕ) (t : Listings E) → IsAnalysed B cap D M p calls
      → TableFits (analysis_of B cap D M p calls) t → IsTableOf (left_open (analysis_of B cap D M p calls)) t (worklist_state (left_open (analysis_of B cap D M p calls)) trace)
      → IsPrintableTable p.spec (K (has_word p)) t

-- the word that is shown where there are too many targets, if there is one, has the property
abbrev pub IfShown : {E W : Type 0} → (W → Type 0) → Outcome E W → Type 0
IfShown P (undecodable code_word) = Unit {0}
IfShown P (too_many shown uses) = P shown
IfShown P (moves targets post uses) = Unit {0}
IfShown P (sends arrivals uses) = Unit {0}

-- Words that transfers show are of 32 bits, as counters are.
abbrev pub ShownWordsFit : {E W N C : Type 0} → Algebra W N C → ℕ → Elements E State → Meaning E W N C → Type 0
ShownWordsFit {E} {W} {N} {C} B cap D M =
    (p : Problem) (calls : ℕ → ℕ → List (Abs W N) → Answer (Abs W N)) (a : ℕ) (x : E) → IsAnalysed B cap D M p calls → IsTrue (is_code p.addresses a) → D.fits x
    → IfShown (B.words.fits M.context 32) (transfer_of B cap M p calls a x)

-- ---- what elements keep
-- those of cells, that their notes have a property
abbrev pub CellsKeep : {W N C : Type 0} → Algebra W N C → ((ℕ → Bool) → N → Type 0) → Type 0
CellsKeep {C = C} B F = (code : ℕ → Bool) (c : C) (cap : ℕ) (t : StateType) → ElementsKeep (cells B c cap t.fields) (cell_calls B c cap t) (F code) (PartsHaveNotes (F code))

-- those of affine relations have no notes
abbrev pub RelationsKeep : Type 0
RelationsKeep = (code : ℕ → Bool) (t : StateType) → ElementsKeep (affine_elements t) (affine_calls t) (TellsNothing code) HasNone

-- pairs, what both parts keep
module _ {E L V W M N C D : Type 0} (A : Algebra V M C) (B : Algebra W N D) (P : Elements E State) (Q : Elements L State) (first : Meaning E V M C) (second : Meaning L W N D)
    (F : (ℕ → Bool) → M → Type 0) (G : (ℕ → Bool) → N → Type 0) (J : (ℕ → Bool) → E → Type 0) (K : (ℕ → Bool) → L → Type 0) where
  abbrev pub PairsKeep : Type 0
  PairsKeep =
      (code : ℕ → Bool) (cap : ℕ)
      → NotesKeep (paired_notes A.notes B.notes) code (BothNotes (F code) (G code))
      × ElementsKeep (paired_elements P Q) (pair_meaning A B cap first second) (BothNotes (F code) (G code)) (λ x. J code x.0 × K code x.1)
