-- What holds of every analysis.
use Rattle.std.specs.Prelude.{◌≡◌, ℕ, ◌+◌, ◌*◌, ◌≤◌, ◌↔◌, List, length}
use Rattle.fixpoint_theory.specs.Analysis.{Analysis, height_of}
use Rattle.fixpoint_theory.specs.WorklistState.{IsAtEnd, IsComplete, IsLegal, worklist_state}
use Rattle.fixpoint_theory.specs.Runs.{IsSound, IsSoundTable, Machine}
use Rattle.fixpoint_theory.specs.Table.{AreSameTables, FitsImage, IsClosed, IsTableOf, Listings, TableFits}
use Rattle.fixpoint_theory.specs.Verdicts.{Means, verdict_of}
use Rattle.fixpoint_theory.specs.declared.verdict.Verdict.{Verdict}
use Rattle.fixpoint_theory.specs.declared.verdict.Verdict.TheVariants.{Accepted}

module _ {E W S : Type 0} (A : Analysis E W S) where
  -- The table of a complete legal trace is closed.
  abbrev pub CompleteTracesClose : Type 0
  CompleteTracesClose =
      (trace : List ℕ) (t : Listings E) → IsLegal A trace → IsComplete (worklist_state A trace) → TableFits A t → IsTableOf A t (worklist_state A trace) → IsClosed A t

  -- The table of a trace is one of the image.
  abbrev pub TablesFitTheImage : Type 0
  TablesFitTheImage = (trace : List ℕ) (t : Listings E) → TableFits A t → IsTableOf A t (worklist_state A trace) → FitsImage A t

  -- There is one table of a trace.
  abbrev pub TablesAreOne : Type 0
  TablesAreOne =
      (trace : List ℕ) (t u : Listings E) → TableFits A t → TableFits A u → IsTableOf A t (worklist_state A trace) → IsTableOf A u (worklist_state A trace) → AreSameTables A t u

  -- A legal trace has few addresses: of N code words and elements of the height H, of which the first J changes join, at most N(H + J + 1).
  abbrev pub LegalTracesAreShort : Type 0
  LegalTracesAreShort = (trace : List ℕ) → IsLegal A trace → length trace ≤ length A.code * (height_of A + A.joins + 1)

  -- There is one legal trace to an end.
  abbrev pub LegalTracesAreOne : Type 0
  LegalTracesAreOne = (xs ys : List ℕ) → IsLegal A xs → IsAtEnd A (worklist_state A xs) → IsLegal A ys → IsAtEnd A (worklist_state A ys) → xs ≡ ys

  -- There is a legal trace to an end.
  abbrev pub LegalTracesEnd : Type 0
  LegalTracesEnd = (trace : List ℕ) × IsLegal A trace × IsAtEnd A (worklist_state A trace)

  -- What a closed table says holds of every run.
  abbrev pub ClosedTablesAreSound : Machine S → Type 0
  ClosedTablesAreSound M = IsSound A M → (t : Listings E) → TableFits A t → IsClosed A t → IsSoundTable A M t

  -- The verdict is right: accepted exactly where the table is closed, and each other with its cause.
  abbrev pub AcceptedAreClosed : Type 0
  AcceptedAreClosed = (t : Listings E) → TableFits A t → (verdict_of A t ≡ Accepted) ↔ IsClosed A t

  abbrev pub VerdictsMean : Type 0
  VerdictsMean = (t : Listings E) → TableFits A t → (v : Verdict W) → (verdict_of A t ≡ v) ↔ Means A t v
