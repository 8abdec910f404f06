-- What an analysis answers.
use Rattle.std.specs.Prelude.{ℕ, List, Result, Ok, Err, Vec}
use Rattle.std.specs.declared.alloc.Global.{Global}
use Rattle.base_trait.specs.Uses.{Seen}
use Rattle.fixpoint_theory.specs.Analysis.{Analysis}
use Rattle.fixpoint_theory.specs.Outcome.{Outcome, too_many, undecodable}
use Rattle.fixpoint_theory.specs.WorklistState.{IsComplete, IsLegal, IsStopped, WorklistState, worklist_state}
use Rattle.fixpoint_theory.specs.Table.{IsTableOf}
use Rattle.fixpoint_theory.specs.Views.{listings}
use Rattle.fixpoint_worklist.specs.declared.report.Report.{Report}
use Rattle.fixpoint_worklist.specs.declared.report.AnalyseError.{AnalyseError}
use Rattle.fixpoint_worklist.specs.declared.report.AnalyseError.TheVariants.{Undecodable, TooManyTargets, NoMemory}
use Rattle.fixpoint_worklist.specs.Likeness.{AllLike}

module _ {P W S : Type 0} (A : Analysis P W S) where
  -- The trace is legal, and the least address that is then pending has such a transfer.
  abbrev pub IsStopOf : List ℕ → ℕ → Outcome P W → Type 0
  IsStopOf trace at given = IsLegal A trace × IsStopped A (worklist_state A trace) at given

  abbrev pub IsErrorOf : AnalyseError W → Type 0
  IsErrorOf (Undecodable at word trace) = IsStopOf trace.items at (undecodable word)
  IsErrorOf (TooManyTargets at shown trace) = (uses : List Seen) × IsStopOf trace.items at (too_many shown uses)
  IsErrorOf NoMemory = Unit {0}

  -- The trace is legal and complete, and the table lists what it reached.
  pub record IsReportOf {E : Type 0} (view : E → P) (r : Report E) : Type 0 where
    pub legal : IsLegal A r.trace.items
    pub complete : IsComplete (worklist_state A r.trace.items)
    pub table : IsTableOf A (listings view r.table) (worklist_state A r.trace.items)

  abbrev pub IsAnswer : {E : Type 0} → (E → P) → Result (Report E) (AnalyseError W) → Type 0
  IsAnswer view (Ok r) = IsReportOf view r
  IsAnswer view (Err e) = IsErrorOf e

  -- The trace is legal and complete, and the worklist state is as after it.
  pub record IsTraceOf (p : WorklistState P) (trace : List ℕ) : Type 0 where
    pub legal : IsLegal A trace
    pub complete : IsComplete (worklist_state A trace)
    pub like : AllLike A p (worklist_state A trace)

  abbrev pub IsRun : WorklistState P → Result (Vec ℕ Global) (AnalyseError W) → Type 0
  IsRun p (Ok trace) = IsTraceOf p trace.items
  IsRun p (Err e) = IsErrorOf e
