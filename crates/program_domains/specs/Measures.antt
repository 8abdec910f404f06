-- What is measured of the analysis of a problem, in a domain: how long its trace is, how many elements its table has, and the verdict on that table.
use Rattle.std.specs.Prelude.{◌≡◌, ℕ, ◌+◌, List, [], ◌∷◌, Option, Some, None, Ok, Err, codes, length}
use Rattle.fixpoint_theory.specs.WorklistState.{IsComplete, IsLegal, worklist_state}
use Rattle.fixpoint_theory.specs.Table.{IsTableOf, Listing, Listings, TableFits}
use Rattle.fixpoint_theory.specs.Verdicts.{verdict_of}
use Rattle.fixpoint_theory.specs.declared.verdict.Verdict.{Verdict}
use Rattle.fixpoint_theory.specs.declared.verdict.Verdict.TheVariants as v
use Rattle.program_stress_code.specs.Summary.{measure_text}
use Rattle.analysis_transfer_laws.specs.Problem.{Problem}
use Rattle.analysis_transfer_laws.specs.Runs.{IsTrueOfRuns}
use Rattle.program_common.specs.Outcome as o
use Rattle.program_common.specs.Outcome.{Outcome, text}
use Rattle.program_domains.specs.Analyses.{IsShort, IsStop, analysis}
use Rattle.program_domains.specs.Domains.{DomainOf}

abbrev pub count_of : {E : Type 0} → Option (Listing E) → ℕ
count_of None = 0
count_of (Some b) = 1

-- how many of these addresses a table lists
abbrev pub listed_count : {E : Type 0} → Listings E → List ℕ → ℕ
listed_count table [] = 0
listed_count table (a ∷ rest) = count_of (table a) + listed_count table rest

-- how a verdict is told
abbrev pub verdict_name : {W : Type 0} → Verdict W → List ℕ
verdict_name v.Accepted = codes "accepted"
verdict_name v.Entry = codes "rejected"
verdict_name (v.Open at to) = codes "rejected"
verdict_name (v.Undecodable at word) = codes "rejected"
verdict_name (v.TooManyTargets at shown) = codes "rejected"
verdict_name (v.Targets at) = codes "rejected"
verdict_name (v.Use at) = codes "rejected"

module _ {E W N C : Type 0} (domain : DomainOf E W N C) (p : Problem) where
  -- The text tells of the table of the analysis: of the one trace that is legal and leaves nothing pending. The verdict is that of a check of the table.
  -- The table is true of the runs of the machine, as one that is written is. That this is so, and that the verdict is that it is closed, follows from the rest, where
  -- the domain keeps the laws and the problem is well posed.
  pub record IsMeasured (bytes : List ℕ) : Type 0 where
    pub trace : List ℕ
    pub table : Listings E
    pub legal : IsLegal (analysis domain p) trace
    pub complete : IsComplete (worklist_state (analysis domain p) trace)
    pub few : IsShort domain p trace
    pub is_table : IsTableOf (analysis domain p) table (worklist_state (analysis domain p) trace)
    pub fits : TableFits (analysis domain p) table
    pub is_true : IsTrueOfRuns domain.base domain.elements p table
    pub told : bytes ≡ measure_text (length trace) (listed_count table p.addresses) (verdict_name (verdict_of (analysis domain p) table))

  -- The outcome: those lines, or the refusal of the first stop of the analysis.
  abbrev pub Measures : Outcome → Type 0
  Measures (Ok (text bytes)) = IsMeasured bytes
  Measures (Ok (o.undecodable bytes)) = ⊥
  Measures (Ok (o.calls_ended bytes)) = ⊥
  Measures (Err refusal) = IsStop domain p refusal
