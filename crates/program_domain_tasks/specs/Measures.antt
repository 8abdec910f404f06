-- What is measured of an analysis comes to with the elements of the code, and how many transfers it takes.
use Rattle.std.specs.Prelude.{ℕ, ◌+◌, ◌≤◌, length}
use Rattle.analysis_transfer_laws.specs.Problem.{Problem}
use Rattle.program_common.specs.Outcome.{Outcome}
use Rattle.program_domains.specs.Measures.{Measures}
use Rattle.program_domains.specs.Work.{analysis_work}
use Rattle.program_domain_tasks.specs.Own.{Own, as_defined}

module _ {X E W N C : Type 0} (own : Own X E W N C) (p : Problem) where
  abbrev pub OwnMeasures : Outcome → Type 0
  OwnMeasures = Measures (as_defined own) p

  -- from so many to so many: those of the analysis, and at most one for each code word
  abbrev pub OwnMeasureWork : ℕ → ℕ → Type 0
  OwnMeasureWork old new = new ≤ old + (analysis_work (as_defined own) p + length p.addresses)
