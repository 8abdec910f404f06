-- What is asked comes to with the elements of the code.
use Rattle.std.specs.Prelude.{ℕ, List}
use Rattle.code_image.specs.Image.{Image}
use Rattle.analysis_query_laws.specs.Answers.{Telling}
use Rattle.program_common.specs.Outcome.{Outcome}
use Rattle.program_domains.specs.Tasks.{Task, analyse, analyse_open, check, check_open, claims, claims_open, convert, measure, slice, slice_open}
use Rattle.program_domain_tasks.specs.Claims.{OwnClaims}
use Rattle.program_domain_tasks.specs.Measures.{OwnMeasures}
use Rattle.program_open_tasks.specs.Open.{OwnComesOpen}
use Rattle.program_open_tasks.specs.OpenTables.{OwnClaimsOpen, OwnJudgesOpen, OwnSlicesOpen}
use Rattle.program_domain_tasks.specs.Own.{Own, OwnComesTo, OwnJudges, OwnRewrites}
use Rattle.program_domain_tasks.specs.Slices.{OwnSlices}

-- Elements tell this of claims.
module _ {X E W N C : Type 0} (own : Own X E W N C) (K : Telling X) where
  abbrev pub OwnComes : Image → List ℕ → Task → Outcome → Type 0
  OwnComes image base (analyse p) outcome = OwnComesTo own p image base outcome
  OwnComes image base (analyse_open p) outcome = OwnComesOpen own p image base outcome
  OwnComes image base (measure p) outcome = OwnMeasures own p outcome
  OwnComes image base (check p bytes) outcome = OwnJudges own p image base bytes outcome
  OwnComes image base (check_open p bytes) outcome = OwnJudgesOpen own p image base bytes outcome
  OwnComes image base (convert spec bytes) outcome = OwnRewrites own spec image base bytes outcome
  OwnComes image base (slice p bytes at cell) outcome = OwnSlices own p image base bytes at cell outcome
  OwnComes image base (slice_open p bytes at cell) outcome = OwnSlicesOpen own p image base bytes at cell outcome
  OwnComes image base (claims p bytes list) outcome = OwnClaims own K p image base bytes list outcome
  OwnComes image base (claims_open p bytes list) outcome = OwnClaimsOpen own p K image base bytes list outcome
