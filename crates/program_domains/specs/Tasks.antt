-- What is asked over a base.
use Rattle.std.specs.Prelude.{ℕ, List}
use Rattle.code_image.specs.Image.{Image}
use Rattle.spec_ir.specs.Specification.{Spec}
use Rattle.analysis_transfer_laws.specs.Problem.{Problem}
use Rattle.program_common.specs.Outcome.{Outcome}
use Rattle.program_domains.specs.Analyses.{ComesTo}
use Rattle.program_domains.specs.OpenAnalyses.{ComesOpen}
use Rattle.program_domains.specs.OpenChecks.{JudgesOpen}
use Rattle.program_domains.specs.OpenClaims.{ClaimsOpen}
use Rattle.program_domains.specs.OpenSlices.{SlicesOpen}
use Rattle.text_slices.specs.declared.slice_cell.SliceCell.{SliceCell}
use Rattle.program_domains.specs.Checks.{Judges}
use Rattle.program_domains.specs.Claims.{Claims}
use Rattle.program_domains.specs.Conversions.{Rewrites}
use Rattle.program_domains.specs.Domains.{DomainOf}
use Rattle.program_domains.specs.Measures.{Measures}
use Rattle.program_domains.specs.Slices.{Slices}

pub data Task : Type 0 where
  -- the table of the analysis of a problem
  analyse : Problem → Task
  -- the same, where what has no decoding or too many targets is left open
  analyse_open : Problem → Task
  -- what is measured of the analysis of a problem
  measure : Problem → Task
  -- the verdict on the table that a text is
  check : Problem → List ℕ → Task
  -- the same, where blocks may be left open
  check_open : Problem → List ℕ → Task
  -- the table that a text is, written anew
  convert : Spec → List ℕ → Task
  -- the slice of the table that a text is, at an address for a cell
  slice : Problem → List ℕ → ℕ → SliceCell → Task
  -- the same, where blocks may be left open
  slice_open : Problem → List ℕ → ℕ → SliceCell → Task
  -- the answers of the table that a text is to the claims that another is
  claims : Problem → List ℕ → List ℕ → Task
  -- the same, where blocks may be left open
  claims_open : Problem → List ℕ → List ℕ → Task

abbrev pub spec_of : Task → Spec
spec_of (analyse p) = p.spec
spec_of (analyse_open p) = p.spec
spec_of (measure p) = p.spec
spec_of (check p bytes) = p.spec
spec_of (check_open p bytes) = p.spec
spec_of (convert spec bytes) = spec
spec_of (slice p bytes at asked) = p.spec
spec_of (slice_open p bytes at asked) = p.spec
spec_of (claims p bytes list) = p.spec
spec_of (claims_open p bytes list) = p.spec

-- the outcome in a domain, with the name of the base in the heads of tables
abbrev pub Comes : {E W N C : Type 0} → DomainOf E W N C → Image → List ℕ → Task → Outcome → Type 0
Comes domain image base (analyse p) outcome = ComesTo domain p image base outcome
Comes domain image base (analyse_open p) outcome = ComesOpen domain p image base outcome
Comes domain image base (measure p) outcome = Measures domain p outcome
Comes domain image base (check p bytes) outcome = Judges domain p image base bytes outcome
Comes domain image base (check_open p bytes) outcome = JudgesOpen domain p image base bytes outcome
Comes domain image base (convert spec bytes) outcome = Rewrites domain spec image base bytes outcome
Comes domain image base (slice p bytes at asked) outcome = Slices domain p image base bytes at asked outcome
Comes domain image base (slice_open p bytes at asked) outcome = SlicesOpen domain p image base bytes at asked outcome
Comes domain image base (claims p bytes list) outcome = Claims domain p image base bytes list outcome
Comes domain image base (claims_open p bytes list) outcome = ClaimsOpen domain p image base bytes list outcome
