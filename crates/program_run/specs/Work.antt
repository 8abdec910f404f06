-- How many transfers a run makes.
use Rattle.std.specs.Prelude.{◌≤◌, ℕ, Option, Some}
use Rattle.support_command_line.specs.Requests.{Request, analyse, check, slice, claims, stress}
use Rattle.program_common.specs.Reading.{Reading}
use Rattle.program_analyses.specs.StressWork.{StressWork}
use Rattle.program_analyses.specs.Work.{AnalyseWork, CheckWork, ClaimsWork, SliceWork}

-- From so many to so many, for what is asked for: `analyse`, `check`, `slice` and `claims` make as many as program_analyses specs/Work says, `stress` as specs/StressWork there does, and other commands none.
abbrev pub RunWork : Reading → Option Request → ℕ → ℕ → Type 0
RunWork reads (Some (analyse request)) old new = AnalyseWork reads request old new
RunWork reads (Some (check request)) old new = CheckWork reads request old new
RunWork reads (Some (slice request)) old new = SliceWork reads request old new
RunWork reads (Some (claims request)) old new = ClaimsWork reads request old new
RunWork reads (Some (stress request)) old new = StressWork request old new
RunWork reads _ old new = new ≤ old
