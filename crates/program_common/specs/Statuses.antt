-- The statuses that a run ends with.
use Rattle.std.specs.Prelude.{ℕ}
use Rattle.program_common.specs.declared.status.Status.{Status}
use Rattle.program_common.specs.declared.status.Status.TheVariants as s

-- the exit status of the program
abbrev pub exit_status : Status → ℕ
exit_status s.Ok = 0
exit_status s.Rejected = 1
exit_status s.BadWords = 2
exit_status s.ReadFault = 3
exit_status s.WriteFault = 4
exit_status s.SpecRefused = 5
exit_status s.CodeRefused = 6
exit_status s.EntryRefused = 7
exit_status s.TableRefused = 8
exit_status s.Undecodable = 9
exit_status s.TooManyTargets = 10
exit_status s.CallsSpent = 11
exit_status s.TooLong = 12
exit_status s.NoMemory = 13
exit_status s.ClaimsRefused = 14

-- The run came to an answer: nothing failed, and memory lasted.
abbrev pub IsAnswer : Status → Type 0
IsAnswer s.ReadFault = ⊥
IsAnswer s.WriteFault = ⊥
IsAnswer s.NoMemory = ⊥
IsAnswer _ = Unit {0}
