use Rattle.std.proofs.Common.{◌≡◌, drop}
use Rattle.test_cases.specs.Machine.{instr_at}
use Rattle.test_cases.proofs.program.Program.instr_at.Given as goal

abbrev pub invariant-loop-word : goal.invariant-loop-word
invariant-loop-word l = instr_at l.self.code.items l.at ≡ instr_at (drop l.word-index l.self.code.items) l.at
