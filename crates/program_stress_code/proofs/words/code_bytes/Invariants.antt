use Rattle.std.proofs.Common.{◌≡◌, ◌++◌, drop}
use Rattle.std.specs.Int.{to_be_bytes, w32}
use Rattle.std.specs.List.{flat_map}
use Rattle.program_stress_code.specs.Words.{code_bytes}
use Rattle.program_stress_code.proofs.words.code_bytes.Given as goal

abbrev pub invariant-loop-word : goal.invariant-loop-word
invariant-loop-word l = l.out.items ++ flat_map (to_be_bytes w32) (drop l.word-index l.word-items) ≡ code_bytes l.number l.count
