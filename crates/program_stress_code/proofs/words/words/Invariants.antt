use Rattle.std.proofs.Common.{◌≡◌, ◌-◌, ◌++◌}
use Rattle.program_stress_code.specs.Words.{state_after, words, words_from}
use Rattle.program_stress_code.proofs.words.words.Given as goal

abbrev pub invariant-loop-i : goal.invariant-loop-i
invariant-loop-i l = record {
  state : l.state ≡ state_after l.number l.i;
  out : l.out.items ++ words_from l.number l.count l.i (l.count - l.i) ≡ words l.number l.count;
}
