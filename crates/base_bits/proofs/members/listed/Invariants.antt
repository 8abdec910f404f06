use Rattle.std.proofs.Common.{◌≡◌, ◌+◌, map}
use Rattle.base_bits.specs.Members.{choices}
use Rattle.base_bits.proofs.members.listed.Given as goal

abbrev pub invariant-loop-i : goal.invariant-loop-i
invariant-loop-i l = l.numbers.items ≡ map (λ n. l.x.v + n) (choices l.i l.x.m)
