use Rattle.std.proofs.Common.{◌≡◌, ◌+◌, ◌++◌, ◌<◌, ◌^◌, take, drop, map}
use Rattle.base_trait.specs.Lists.{Each}
use Rattle.base_bits.proofs.members.with_each_bit.Given as goal

abbrev pub invariant-loop-n : goal.invariant-loop-n
invariant-loop-n l = record {
  whole : l.out.items ≡ l.numbers ++ map (λ n. n + l.bit) (take l.n-index l.numbers);
  room : Each (λ n. n + l.bit < 2 ^ 64) (drop l.n-index l.numbers);
}
