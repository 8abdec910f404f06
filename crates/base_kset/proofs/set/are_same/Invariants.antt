use Rattle.std.proofs.Common.{◌≡◌, drop}
use Rattle.base_kset.specs.Same.{same_numbers}
use Rattle.base_kset.proofs.set.are_same.Given as goal

abbrev pub invariant-loop-i : goal.invariant-loop-i
invariant-loop-i l = same_numbers l.numbers l.others ≡ same_numbers (drop l.i l.numbers) (drop l.i l.others)
