use Rattle.std.proofs.Common.{◌≡◌, map, take}
use Rattle.semantics_values.specs.Views.{val}
use Rattle.semantics_values.proofs.copies.+copy.Given as goal

abbrev pub invariant-copy_all-loop-v : goal.invariant-copy_all-loop-v
invariant-copy_all-loop-v l = map val l.out.items ≡ map val (take l.v-index l.values)
