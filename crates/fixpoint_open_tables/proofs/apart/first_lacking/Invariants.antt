use Rattle.std.proofs.Common.{map}
use Rattle.std.specs.Map.Iter.{deref_pair}
use Rattle.fixpoint_open_tables.specs.Endings.{ends_in}
use Rattle.fixpoint_open_tables.proofs.Differing.{AreSameAt}
use Rattle.fixpoint_open_tables.proofs.apart.first_lacking.Given as goal

abbrev pub invariant-loop-at : goal.invariant-loop-at
invariant-loop-at g l = AreSameAt (ends_in l.x) (ends_in l.other) (map deref_pair l.yielded)
