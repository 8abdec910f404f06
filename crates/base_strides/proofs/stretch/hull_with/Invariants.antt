use Rattle.std.proofs.Common.{◌≡◌, ◌≤◌, drop}
use Rattle.base_strides.specs.Stretch.{hull_with}
use Rattle.base_strides.proofs.stretch.hull_with.Given as goal

abbrev pub invariant-loop-n : goal.invariant-loop-n
invariant-loop-n l = record { whole : hull_with l.fn.x l.ns ≡ hull_with l.out (drop l.n-index l.ns); order : l.out.lo ≤ l.out.hi }
