use Rattle.std.proofs.Common.{◌≡◌, ◌+◌, ◌≤◌, ℕ, length, map}
use Rattle.std.specs.Map.Iter.{deref_pair}
use Rattle.fixpoint_theory.specs.Views.{listings}
use Rattle.fixpoint_open_tables.specs.Endings.{endings_of, ends_in}
use Rattle.fixpoint_open_tables.proofs.Gathered.{so_far}
use Rattle.fixpoint_open_tables.proofs.block_endings.endings_of.Given as goal

abbrev pub invariant-loop-at : goal.invariant-loop-at
invariant-loop-at g l = record {
  made : (a : ℕ) → ends_in l.found a ≡ so_far (endings_of (g.A.Analyser.analysis l.analyser) (listings g.A.Analyser.view l.table)) (map deref_pair l.yielded) a;
  steps : l.steps ≤ l.initial.steps + length l.yielded;
}
