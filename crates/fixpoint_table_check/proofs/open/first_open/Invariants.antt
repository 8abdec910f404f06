use Rattle.std.proofs.Common.{◌≡◌, drop}
use Rattle.fixpoint_theory.specs.Verdicts.{first_open}
use Rattle.fixpoint_theory.specs.Views.{listings}
use Rattle.fixpoint_table_check.proofs.open.first_open.Given as goal

abbrev pub invariant-loop-to : goal.invariant-loop-to
invariant-loop-to g l =
    let A = g.A.Analyser.analysis l.analyser in
    let t = listings g.A.Analyser.view l.table in
    first_open A t (g.A.Analyser.view l.x) l.targets ≡ first_open A t (g.A.Analyser.view l.x) (drop l.to-index l.targets)
