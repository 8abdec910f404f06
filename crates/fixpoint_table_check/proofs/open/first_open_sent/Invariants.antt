use Rattle.std.proofs.Common.{◌≡◌, drop, map}
use Rattle.fixpoint_theory.specs.Verdicts.{first_open_sent}
use Rattle.fixpoint_theory.specs.Views.{arriving, listings}
use Rattle.fixpoint_table_check.proofs.open.first_open_sent.Given as goal

abbrev pub invariant-loop-sent : goal.invariant-loop-sent
invariant-loop-sent g l =
    let A = g.A.Analyser.analysis l.analyser in
    let t = listings g.A.Analyser.view l.table in
    let view = arriving g.A.Analyser.view in
    first_open_sent A t (map view l.arrivals) ≡ first_open_sent A t (map view (drop l.sent-index l.arrivals))
