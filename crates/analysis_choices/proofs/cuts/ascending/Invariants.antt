use Rattle.std.proofs.Common.{◌≡◌, drop}
use Rattle.analysis_choices.specs.Choice.{ascending, with_all}
use Rattle.analysis_choices.proofs.cuts.ascending.Given as goal

abbrev pub invariant-loop-cut : goal.invariant-loop-cut
invariant-loop-cut l = with_all (drop l.cut-index l.cuts) l.out.items ≡ ascending l.cuts
