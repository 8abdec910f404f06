use Rattle.std.proofs.Common.{◌≡◌, ◌++◌, drop, map}
use Rattle.analysis_choices.specs.Choice.{cell_cuts}
use Rattle.analysis_choices.specs.Views.{choice}
use Rattle.analysis_choices.proofs.choice.all_cuts.Given as goal

abbrev pub invariant-loop-c : goal.invariant-loop-c
invariant-loop-c l = map choice l.out.items ++ map cell_cuts (drop l.c-index l.found) ≡ map cell_cuts l.found
