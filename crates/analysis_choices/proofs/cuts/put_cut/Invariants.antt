use Rattle.std.proofs.Common.{◌≡◌, ◌++◌, take, drop}
use Rattle.analysis_choices.specs.Choice.{with_cut}
use Rattle.analysis_choices.proofs.cuts.put_cut.Given as goal

-- the number belongs among those that are left
abbrev pub invariant-loop-i : goal.invariant-loop-i
invariant-loop-i l =
    record {
      same : l.cuts.items ≡ l.initial.cuts.items;
      left : take l.i l.cuts.items ++ with_cut l.n (drop l.i l.cuts.items) ≡ with_cut l.n l.cuts.items;
    }
