use Rattle.std.proofs.Common.{◌≡◌, None, drop}
use Rattle.std.specs.Prelude.{IfSome}
use Rattle.base_kset.specs.Meaning.{Fits}
use Rattle.base_cuts.specs.Sets.{with_all}
use Rattle.base_cuts.proofs.sets.numbers_between.Given as goal

abbrev pub invariant-loop-n : goal.invariant-loop-n
invariant-loop-n g l = record {
  whole : with_all g.row.K l.low l.high None l.numbers ≡ with_all g.row.K l.low l.high l.found (drop l.n-index l.numbers);
  fits : IfSome l.found (Fits g.row.K l.w);
}
