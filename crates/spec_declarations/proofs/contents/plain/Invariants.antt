use Rattle.std.proofs.Common.{◌≡◌, ◌++◌, map, drop}
use Rattle.spec_declarations.specs.Counts as counts
use Rattle.spec_declarations.specs.Views.{meanings}
use Rattle.spec_declarations.proofs.contents.plain.Given as goal

abbrev pub invariant-loop-cases : goal.invariant-loop-cases
invariant-loop-cases l = l.own.items ++ map counts.plain (meanings (drop l.cases-index l.datas)) ≡ map counts.plain (meanings l.datas)
