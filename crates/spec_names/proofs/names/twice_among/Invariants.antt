use Rattle.std.proofs.Common.{◌≡◌, [], map, drop}
use Rattle.spec_names.specs.Names.{twice_among}
use Rattle.spec_names.proofs.names.twice_among.Given as goal

abbrev pub invariant-loop-n : goal.invariant-loop-n
invariant-loop-n l = twice_among [] (map (λ n. n.now) l.names) ≡ twice_among l.before (map (λ n. n.now) (drop l.n-index l.names))
