use Rattle.std.proofs.Common.{◌≡◌, drop, ◌<◌, ◌^◌}
use Rattle.base_trait.specs.Lists.{Each}
use Rattle.base_kset.specs.Meaning.{outcome, some_pair}
use Rattle.base_kset.proofs.reading.some_is.Given as goal

abbrev pub invariant-loop-x : goal.invariant-loop-x
invariant-loop-x l = record {
  whole : some_pair (outcome l.c l.w l.wanted) l.xs l.ys ≡ some_pair (outcome l.c l.w l.wanted) (drop l.x-index l.xs) l.ys;
  below : Each (λ n. n < 2 ^ l.w) (drop l.x-index l.xs);
}
