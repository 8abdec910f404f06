use Rattle.std.proofs.Common.{◌≡◌, drop, ◌<◌, ◌^◌}
use Rattle.base_trait.specs.Lists.{Each}
use Rattle.std.specs.List.{list_any}
use Rattle.base_kset.specs.Meaning.{outcome}
use Rattle.base_kset.proofs.reading.one_is.Given as goal

abbrev pub invariant-loop-y : goal.invariant-loop-y
invariant-loop-y l = record {
  whole : list_any (outcome l.c l.w l.wanted l.x) l.ys ≡ list_any (outcome l.c l.w l.wanted l.x) (drop l.y-index l.ys);
  below : Each (λ n. n < 2 ^ l.w) (drop l.y-index l.ys);
}
