use Rattle.std.proofs.Common.{◌≡◌, drop, map, [], ◌<◌, ◌^◌}
use Rattle.base_trait.specs.Lists.{Each}
use Rattle.std.specs.Prelude.{Some}
use Rattle.base_kset.specs.Changes.{changed, width_before}
use Rattle.base_kset.specs.Sets.{add_all}
use Rattle.base_kset.proofs.operations.image_of.Given as goal

abbrev pub invariant-loop-x : goal.invariant-loop-x
invariant-loop-x g l = record {
  whole : add_all g.row.K (Some []) (map (changed l.change) l.numbers) ≡ add_all g.row.K l.out (map (changed l.change) (drop l.x-index l.numbers));
  below : Each (λ n. n < 2 ^ width_before l.change) (drop l.x-index l.numbers);
}
