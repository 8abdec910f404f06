use Rattle.std.proofs.Common.{◌≡◌, drop, map, [], ◌<◌, ◌^◌}
use Rattle.base_trait.specs.Lists.{Each}
use Rattle.std.specs.Prelude.{Some}
use Rattle.std.specs.List.{flat_map}
use Rattle.word_operations.specs.Op2.{op2_of}
use Rattle.base_kset.specs.Sets.{add_all}
use Rattle.base_kset.proofs.operations.product_of.Given as goal

abbrev pub invariant-loop-x : goal.invariant-loop-x
invariant-loop-x g l = record {
  whole : add_all g.row.K (Some []) (flat_map (λ x. map (op2_of l.op l.w x) l.ys) l.xs) ≡ add_all g.row.K l.out (flat_map (λ x. map (op2_of l.op l.w x) l.ys) (drop l.x-index l.xs));
  below : Each (λ n. n < 2 ^ l.w) (drop l.x-index l.xs);
}
