use Rattle.std.proofs.Common.{◌≡◌, drop, map, ◌<◌, ◌^◌}
use Rattle.base_trait.specs.Lists.{Each}
use Rattle.word_operations.specs.Op2.{op2_of}
use Rattle.base_kset.specs.Sets.{add_all}
use Rattle.base_kset.proofs.operations.add_row.Given as goal

abbrev pub invariant-loop-y : goal.invariant-loop-y
invariant-loop-y g l = record {
  whole : add_all g.row.K l.initial.out (map (op2_of l.op l.w l.x) l.ys) ≡ add_all g.row.K l.out (map (op2_of l.op l.w l.x) (drop l.y-index l.ys));
  below : Each (λ n. n < 2 ^ l.w) (drop l.y-index l.ys);
}
