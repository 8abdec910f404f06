use Rattle.std.proofs.Common.{◌≡◌, ◌≤◌, ◌<◌, ◌^◌, drop, map}
use Rattle.word_operations.specs.Op2.{op2_of}
use Rattle.base_trait.specs.Lists.{Each}
use Rattle.base_strides.specs.Stretch.{hull_with}
use Rattle.base_strides.proofs.operations.with_row.Given as goal

abbrev pub invariant-loop-y : goal.invariant-loop-y
invariant-loop-y l = record {
  whole : hull_with l.fn.first (map (op2_of l.op l.w l.x) l.ys) ≡ hull_with l.out (map (op2_of l.op l.w l.x) (drop l.y-index l.ys));
  below : Each (λ n. n < 2 ^ l.w) (drop l.y-index l.ys);
  order : l.out.lo ≤ l.out.hi;
}
