use Rattle.std.proofs.Common.{◌≡◌, ◌≤◌, ◌<◌, ◌^◌, drop, map}
use Rattle.std.specs.List.{flat_map}
use Rattle.word_operations.specs.Op2.{op2_of}
use Rattle.base_trait.specs.Lists.{Each}
use Rattle.base_strides.specs.Stretch.{hull_with}
use Rattle.base_strides.proofs.operations.with_rows.Given as goal

abbrev pub invariant-loop-x : goal.invariant-loop-x
invariant-loop-x l = record {
  whole : hull_with l.fn.first (flat_map (λ x. map (op2_of l.op l.w x) l.ys) l.xs) ≡ hull_with l.out (flat_map (λ x. map (op2_of l.op l.w x) l.ys) (drop l.x-index l.xs));
  below : Each (λ n. n < 2 ^ l.w) (drop l.x-index l.xs);
  order : l.out.lo ≤ l.out.hi;
}
