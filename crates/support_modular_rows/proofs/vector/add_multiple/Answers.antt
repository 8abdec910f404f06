use Rattle.std.proofs.Common.{◌≢◌, ◌<◌, ◌*◌, ◌^◌, ◌∙◌, length, get_or, arith, below_more, get_or-set_other, get_or-set_same}
use Rattle.std.proofs.Math.ListN.{length-set}
use Rattle.std.proofs.Math.Nat.{add-mod-mod}
use Rattle.support_modular_rows.proofs.vector.add_multiple.Goals as goal

pub loop-i-preserved : goal.loop-i-preserved
loop-i-preserved c = record {
  size = length-set _ _ _ ∙ c.loop-i.invariant.size;
  done = below_more _ _
      (λ k h. let ne : k ≢ c.loop-i.i = omega arith in rw get_or-set_other (c.loop-i.invariant.done k h))
      (let lt : c.loop-i.i < length c.loop-i.sum = omega arith in
      rw get_or-set_same (add-mod-mod (get_or c.args.x.now c.loop-i.i 0) (c.args.q * get_or c.args.r.now c.loop-i.i 0) (2 ^ 32)));
}
