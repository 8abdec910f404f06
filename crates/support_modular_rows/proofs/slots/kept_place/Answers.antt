use Rattle.std.proofs.Common.{◌≡◌, ◌-◌, ◌∙◌, suc, ap, sym, length, drop, arith}
use Rattle.support_modular_rows.specs.Reduction.{kept_from}
use Rattle.support_modular_rows.proofs.slots.kept_place.Goals as goal

pub returns-then-seen-i : goal.returns-then-seen-i
returns-then-seen-i c =
    let next : suc (length c.args.rows.now - 1 - c.loop-back.back) ≡ length c.args.rows.now - c.loop-back.back = omega arith in
    record {
      within = omega arith;
      some = c.if-rows-c-ne0.true;
      before = ap (λ k. length (kept_from (length c.args.rows.now) k (drop k c.args.rows.now))) next ∙ sym c.loop-back.invariant.seen ∙ c.if-seen-i.true;
    }
