use Rattle.std.proofs.Common.{◌≡◌, ◌≤◌, ◌+◌, ◌∙◌, sym, arith}
use Rattle.program_domain_tasks.proofs.Measuring.{none_more, one_more}
use Rattle.program_domain_tasks.proofs.measure.count_listed.Goals.{then-contains_key, else-contains_key}
use Rattle.program_domain_tasks.proofs.measure.count_listed.Goals as goal

pub loop-at-preserved : goal.loop-at-preserved
loop-at-preserved g c =
    let few = c.loop-at.invariant.few in
    elim c.if-contains_key.branch [
      | then-contains_key w ↦ let made = w.count-is in record {
        count = one_more c.args.table.now c.args.addresses.now c.loop-at.at-index c.loop-at.count c.if-contains_key.count c.loop-at-test.true (sym w.if-contains_key.true ∙ c.contains_key.ensures) made c.loop-at.invariant.count;
        few = omega (arith, made, few);
      }
      | else-contains_key w ↦ let made = w.count-is in record {
        count = none_more c.args.table.now c.args.addresses.now c.loop-at.at-index c.loop-at.count c.if-contains_key.count c.loop-at-test.true (sym w.if-contains_key.false ∙ c.contains_key.ensures) made c.loop-at.invariant.count;
        few = omega (arith, made, few);
      }
    ]
