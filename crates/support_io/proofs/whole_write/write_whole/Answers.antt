use Rattle.std.proofs.Common.{arith, ◌∙◌, length-drop}
use Rattle.std.proofs.lemmas.List.{take_rest}
use Rattle.support_io.proofs.Fronts.{written_more}
use Rattle.support_io.proofs.whole_write.write_whole.Goals as goal

pub loop-count-preserved : goal.loop-count-preserved
loop-count-preserved g c =
    let ensures = rw take_rest at c.in-Ok.ensures in
    record {
      kept = record { tells = ensures.kept.tells ∙ c.loop-count.invariant.kept.tells; faults = omega (arith, ensures.kept.faults, c.loop-count.invariant.kept.faults) };
      no_fault = ensures.some_taken (omega arith) ∙ c.loop-count.invariant.no_fault;
      within = omega (arith, ensures.within, length-drop c.loop-count.count c.args.bytes.now);
      written = λ told. written_more _ _ _ c.args.bytes.now _ _ (c.loop-count.invariant.written told)
          (ensures.written (c.loop-count.invariant.kept.tells ∙ told));
      room = omega (arith, ensures.room);
    }
