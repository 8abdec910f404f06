use Rattle.std.proofs.Common.{arith, refl}
use Rattle.support_io.proofs.Sure.{same_sure}
use Rattle.support_io.proofs.mem_inputs.MemInputsInputs.read.Goals as goal

pub returns-then-next_fails-clause-kept : goal.returns-then-next_fails-clause-kept
returns-then-next_fails-clause-kept c =
    let rises = rw c.count_fault.ensures.counts at c.count_fault.ensures.faults in
    rw c.count_fault.ensures.counts
    (record { tells = refl; held = refl; sure = same_sure _ _ _ _ c.next_fails.ensures.goes_on refl; faults = rises })

pub returns-clause-kept : goal.returns-clause-kept
returns-clause-kept c =
    let held = c.read.ensures.held in
    record { tells = refl; held = held; sure = same_sure _ _ _ _ c.next_fails.ensures.goes_on held; faults = omega arith }
