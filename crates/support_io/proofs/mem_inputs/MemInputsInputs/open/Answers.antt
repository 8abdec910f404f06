use Rattle.std.proofs.Common.{arith, refl}
use Rattle.support_io.proofs.Sure.{same_sure}
use Rattle.support_io.proofs.mem_inputs.MemInputsInputs.open.Goals as goal

pub returns-then-next_fails-clause-kept : goal.returns-then-next_fails-clause-kept
returns-then-next_fails-clause-kept c =
    let held = c.close.ensures.held in
    let rises = rw c.count_fault.ensures.counts at c.count_fault.ensures.faults in
    rw c.count_fault.ensures.counts
    (record { tells = refl; held = held; sure = same_sure _ _ _ _ c.next_fails.ensures.goes_on held; faults = rises })

pub returns-then-not-open-clause-kept : goal.returns-then-not-open-clause-kept
returns-then-not-open-clause-kept c =
    let held = c.open.ensures.held in
    let rises = rw c.count_fault-then-not-open.ensures.counts at c.count_fault-then-not-open.ensures.faults in
    rw c.count_fault-then-not-open.ensures.counts
    (record { tells = refl; held = held; sure = same_sure _ _ _ _ c.next_fails.ensures.goes_on held; faults = rises })

pub returns-clause-kept : goal.returns-clause-kept
returns-clause-kept c =
    let held = c.open.ensures.held in
    record { tells = refl; held = held; sure = same_sure _ _ _ _ c.next_fails.ensures.goes_on held; faults = omega arith }
