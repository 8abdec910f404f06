use Rattle.std.proofs.Common.{refl}
use Rattle.program_common.specs.Reading as owing
use Rattle.program_common.proofs.Giving.{not_true, taken_alone}
use Rattle.program_common.proofs.source.read_input.Goals as goal

pub returns-in-Ok-clause-gives : goal.returns-in-Ok-clause-gives
returns-in-Ok-clause-gives g c = owing.whole (λ told. c.in-Ok.ensures.whole told) c.in-Ok.ensures.within_cap

pub returns-in-Err-ReadFault-clause-gives : goal.returns-in-Err-ReadFault-clause-gives
returns-in-Err-ReadFault-clause-gives g c =
    let failed = rw c.in-Err-ReadFault.field-0-is at c.in-Err-ReadFault.ensures in
    owing.unread (record { unsure = not_true _ (λ sure. failed.sure_reads sure refl); fault = failed.fault refl })

pub returns-in-Err-TooLong-clause-gives : goal.returns-in-Err-TooLong-clause-gives
returns-in-Err-TooLong-clause-gives g c =
    let failed = rw c.in-Err-TooLong.field-0-is at c.in-Err-TooLong.ensures in
    owing.long (λ told. failed.too_long told refl)

pub returns-in-Ok-clause-taken : goal.returns-in-Ok-clause-taken
returns-in-Ok-clause-taken g c told is_open =
    taken_alone (g.I.Inputs.state c.args.inputs.now) (g.I.Inputs.state c.read_whole.new.inputs) c.args.name.now c.args.cap (c.read_whole.ensures.named told is_open) (c.read_whole.ensures.taken told is_open)

pub returns-in-Err-TooLong-clause-taken : goal.returns-in-Err-TooLong-clause-taken
returns-in-Err-TooLong-clause-taken g c told is_open =
    taken_alone (g.I.Inputs.state c.args.inputs.now) (g.I.Inputs.state c.read_whole.new.inputs) c.args.name.now c.args.cap (c.read_whole.ensures.named told is_open) (c.read_whole.ensures.taken told is_open)

pub returns-in-Err-ReadFault-clause-taken : goal.returns-in-Err-ReadFault-clause-taken
returns-in-Err-ReadFault-clause-taken g c told is_open =
    taken_alone (g.I.Inputs.state c.args.inputs.now) (g.I.Inputs.state c.read_whole.new.inputs) c.args.name.now c.args.cap (c.read_whole.ensures.named told is_open) (c.read_whole.ensures.taken told is_open)

pub returns-in-Err-NoMemory-clause-taken : goal.returns-in-Err-NoMemory-clause-taken
returns-in-Err-NoMemory-clause-taken g c told is_open =
    taken_alone (g.I.Inputs.state c.args.inputs.now) (g.I.Inputs.state c.read_whole.new.inputs) c.args.name.now c.args.cap (c.read_whole.ensures.named told is_open) (c.read_whole.ensures.taken told is_open)
