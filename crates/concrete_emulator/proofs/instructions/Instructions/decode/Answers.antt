use Rattle.std.proofs.Common.{sym, subst}
use Rattle.concrete_emulator.specs.Instructions.{IsFetched, IsInstructionAt}
use Rattle.concrete_emulator.proofs.Lookups.{Are, kept_are}
use Rattle.concrete_emulator.proofs.instructions.Instructions.decode.Goals as goal

pub returns-in_ok-insert-in-Instruction-clause-known : goal.returns-in_ok-insert-in-Instruction-clause-known
returns-in_ok-insert-in-Instruction-clause-known c =
    let it = c.args.emulator.now in
    let at = c.args.at in
    let is = subst (IsFetched it at) c.in-Instruction.is c.in_ok-decoded_at.ensures in
    let copied = subst (IsInstructionAt it at) (sym c.in_ok-kept-in-Instruction.ensures) is in
    let kept = kept_are it at c.in_ok-kept-in-Instruction.kept c.args.self.now.by_address.entries c.requires.known copied in
    subst (Are it) (sym c.in_ok-insert-in-Instruction.ensures.entries) kept
