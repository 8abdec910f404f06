use Rattle.std.proofs.Common.{◌≡◌, Some, ap, sym, ◌∙◌, subst, nat_eq}
use Rattle.std.specs.Prelude.{option_copied}
use Rattle.std.specs.Map.{lookup}
use Rattle.concrete_emulator.specs.Instructions.{IsInstructionAt}
use Rattle.concrete_emulator.proofs.Lookups.{found_is}
use Rattle.concrete_emulator.proofs.instructions.Instructions.fetch.Goals as goal

pub returns-in-Some-clause-fetched : goal.returns-in-Some-clause-fetched
returns-in-Some-clause-fetched c =
    let it = c.args.emulator.now in
    let there : lookup (nat_eq c.args.at) c.args.self.now.by_address.entries ≡ Some c.in-Some.instruction.now = sym c.get.ensures.value ∙ ap option_copied c.in-Some.is in
    let known = found_is it c.args.at c.in-Some.instruction.now c.args.self.now.by_address.entries c.requires.known there in
    subst (IsInstructionAt it c.args.at) (sym c.in_ok-copy.ensures) known
