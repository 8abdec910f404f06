use Rattle.std.proofs.Common.{◌<◌, length, ap, sym, ◌∙◌, arith, Some, map, ℕ, List}
use Rattle.std.specs.List.{remove}
use Rattle.semantics_values.specs.declared.value.Value.{Value}
use Rattle.semantics_values.specs.States.{State}
use Rattle.semantics_values.specs.Views.{val}
use Rattle.concrete_emulator.proofs.States.{first_is, state_there, val_word}
use Rattle.concrete_emulator.proofs.values.state_of_parts.Goals as goal

pub returns-in-Ok : goal.returns-in-Ok
returns-in-Ok c =
    let items = c.args.parts.items in
    let some : 0 < length items = omega (arith, c.args.parts.ok) in
    let front = first_is items c.remove.result c.remove.ensures.value some in
    let there = state_there items c.remove.result (remove items 0) c.in-Word._w c.in-Word.v front (ap val c.in-Word.is ∙ val_word c.in-Word._w c.in-Word.v) c.in-Ok.ensures.0 in
    let number : ℕ → State = λ pc. record { pc = pc; parts = map val c.remove.new.self.items } in
    let rest : List Value → State = λ xs. record { pc = c.in-Word.v; parts = map val xs } in
    ap (λ pc. Some (number pc)) c.in-Ok.ensures.1 ∙ ap (λ xs. Some (rest xs)) c.remove.ensures.items ∙ sym there
