use Rattle.std.proofs.Common.{◌≡◌, Some, ap, sym, ◌∙◌, subst}
use Rattle.spec_ir.specs.declared.spec.Machine.{Machine}
use Rattle.spec_ir.specs.Views.{specification}
use Rattle.semantics_values.specs.States.{State}
use Rattle.semantics_values.specs.Views.{state}
use Rattle.semantics.specs.Runs as r
use Rattle.semantics.specs.Runs.{Ended, after}
use Rattle.code_image.specs.Image.{code_at}
use Rattle.concrete_emulator.specs.Ends.{IsEnd, IsRun}
use Rattle.concrete_emulator.specs.Laws.{IsSameState}
use Rattle.concrete_emulator.proofs.Ends.{before_deep, turns_end}
use Rattle.concrete_emulator.proofs.runs.emulate.Goals as goal

same : (a b : Machine) → Some a ≡ Some b → a ≡ b
same a b e = cc

pub unreachable-requires-in-OutOfFuel-2 : goal.unreachable-requires-in-OutOfFuel-2
unreachable-requires-in-OutOfFuel-2 c =
    let spec = specification c.args.spec.now in
    let code = code_at c.args.image.now in
    let m = c.in-Some.machine in
    let d = c.args.turns in
    let start = state c.args.start in
    let deep = subst (IsRun (after spec m code d c.args.bound start)) c.in-OutOfFuel.is c.in_ok-end.ensures.end in
    let end = before_deep spec m code d c.args.bound c.in-OutOfFuel.done start deep.0 in
    let again = subst (IsRun (after spec m code d c.in-OutOfFuel.done start)) c.in-OutOfFuel-2.is c.in_ok-before-in-OutOfFuel.ensures.end in
    let stop : r.Stop.bound ≡ r.Stop.turns = ap (λ e. e.stop) (sym end) ∙ again.1 in
    cc

pub returns-in-Ended-2 : goal.returns-in-Ended-2
returns-in-Ended-2 c = λ machine is.
    let spec = specification c.args.spec.now in
    let code = code_at c.args.image.now in
    let d = c.args.turns in
    let start = state c.args.start in
    let m = c.in-Some.machine in
    let run = after spec m code d c.args.bound start in
    let before = c.in-Ended-2.before in
    let deep = subst (IsRun run) c.in-OutOfFuel.is c.in_ok-end.ensures.end in
    let end = before_deep spec m code d c.args.bound c.in-OutOfFuel.done start deep.0 in
    let again = subst (IsRun (after spec m code d c.in-OutOfFuel.done start)) c.in-Ended-2.is c.in_ok-before-in-OutOfFuel.ensures.end in
    let count = deep.0 ∙ sym (again.done ∙ ap (λ e. e.done) end) in
    let last = subst (λ (s : State). IsSameState (state before.state) s) (ap (λ e. e.state) end) again.last in
    let whole = turns_end run before.state before.done deep.1 count last again.ascending in
    let one : m ≡ machine = same m machine (sym c.in-Some.is ∙ is) in
    subst (λ x. IsEnd (after spec x code d c.args.bound start) c.stopped_by_turns.result) one (subst (IsEnd run) (sym c.stopped_by_turns.ensures) whole)
