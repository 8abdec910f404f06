use Rattle.std.proofs.Common.{sym, subst}
use Rattle.semantics_values.specs.Views.{state}
use Rattle.abstract_value.specs.View.{abs}
use Rattle.concrete_emulator.specs.Emulators.{code_of, end_of, spec_of}
use Rattle.concrete_emulator.specs.Ends.{IsRun}
use Rattle.concrete_emulator.proofs.Ends.{begins, bound_end, deep_end, goes_further, left_end, left_state, reached_state, undecodable_end, undecodable_state}
use Rattle.concrete_emulator.proofs.runs.run_steps.Goals as goal

pub loop-done-init : goal.loop-done-init
loop-done-init c =
    let it = c.args.emulator.now in
    (begins (spec_of it) it.machine (code_of it) it.turns c.args.bound (state c.args.start.now) (abs c.in_ok-s.s) c.in_ok-s.ensures, c.requires.known)

pub step-requires-clause-state : goal.step-requires-clause-state
step-requires-clause-state c = record { shown = c.loop-done.invariant.0.at; shows = c.loop-done.invariant.0.shows }

pub last-requires : goal.last-requires
last-requires c =
    let it = c.args.emulator.now in
    let so_far = c.loop-done.invariant.0 in
    record { state = left_state (spec_of it) it.machine (code_of it) it.turns c.args.bound (state c.args.start.now) c.loop-done.done (abs c.loop-done.s) so_far c.loop-done-test.true c.in_ok-next.field-0 (c.in_ok-next.ensures.stepped so_far.at so_far.shows) c.in-Left.same c.in-Left.is }

pub returns-in-Left-clause-end : goal.returns-in-Left-clause-end
returns-in-Left-clause-end c =
    let it = c.args.emulator.now in
    let so_far = c.loop-done.invariant.0 in
    let end = left_end (spec_of it) it.machine (code_of it) it.turns c.args.bound (state c.args.start.now) c.loop-done.done (abs c.loop-done.s) so_far c.loop-done-test.true c.in_ok-next.field-0 (c.in_ok-next.ensures.stepped so_far.at so_far.shows) c.in-Left.same c.in_ok-state-in-Left.state c.in-Left.is c.in_ok-state-in-Left.ensures in
    subst (IsRun (end_of it c.args.bound (state c.args.start.now))) (sym c.end_run.ensures) end

pub last-requires-in-Undecodable : goal.last-requires-in-Undecodable
last-requires-in-Undecodable c =
    let it = c.args.emulator.now in
    let so_far = c.loop-done.invariant.0 in
    record { state = undecodable_state (spec_of it) it.machine (code_of it) it.turns c.args.bound (state c.args.start.now) c.loop-done.done (abs c.loop-done.s) so_far c.loop-done-test.true c.in_ok-next.field-0 (c.in_ok-next.ensures.stepped so_far.at so_far.shows) c.in-Undecodable.same c.in-Undecodable.word c.in-Undecodable.is }

pub returns-in-Undecodable-clause-end : goal.returns-in-Undecodable-clause-end
returns-in-Undecodable-clause-end c =
    let it = c.args.emulator.now in
    let so_far = c.loop-done.invariant.0 in
    let end = undecodable_end (spec_of it) it.machine (code_of it) it.turns c.args.bound (state c.args.start.now) c.loop-done.done (abs c.loop-done.s) so_far c.loop-done-test.true c.in_ok-next.field-0 (c.in_ok-next.ensures.stepped so_far.at so_far.shows) c.in-Undecodable.same c.in-Undecodable.word c.in_ok-state-in-Undecodable.state c.in-Undecodable.is c.in_ok-state-in-Undecodable.ensures in
    subst (IsRun (end_of it c.args.bound (state c.args.start.now))) (sym c.end_run-in-Undecodable.ensures) end

pub returns-in-OutOfFuel-clause-end : goal.returns-in-OutOfFuel-clause-end
returns-in-OutOfFuel-clause-end c =
    let it = c.args.emulator.now in
    let so_far = c.loop-done.invariant.0 in
    deep_end (spec_of it) it.machine (code_of it) it.turns c.args.bound (state c.args.start.now) c.loop-done.done (abs c.loop-done.s) so_far c.loop-done-test.true c.in_ok-next.field-0 (c.in_ok-next.ensures.stepped so_far.at so_far.shows) c.in-OutOfFuel.is

pub loop-done-preserved : goal.loop-done-preserved
loop-done-preserved c =
    let it = c.args.emulator.now in
    let so_far = c.loop-done.invariant.0 in
    (goes_further (spec_of it) it.machine (code_of it) it.turns c.args.bound (state c.args.start.now) c.loop-done.done (abs c.loop-done.s) so_far c.loop-done-test.true c.in_ok-next.field-0 (c.in_ok-next.ensures.stepped so_far.at so_far.shows) c.in-To.next c.in-To.is, c.in_ok-next.ensures.known)

pub last-requires-2 : goal.last-requires-2
last-requires-2 c =
    let it = c.args.emulator.now in
    record { state = reached_state (spec_of it) it.machine (code_of it) it.turns c.args.bound (state c.args.start.now) c.loop-done.done (abs c.loop-done.s) c.loop-done.invariant.0 }

pub returns-clause-end : goal.returns-clause-end
returns-clause-end c =
    let it = c.args.emulator.now in
    let end = bound_end (spec_of it) it.machine (code_of it) it.turns c.args.bound (state c.args.start.now) c.loop-done.done (abs c.loop-done.s) c.in_ok-state.state c.loop-done.invariant.0 c.loop-done-test.false c.loop-done.auto.done-end c.in_ok-state.ensures in
    subst (IsRun (end_of it c.args.bound (state c.args.start.now))) (sym c.end_run-2.ensures) end
