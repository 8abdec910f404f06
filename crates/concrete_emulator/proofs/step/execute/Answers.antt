use Rattle.std.proofs.Common.{◌≡◌, ℕ, Some, List, [], ◌∷◌, map, sym, subst, ◌∙◌}
use Rattle.base_trait.specs.declared.uses.Stamp.{Stamp}
use Rattle.base_concrete.specs.Meaning.{concrete}
use Rattle.semantics_values.specs.States.{value_of}
use Rattle.semantics_values.specs.Types.{environment_of}
use Rattle.semantics.specs.Runs.{meaning}
use Rattle.semantics_laws.proofs.Kept.{instructions_have_their_type}
use Rattle.abstract_value_laws.specs.Abs.{Abs}
use Rattle.abstract_value_laws.specs.OfValues.{of_value}
use Rattle.abstract_value.specs.View.{abs}
use Rattle.concrete_calls.specs.Laws.{AreArgumentsFor, room}
use Rattle.concrete_calls.specs.Calls.{IsCall, IsMeantBy}
use Rattle.concrete_emulator.specs.Emulators.{code_of, spec_of}
use Rattle.concrete_emulator.specs.Values.{IsStepped}
use Rattle.concrete_emulator.specs.declared.step.MachineStep.TheVariants.{To}
use Rattle.concrete_emulator.proofs.Calls.{arguments, deep_step, done_step, machine_of, pushed}
use Rattle.concrete_emulator.proofs.Fetching.{counter_is, decoding_is, executed_here}
use Rattle.concrete_emulator.proofs.step.execute.Goals as goal

pub evaluate_call-requires-clause-call : goal.evaluate_call-requires-clause-call
evaluate_call-requires-clause-call c =
    let it = c.args.emulator.now in
    let spec = spec_of it in
    let m = it.machine in
    let ready = c.requires.ready in
    let known = c.requires.instruction in
    let p = known.instruction in
    let xs = of_value concrete tt room (environment_of spec) p ∷ abs c.args.s ∷ [] in
    let are : map abs c.push-2.new.self.items ≡ xs = pushed c.in_ok-args.args.items c.push.new.self.items c.push-2.new.self.items c.args.instruction c.args.s (of_value concrete tt room (environment_of spec) p) c.in_ok-args.ensures.items c.in_ok-push.ensures.items c.in_ok-push-2.ensures.items known.value in
    let typed = instructions_have_their_type spec m known.code_word p ready.accepted ready.machine_is (decoding_is spec m known.code_word (Some p) ready.machine_is known.is) in
    let call : IsCall spec m.interp xs = record {
      function = (machine_of spec m ready.accepted ready.machine_is).interp;
      values = p ∷ value_of m.state c.requires.state.shown ∷ [];
      are = arguments spec m ready.accepted ready.machine_is p typed c.requires.state.shown (abs c.args.s) c.requires.state.shows;
    } in
    subst (IsCall spec m.interp) (sym are) call

pub returns-in-OutOfFuel : goal.returns-in-OutOfFuel
returns-in-OutOfFuel c = λ t h.
    let it = c.args.emulator.now in
    let spec = spec_of it in
    let m = it.machine in
    let ready = c.requires.ready in
    let known = c.requires.instruction in
    let p = known.instruction in
    let fun = (machine_of spec m ready.accepted ready.machine_is).interp in
    let vs = p ∷ value_of m.state t ∷ [] in
    let xs = of_value concrete tt room (environment_of spec) p ∷ abs c.args.s ∷ [] in
    let are : map abs c.push-2.new.self.items ≡ xs = pushed c.in_ok-args.args.items c.push.new.self.items c.push-2.new.self.items c.args.instruction c.args.s (of_value concrete tt room (environment_of spec) p) c.in_ok-args.ensures.items c.in_ok-push.ensures.items c.in_ok-push-2.ensures.items known.value in
    let found = decoding_is spec m known.code_word (Some p) ready.machine_is known.is in
    let typed = instructions_have_their_type spec m known.code_word p ready.accepted ready.machine_is found in
    let args = subst (λ (zs : List (Abs ℕ Stamp)). AreArgumentsFor spec m.interp fun zs vs) (sym are) (arguments spec m ready.accepted ready.machine_is p typed t (abs c.args.s) h) in
    let meant = c.in_ok-evaluate_call.ensures fun vs args in
    let deep = deep_step spec m ready.accepted ready.machine_is p typed t (abs c.args.s) h c.args.at it.turns (subst (λ y. IsMeantBy spec fun y (meaning spec c.args.at it.turns m.interp vs [])) c.in-OutOfFuel.is meant) in
    let at = counter_is spec m.state t (abs c.args.s) c.args.at h c.requires.at in
    sym (executed_here spec m (code_of it) it.turns t c.args.at at known.code_word p known.there found) ∙ deep

pub returns-in-Done : goal.returns-in-Done
returns-in-Done c = λ t h.
    let it = c.args.emulator.now in
    let spec = spec_of it in
    let m = it.machine in
    let ready = c.requires.ready in
    let known = c.requires.instruction in
    let p = known.instruction in
    let fun = (machine_of spec m ready.accepted ready.machine_is).interp in
    let vs = p ∷ value_of m.state t ∷ [] in
    let xs = of_value concrete tt room (environment_of spec) p ∷ abs c.args.s ∷ [] in
    let are : map abs c.push-2.new.self.items ≡ xs = pushed c.in_ok-args.args.items c.push.new.self.items c.push-2.new.self.items c.args.instruction c.args.s (of_value concrete tt room (environment_of spec) p) c.in_ok-args.ensures.items c.in_ok-push.ensures.items c.in_ok-push-2.ensures.items known.value in
    let found = decoding_is spec m known.code_word (Some p) ready.machine_is known.is in
    let typed = instructions_have_their_type spec m known.code_word p ready.accepted ready.machine_is found in
    let args = subst (λ (zs : List (Abs ℕ Stamp)). AreArgumentsFor spec m.interp fun zs vs) (sym are) (arguments spec m ready.accepted ready.machine_is p typed t (abs c.args.s) h) in
    let meant = c.in_ok-evaluate_call.ensures fun vs args in
    let done = done_step spec m ready.accepted ready.machine_is p typed t (abs c.args.s) h c.args.at it.turns c.in-Done.next (subst (λ y. IsMeantBy spec fun y (meaning spec c.args.at it.turns m.interp vs [])) c.in-Done.is meant) in
    let at = counter_is spec m.state t (abs c.args.s) c.args.at h c.requires.at in
    subst (IsStepped spec m.state t (To c.in-Done.next)) (executed_here spec m (code_of it) it.turns t c.args.at at known.code_word p known.there found) done
