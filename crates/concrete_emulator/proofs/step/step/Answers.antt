use Rattle.std.proofs.Common.{None, sym, ◌∙◌, subst}
use Rattle.abstract_value.specs.View.{abs}
use Rattle.concrete_emulator.specs.Emulators.{code_of, spec_of}
use Rattle.concrete_emulator.specs.Instructions.{IsFetched}
use Rattle.concrete_emulator.proofs.Fetching.{counter_is, decoding_is, left_here, undecodable_here}
use Rattle.concrete_emulator.proofs.Standing.{counter_shown}
use Rattle.concrete_emulator.proofs.step.step.Goals as goal

pub unreachable-requires : goal.unreachable-requires
unreachable-requires c =
    let there = counter_shown (spec_of c.args.emulator.now) c.args.emulator.now.machine.state c.requires.state.shown (abs c.args.s) c.requires.state.shows in
    let none = sym c.in_default.is ∙ c.counter.ensures ∙ there in
    cc

pub execute-requires-clause-instruction : goal.execute-requires-clause-instruction
execute-requires-clause-instruction c = subst (IsFetched c.args.emulator.now c.in-Some.at) c.in-Instruction.is c.in_ok-fetch.ensures.fetched

pub returns-in-NoCode-clause-stepped : goal.returns-in-NoCode-clause-stepped
returns-in-NoCode-clause-stepped c = λ t h.
    let it = c.args.emulator.now in
    let m = it.machine in
    let at = counter_is (spec_of it) m.state t (abs c.args.s) c.in-Some.at h (sym c.counter.ensures ∙ c.in-Some.is) in
    let none = subst (IsFetched it c.in-Some.at) c.in-NoCode.is c.in_ok-fetch.ensures.fetched in
    (h, left_here (spec_of it) m (code_of it) it.turns t c.in-Some.at at none)

pub returns-in-NoInstruction-clause-stepped : goal.returns-in-NoInstruction-clause-stepped
returns-in-NoInstruction-clause-stepped c = λ t h.
    let it = c.args.emulator.now in
    let m = it.machine in
    let word = c.in-NoInstruction.word in
    let at = counter_is (spec_of it) m.state t (abs c.args.s) c.in-Some.at h (sym c.counter.ensures ∙ c.in-Some.is) in
    let there = subst (IsFetched it c.in-Some.at) c.in-NoInstruction.is c.in_ok-fetch.ensures.fetched in
    (h, undecodable_here (spec_of it) m (code_of it) it.turns t c.in-Some.at at word there.0 (decoding_is (spec_of it) m word None c.requires.ready.machine_is there.1))
