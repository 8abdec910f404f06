use Rattle.semantics_values.specs.Views.{state}
use Rattle.abstract_value.specs.View.{abs}
use Rattle.concrete_emulator.specs.Emulators.{code_of, spec_of}
use Rattle.concrete_emulator.specs.Instructions.{AreInstructions, entries}
use Rattle.concrete_emulator.proofs.Ends.{Reaches}
use Rattle.concrete_emulator.proofs.runs.run_steps.Given as goal

abbrev pub invariant-loop-done : goal.invariant-loop-done
invariant-loop-done l =
    Reaches (spec_of l.emulator) l.emulator.machine (code_of l.emulator) l.emulator.turns l.bound (state l.start) l.done (abs l.s)
    × AreInstructions l.emulator (entries l.instructions)
