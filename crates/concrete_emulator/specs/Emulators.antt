-- A machine with its code: what it is in definitions, and when it can run.
use Rattle.std.specs.Prelude.{◌≡◌, ℕ, Option, Some}
use Rattle.spec_ir.specs.Specification.{Spec}
use Rattle.spec_ir.specs.Views.{specification}
use Rattle.semantics_values.specs.States.{State}
use Rattle.semantics.specs.Runs.{Ended, Stepped, after, step}
use Rattle.semantics_laws.specs.Accepted.{IsAccepted}
use Rattle.eval_code.specs.Lowered.{IsCodeOf}
use Rattle.eval_code.specs.Views.{code}
use Rattle.code_image.specs.Decoders.{IsDecoderOf}
use Rattle.code_image.specs.Image.{code_at}
use Rattle.concrete_emulator.specs.declared.emulator.Emulator.{Emulator}

module _ (it : Emulator) where
  abbrev pub spec_of : Spec
  spec_of = specification it.spec.now

  -- the code word at an address, where there is one
  abbrev pub code_of : ℕ → Option ℕ
  code_of = code_at it.image.now

  -- what a step from a state comes to, and the end of a run of at most so many steps
  abbrev pub step_of : State → Stepped
  step_of = step spec_of it.machine code_of it.turns

  abbrev pub end_of : ℕ → State → Ended
  end_of = after spec_of it.machine code_of it.turns

  -- The specification is accepted. Machine, code and decoder are its own.
  pub record IsReady : Type 0 where
    pub accepted : IsAccepted spec_of
    pub machine_is : spec_of.machine ≡ Some it.machine
    pub code_is : IsCodeOf (code it.cir.now) spec_of
    pub decoder_is : IsDecoderOf spec_of.rows it.decoder.now
