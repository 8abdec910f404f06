use Rattle.std.proofs.Common.{◌≡◌, Some, ap, sym, ◌∙◌}
use Rattle.std.specs.Prelude.{option_map}
use Rattle.semantics_values.specs.Views.{val}
use Rattle.semantics_laws.proofs.Kept.{instructions_have_their_type}
use Rattle.code_image.specs.Decoders.{decoding}
use Rattle.concrete_emulator.specs.Emulators.{spec_of}
use Rattle.concrete_emulator.proofs.Calls.{instruction_fits}
use Rattle.concrete_emulator.proofs.Fetching.{decoding_is}
use Rattle.concrete_emulator.proofs.instructions.decoded_at.Goals as goal

pub returns-in_default : goal.returns-in_default
returns-in_default c = sym c.fetch.ensures ∙ c.in_default.is

pub returns-in-None : goal.returns-in-None
returns-in-None c = (sym c.fetch.ensures ∙ c.in-Some.is, sym c.in_ok-find.ensures.instruction ∙ ap (option_map val) c.in-None.is)

pub of_value-requires : goal.of_value-requires
of_value-requires c =
    let it = c.args.emulator.now in
    let spec = spec_of it in
    let word = c.in-Some.word in
    let p = val c.in-Some-2.instruction in
    let found : decoding spec word ≡ Some p = sym c.in_ok-find.ensures.instruction ∙ ap (option_map val) c.in-Some-2.is in
    let ready = c.requires in
    let typed = instructions_have_their_type spec it.machine word p ready.accepted ready.machine_is (decoding_is spec it.machine word (Some p) ready.machine_is found) in
    record { value = instruction_fits spec it.machine ready.accepted ready.machine_is p typed }

pub returns-in_ok-of_value-in-Some-2 : goal.returns-in_ok-of_value-in-Some-2
returns-in_ok-of_value-in-Some-2 c =
    let found : decoding (spec_of c.args.emulator.now) c.in-Some.word ≡ Some (val c.in-Some-2.instruction) = sym c.in_ok-find.ensures.instruction ∙ ap (option_map val) c.in-Some-2.is in
    record {
      code_word = c.in-Some.word;
      instruction = val c.in-Some-2.instruction;
      there = sym c.fetch.ensures ∙ c.in-Some.is;
      is = found;
      value = c.in_ok-of_value-in-Some-2.ensures.value;
    }
