-- Steps by what stands at the counter.
use Rattle.std.proofs.Common.{◌≡◌, ℕ, Option, Some, None, [], ◌∷◌, sym, ap, ◌∙◌}
use Rattle.std.proofs.lemmas.Option.{same_Some as same_some}
use Rattle.spec_ir.specs.declared.spec.Machine.{Machine}
use Rattle.spec_ir.specs.Specification.{Spec}
use Rattle.semantics_values.specs.States.{State, value_of}
use Rattle.semantics_values.specs.Values.{Val}
use Rattle.semantics.specs.Decode.{decoded}
use Rattle.semantics.specs.Runs as r
use Rattle.semantics.specs.Runs.{executed, fetched, meaning, step, stepped_of}
use Rattle.abstract_value_laws.specs.Abs.{Abs}
use Rattle.base_trait.specs.declared.uses.Stamp.{Stamp}
use Rattle.code_image.specs.Decoders.{decoding, instr_of}
use Rattle.concrete_emulator.specs.States.{Shows, counter_in}
use Rattle.concrete_emulator.proofs.Standing.{counter_shown}

pub counter_is : (spec : Spec) (ty : ℕ) (s : State) (x : Abs ℕ Stamp) (at : ℕ) → Shows spec ty s x → counter_in x ≡ Some at → at ≡ s.pc
counter_is spec ty s x at h is = same_some at s.pc (sym is ∙ counter_shown spec ty s x h)

-- The instruction that a word is has the number of the machine's datatype of instructions.
pub decoding_is : (spec : Spec) (m : Machine) (code_word : ℕ) (p : Option Val) → spec.machine ≡ Some m → decoding spec code_word ≡ p → decoded m.instr spec.rows code_word ≡ p
decoding_is spec m code_word p e is = sym (ap (λ x. decoded (instr_of x) spec.rows code_word) e) ∙ is

module _ (spec : Spec) (m : Machine) (code : ℕ → Option ℕ) (d : ℕ) (s : State) (at : ℕ) (e : at ≡ s.pc) where
  fetched_is : (o : Option ℕ) → code at ≡ o → step spec m code d s ≡ fetched spec m code d s o
  fetched_is o is = ap (λ pc. fetched spec m code d s (code pc)) (sym e) ∙ ap (fetched spec m code d s) is

  pub left_here : code at ≡ None → step spec m code d s ≡ r.left
  left_here is = fetched_is None is

  pub undecodable_here : (code_word : ℕ) → code at ≡ Some code_word → decoded m.instr spec.rows code_word ≡ None → step spec m code d s ≡ r.undecodable code_word
  undecodable_here code_word is none = fetched_is (Some code_word) is ∙ ap (executed spec m code d s code_word) none

  pub executed_here : (code_word : ℕ) (p : Val) → code at ≡ Some code_word → decoded m.instr spec.rows code_word ≡ Some p → stepped_of (meaning spec at d m.interp (p ∷ value_of m.state s ∷ []) []) ≡ step spec m code d s
  executed_here code_word p is found =
      ap (λ pc. stepped_of (meaning spec pc d m.interp (p ∷ value_of m.state s ∷ []) [])) e ∙ sym (fetched_is (Some code_word) is ∙ ap (executed spec m code d s code_word) found)
