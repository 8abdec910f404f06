-- Instructions of code addresses, as arguments of calls.
use Rattle.std.specs.Prelude.{◌≡◌, ⊤, ℕ, Some, None, List, [], ◌∷◌, map}
use Rattle.base_trait.specs.declared.uses.Stamp.{Stamp}
use Rattle.base_concrete.specs.Meaning.{concrete}
use Rattle.semantics_values.specs.Types.{environment_of}
use Rattle.semantics_values.specs.Values.{Val}
use Rattle.abstract_value_laws.specs.Abs.{Abs}
use Rattle.abstract_value_laws.specs.OfValues.{of_value}
use Rattle.abstract_value.specs.View.{abs}
use Rattle.code_image.specs.Decoders.{decoding}
use Rattle.concrete_calls.specs.Laws.{room}
use Rattle.concrete_emulator.specs.Emulators.{code_of, spec_of}
use Rattle.concrete_emulator.specs.declared.emulator.Emulator.{Emulator}
use Rattle.concrete_emulator.specs.declared.instructions.Fetched.{Fetched}
use Rattle.concrete_emulator.specs.declared.instructions.Fetched.TheVariants.{NoCode, NoInstruction, Instruction}
use Rattle.concrete_emulator.specs.declared.instructions.Instructions.{Instructions}

-- addresses with the values kept for them, in the order in which they were met
abbrev pub entries : Instructions → List (ℕ × Abs ℕ Stamp)
entries it = map (λ e. (e.0, abs e.1)) it.by_address.entries

module _ (it : Emulator) where
  -- A value is the instruction at an address: there is a code word, it is an instruction, and this is the value of it.
  pub record IsInstructionAt (at : ℕ) (x : Abs ℕ Stamp) : Type 0 where
    pub code_word : ℕ
    pub instruction : Val
    pub there : code_of it at ≡ Some code_word
    pub is : decoding (spec_of it) code_word ≡ Some instruction
    pub value : x ≡ of_value concrete tt room (environment_of (spec_of it)) instruction

  -- Each value is the instruction at its address.
  abbrev pub AreInstructions : List (ℕ × Abs ℕ Stamp) → Type 0
  AreInstructions [] = ⊤
  AreInstructions (e ∷ es) = IsInstructionAt e.0 e.1 × AreInstructions es

  -- This stands at an address.
  abbrev pub IsFetched : ℕ → Fetched → Type 0
  IsFetched at NoCode = code_of it at ≡ None
  IsFetched at (NoInstruction code_word) = (code_of it at ≡ Some code_word) × (decoding (spec_of it) code_word ≡ None)
  IsFetched at (Instruction x) = IsInstructionAt at (abs x)
