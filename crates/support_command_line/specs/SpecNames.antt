-- The word SPEC.
use Rattle.std.specs.Prelude.{ℕ, List, [], ◌∷◌, bytes_eq, codes, if◌then◌else◌}

-- a specification: the input of a name, or one that is shipped
pub data SpecName : Type 0 where
  input : List ℕ → SpecName
  power_pc : SpecName
  risc_v : SpecName

abbrev pub spec_in : List ℕ → SpecName
spec_in word = if bytes_eq word (codes "@ppc") then power_pc else (if bytes_eq word (codes "@rv") then risc_v else input word)

-- the input that it names
abbrev pub spec_inputs : SpecName → List (List ℕ)
spec_inputs (input name) = name ∷ []
spec_inputs power_pc = []
spec_inputs risc_v = []
