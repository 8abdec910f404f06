-- A state: the program counter, and the other fields in their order.
use Rattle.std.specs.Prelude.{ℕ, List, ◌∷◌}
use Rattle.semantics_values.specs.Values.{Val, word, made, vals}

pub record State : Type 0 where
  pub pc : ℕ
  pub parts : List Val

-- the value of a state, where its datatype has this number: the counter is the first field of its one constructor
abbrev pub value_of : ℕ → State → Val
value_of ty s = made ty 0 (vals (word 32 s.pc ∷ s.parts))
