-- What an operation on one word x of w bits gives.
use Rattle.std.specs.Prelude.{ℕ, ◌-◌, ◌%◌, ◌^◌}
use Rattle.word_operations.specs.declared.kinds.UnaryOperation.{UnaryOperation}
use Rattle.word_operations.specs.declared.kinds.UnaryOperation.TheVariants.{Neg, Not}

-- the negation modulo 2 ^ w, and each bit turned
abbrev pub op1_of : UnaryOperation → ℕ → ℕ → ℕ
op1_of Neg w x = (2 ^ w - x) % 2 ^ w
op1_of Not w x = 2 ^ w - 1 - x
