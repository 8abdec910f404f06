-- What moves bits: shifts and rotations by an exact number, and casts.
use Rattle.std.specs.Prelude.{ℕ, if◌then◌else◌}
use Rattle.word_operations.specs.declared.kinds.BinaryOperation.{BinaryOperation}
use Rattle.word_operations.specs.Op2.{op2_of}
use Rattle.base_bits.specs.Known.{any, is_exact}
use Rattle.base_bits.specs.declared.known.Known.{Known}

-- the same operation on the known and on the unknown bits
abbrev pub moved : (ℕ → ℕ) → Known → Known
moved f x = record { v = f x.v; m = f x.m }

-- by a number that is not known it is any
abbrev pub shifted : BinaryOperation → ℕ → Known → Known → Known
shifted op w x y = if is_exact y then moved (λ n. op2_of op w n y.v) x else any w
