-- Each bit turned.
use Rattle.std.specs.Prelude.{ℕ}
use Rattle.word_operations.specs.Op1.{op1_of}
use Rattle.word_operations.specs.declared.kinds.UnaryOperation.TheVariants.{Not}
use Rattle.base_bits.specs.Known.{without}
use Rattle.base_bits.specs.declared.known.Known.{Known}

-- the unknown bits stay
abbrev pub not_of : ℕ → Known → Known
not_of w x = record { v = without (op1_of Not w x.v) x.m; m = x.m }
