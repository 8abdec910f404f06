use Rattle.std.proofs.Common.{◌≡◌, ℕ, ◌-◌, ◌/◌, ◌^◌, ap, arith}
use Rattle.word_operations.proofs.Widths.{ones_of}
use Rattle.base_bits.specs.declared.known.Known.{Known}
use Rattle.base_bits.proofs.known.Known.any.Goals as goal

abbrev made : ℕ → Known
made m = record { v = 0; m = m }

pub returns : goal.returns
returns c =
    let mask : (2 ^ 64 - 1) / 2 ^ (64 - c.args.w) ≡ 2 ^ c.args.w - 1 = omega (arith, ones_of c.args.w c.requires.1) in
    ap made mask
