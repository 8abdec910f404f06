use Rattle.std.proofs.Common.{◌≡◌, ◌/◌, ◌^◌, drop}
use Rattle.semantics.specs.Decode.{width_sum}
use Rattle.code_image.proofs.bits.higher_bits.Given as goal

abbrev pub invariant-loop-part : goal.invariant-loop-part
invariant-loop-part l = l.left / 2 ^ width_sum (drop l.part-index l.parts) ≡ l.word / 2 ^ width_sum l.parts
