use Rattle.std.proofs.Common.{◌≡◌, ◌++◌, ◌∷◌, [], ◌-◌, Some, rules, append_assoc}
use Rattle.spec_decode_rows.specs.Bits.{bit}
use Rattle.spec_decode_rows.proofs.Steps.{bits_step}
use Rattle.spec_decode_rows.proofs.bits.push_bits.Goals as goal

pub loop-left-preserved : goal.loop-left-preserved
loop-left-preserved c =
    let v = c.args.v in
    let left = c.loop-left.left in
    let h = rw (bits_step v left c.loop-left-test.true) at c.loop-left.invariant in
    let out : c.push.new.self.items ≡ c.loop-left.out.items ++ Some (bit v (left - 1)) ∷ [] = search rules in
    rw (out, append_assoc) h
