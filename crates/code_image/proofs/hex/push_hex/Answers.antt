use Rattle.std.proofs.Common.{◌≡◌, ℕ, zero, suc, ◌<◌, ◌-◌, ◌*◌, ◌/◌, ◌%◌, ◌^◌, ◌∷◌, refl, arith, append_assoc}
use Rattle.std.specs.Char.{digit_char}
use Rattle.code_image.specs.Listing.{hex_digits}
use Rattle.code_image.proofs.hex.push_hex.Goals as goal

step : (v n : ℕ) → 0 < n → hex_digits n v ≡ digit_char (v / 2 ^ (4 * (n - 1)) % 16) ∷ hex_digits (n - 1) v
step v zero h = absurd (omega (arith, h))
step v (suc n) h =
    let e : suc n - 1 ≡ n = omega arith in
    rw e refl

pub loop-left-preserved : goal.loop-left-preserved
loop-left-preserved c =
    let h = rw (step c.args.v c.loop-left.left c.loop-left-test.true) at c.loop-left.invariant in
    rw (c.in_ok-push.ensures.items, append_assoc, c.hex_digit.ensures) h
