-- Where a check finds nothing: what that says of its parts. Widths, and numbers past 64 bits.
use Rattle.std.proofs.Common.{◌≡◌, ℕ, ◌<◌, ◌≤◌, ◌/◌, ◌^◌, Bool, true, false, nat_lt, Option, Some, None, refl, arith, pow_mono, lt_of_lt_of_le}
use Rattle.std.proofs.Math.Nat.{div-eq_of_lt}
use Rattle.std.proofs.lemmas.Bool.Decides.{nat_tests}
use Rattle.word_operations.specs.Width.{IsWidth}
use Rattle.spec_ir.specs.declared.spec_error.SpecError.{SpecError}
use Rattle.spec_ir.specs.Answers.{◌then◌, unless}
use Rattle.spec_ir.specs.WellFormed.{is_width}

pub then_left : (a b : Option SpecError) → a then b ≡ None → a ≡ None
then_left None b h = refl
then_left (Some e) b h = absurd cc

pub then_right : (a b : Option SpecError) → a then b ≡ None → b ≡ None
then_right None b h = h
then_right (Some e) b h = absurd cc

pub unless_none : (b : Bool) (e : SpecError) → unless b e ≡ None → b ≡ true
unless_none true e h = refl
unless_none false e h = absurd cc

pub width_is : (w : ℕ) → is_width w ≡ true → IsWidth w
width_is w h = (grind (arith, nat_tests), grind (arith, nat_tests))

pub fits_past : (v w : ℕ) → v < 2 ^ 64 → 64 ≤ w → nat_lt v (2 ^ w) ≡ true
fits_past v w below past =
    let h : v < 2 ^ w = lt_of_lt_of_le below (pow_mono past) in
    grind (arith, nat_tests)

pub no_bit_past : (v n : ℕ) → v < 2 ^ 64 → 64 ≤ n → v / 2 ^ n ≡ 0
no_bit_past v n below past = div-eq_of_lt (lt_of_lt_of_le below (pow_mono past))
