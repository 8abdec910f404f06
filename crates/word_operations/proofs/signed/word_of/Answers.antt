use Rattle.std.proofs.Common.{◌≡◌, ◌^◌, ◌∙◌, ◌+ℤ◌, pos, ap, ap₂, unsigned_abs, arith, to_z, of_z, to_z-of_z, SFits}
use Rattle.std.proofs.lemmas.Int.{ints}
use Rattle.std.specs.Int.{int_rem_euclid, w128}
use Rattle.word_operations.specs.Signed.{unsigned}
use Rattle.word_operations.proofs.signed.word_of.Goals as goal

pub returns-clause-value : goal.returns-clause-value
unfolding unsigned
returns-clause-value c =
    let fits : SFits w128 c.rem_euclid.result = record { sfits = c.rem_euclid.type_inv } in
    let divisor : to_z w128 (of_z w128 (to_z w128 c.greatest.result +ℤ pos 1)) ≡ pos (2 ^ c.args.w) = omega (arith, ints) in
    ap unsigned_abs (to_z-of_z fits ∙ c.rem_euclid.ensures.value ∙ ap₂ int_rem_euclid (to_z-of_z c.ranges.z) divisor)
