-- Successive whole numbers as words.
use Rattle.std.proofs.Common.{◌≡◌, ℕ, ◌/◌, ◌%◌, ◌^◌, ◌≤◌, if◌then◌else◌, arith, pow_pos, mod-lt, le_refl}
use Rattle.std.specs.Prelude.{◌==◌}
use Rattle.std.proofs.lemmas.Bool.Decides.{nat_tests}
use Rattle.word_operations.proofs.Bounds.{trunc_mono}
use Rattle.base_trait.proofs.Tests.{at_choice}
use Rattle.base_interval.specs.Quotients.{quotient_mono}
use Rattle.base_interval.specs.Range.{from_to, all}
use Rattle.base_interval.specs.Sound.{HoldsWord, all_holds}
use Rattle.base_interval.specs.declared.range.Range.{Range}

-- The words of the whole numbers from low to high, taken modulo 2 ^ w: where both ends pass the greatest
-- word equally often, from the one remainder to the other. Else both the greatest word and 0 are among them.
abbrev pub wrapped : ℕ → ℕ → ℕ → Range
wrapped w low high = if low / 2 ^ w == high / 2 ^ w then from_to (low % 2 ^ w) (high % 2 ^ w) else all w

-- it holds the word of each
pub wrapped_holds : (w low high n : ℕ) → low ≤ n → n ≤ high → HoldsWord w (wrapped w low high) (n % 2 ^ w)
wrapped_holds w low high n above below =
    at_choice (λ r. HoldsWord w r (n % 2 ^ w)) (low / 2 ^ w == high / 2 ^ w) (from_to (low % 2 ^ w) (high % 2 ^ w)) (all w)
    (λ e.
    let same : low / 2 ^ w ≡ high / 2 ^ w = grind (arith, nat_tests) in
    let first = quotient_mono low n (2 ^ w) (2 ^ w) above (le_refl (2 ^ w)) (pow_pos w) in
    let second = quotient_mono n high (2 ^ w) (2 ^ w) below (le_refl (2 ^ w)) (pow_pos w) in
    ((trunc_mono w w low n above (omega arith), trunc_mono w w n high below (omega arith)), mod-lt high (pow_pos w)))
    (λ e. all_holds w (n % 2 ^ w) (mod-lt n (pow_pos w)))
