-- Sign extensions.
use Rattle.std.proofs.Common.{ℕ, ◌*◌, ◌^◌, ◌<◌, ◌≤◌, arith, inl, inr, pow_mono}
use Rattle.std.proofs.lemmas.Bool.{cases_lt}
use Rattle.word_operations.specs.Casts.{sext_of as sext_number}
use Rattle.word_operations.proofs.Bounds.{sext_low, sext_high}
use Rattle.word_operations.proofs.Fits.{sext_of_fits}
use Rattle.base_trait.specs.Laws.{IsExtension}
use Rattle.base_interval.specs.Range.{Fits, Holds, from_to}
use Rattle.base_interval.specs.Sound.{HoldsWord}
use Rattle.base_interval.specs.declared.range.Range.{Range}

-- from end to end: words whose sign bit is clear stay as they are, and all others move up alike
abbrev pub sext_of : ℕ → ℕ → Range → Range
sext_of from to x = from_to (sext_number from to x.lo) (sext_number from to x.hi)

pub sext_mono : (from to m n : ℕ) → from ≤ to → m ≤ n → n < 2 ^ from → sext_number from to m ≤ sext_number from to n
sext_mono from to m n widens more below =
    let greater : 2 ^ from ≤ 2 ^ to = pow_mono widens in
    elim (cases_lt (2 * n) (2 ^ from)) [
      | inl low ↦ omega (arith, sext_low from to m widens (omega arith), sext_low from to n widens low)
      | inr high ↦
          elim (cases_lt (2 * m) (2 ^ from)) [
            | inl low ↦ omega (arith, sext_low from to m widens low, sext_high from to n widens below high)
            | inr high_too ↦ omega (arith, sext_high from to m widens (omega arith) high_too, sext_high from to n widens below high)
          ]
    ]

pub sext_sound : (from to n : ℕ) (x : Range) → IsExtension from to → Fits from x → Holds x n → HoldsWord to (sext_of from to x) (sext_number from to n)
sext_sound from to n x widths fits h =
    let high = h.1 in let below = fits.1 in (
      (sext_mono from to x.lo n widths.order h.0 (omega arith), sext_mono from to n x.hi widths.order high below),
      sext_of_fits from to x.hi,
    )
