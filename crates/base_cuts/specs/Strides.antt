-- How sets of at most 16 numbers and strided intervals are cut.
use Rattle.std.specs.Prelude.{ℕ, ◌+◌, ◌-◌, ◌*◌, ◌/◌, min, List, [], ◌∷◌, Option, Some, None, option_map, nat_le, if◌then◌else◌}
use Rattle.base_strides.specs.Meaning.{of_stretch}
use Rattle.base_strides.specs.Stretch.{stretch}
use Rattle.base_strides.specs.Words.{Word, Listed, Strided}
use Rattle.base_strides.specs.declared.stretch.Stretch.{Stretch}
use Rattle.base_cuts.specs.Cuts.{Cuts}
use Rattle.base_cuts.specs.Sets.{numbers_between}

-- the least multiple of the step that is at least n
abbrev pub rounded_up : ℕ → ℕ → ℕ
rounded_up n step = (n + (step - 1)) / step * step

-- the first number of the class of a stretch that is at least n and at least the low end
abbrev pub first_from : Stretch → ℕ → ℕ
first_from x n = x.lo + rounded_up (n - x.lo) x.step

-- the word of these numbers, if there is one
abbrev pub listed_if_any : List ℕ → Option Word
listed_if_any [] = None
listed_if_any (n ∷ s) = Some (Listed (n ∷ s))

-- the stretch that is left between two numbers, if it has a number
abbrev pub stretch_left : Stretch → ℕ → ℕ → Option Stretch
stretch_left x low high = if nat_le (first_from x low) (min x.hi high) then Some (stretch (first_from x low) x.step (min x.hi high)) else None

abbrev pub stretch_meet : Stretch → ℕ → ℕ → Option Word
stretch_meet x low high = option_map of_stretch (stretch_left x low high)

abbrev pub word_meet : Word → ℕ → ℕ → Option Word
word_meet (Listed s) low high = listed_if_any (numbers_between low high s)
word_meet (Strided x) low high = stretch_meet x low high

-- The context is the list of stops.
abbrev pub stride_cuts : Cuts Word (List ℕ)
stride_cuts = record { meet = λ c w x low high. word_meet x low high }
