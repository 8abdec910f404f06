-- The numbers that a word describes.
use Rattle.std.specs.Prelude.{ℕ, zero, suc, ◌+◌, ◌^◌, ◌==◌, List, [], ◌∷◌, ◌++◌, map, if◌then◌else◌, count_ones}
use Rattle.std.specs.Int.{bit_at}
use Rattle.base_bits.specs.declared.known.Known.{Known}

-- the numbers whose bits are among the lowest w of m, ascending
abbrev pub choices : ℕ → ℕ → List ℕ
choices zero m = 0 ∷ []
choices (suc i) m = if bit_at m i == 1 then choices i m ++ map (λ n. n + 2 ^ i) (choices i m) else choices i m

-- the known bits with each choice of the unknown ones
abbrev pub members_of : ℕ → Known → List ℕ
members_of w x = map (λ n. x.v + n) (choices w x.m)

-- 2 to the number of unknown bits
abbrev pub size_of : Known → ℕ
size_of x = 2 ^ count_ones x.m
