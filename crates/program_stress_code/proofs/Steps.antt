-- Words and bytes, one after another.
use Rattle.std.proofs.Common.{◌≡◌, ◌∙◌, ℕ, zero, suc, ◌+◌, ◌-◌, ◌*◌, ◌<◌, List, [], ◌∷◌, length, ap, arith, refl}
use Rattle.std.specs.Int.{to_be_bytes, w32}
use Rattle.std.specs.List.{flat_map}
use Rattle.std.proofs.lemmas.List.{length-append}
use Rattle.program_stress_code.specs.Words.{code_bytes, next_state, state_after, word_at, words, words_from}

-- one word more
pub words_step : (number count i : ℕ) → i < count → words_from number count i (count - i) ≡ word_at number count i ∷ words_from number count (i + 1) (count - (i + 1))
words_step number count i h =
    let left : count - i ≡ suc (count - (i + 1)) = omega (arith, h) in
    ap (words_from number count i) left

pub words_length : (number count i n : ℕ) → length (words_from number count i n) ≡ n
words_length number count i zero = refl
words_length number count i (suc n) = ap suc (words_length number count (i + 1) n)

-- four for each word
bytes_length : (words : List ℕ) → length (flat_map (to_be_bytes w32) words) ≡ 4 * length words
bytes_length [] = refl
bytes_length (w ∷ words) = let four = length-append (to_be_bytes w32 w) (flat_map (to_be_bytes w32) words) in let rest = bytes_length words in omega (arith, four, rest)

pub code_length : (number count : ℕ) → length (code_bytes number count) ≡ 4 * count
code_length number count = bytes_length (words number count) ∙ ap (λ n. 4 * n) (words_length number count 0 count)

pub state_step : (number i : ℕ) → state_after number (i + 1) ≡ next_state (state_after number i)
state_step number i = let next : i + 1 ≡ suc i = omega arith in ap (state_after number) next
