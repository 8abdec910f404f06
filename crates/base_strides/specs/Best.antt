-- What results are among all words: the least ones.
use Rattle.std.specs.Prelude.{ℕ, ◌≤◌, List, length, IsTrue, ◌↔◌, ◌⊎◌}
use Rattle.base_kset.specs.Best.{IsImage, IsProduct}
use Rattle.base_strides.specs.Meaning.{Stands, Fits, on_one, on_two, absorbs_word, join_of}
use Rattle.base_strides.specs.Words.{Word, Listed}
use Rattle.base_strides.specs.declared.stretch.Stretch.{Stretch}

-- the word has each number that P holds of, and no other word of w bits that has them lacks one of its numbers
pub record IsLeast (w : ℕ) (P : ℕ → Type 0) (x : Word) : Type 0 where
  pub has : (n : ℕ) → P n → Stands x n
  pub least : (z : Word) → Fits w z → ((n : ℕ) → P n → Stands z n) → (n : ℕ) → Stands x n → Stands z n

-- Operations and casts of sets give the least word that has all results.
abbrev pub LeastResults : Type 0
LeastResults =
    ((w : ℕ) (f : ℕ → ℕ) (row : Stretch → Stretch) (s : List ℕ) → 1 ≤ length s → IsLeast w (IsImage f s) (on_one f row (Listed s)))
    × ((w : ℕ) (f : ℕ → ℕ → ℕ) (row : Stretch → Stretch → Stretch) (s t : List ℕ) → 1 ≤ length s → 1 ≤ length t
    → IsLeast w (IsProduct f s t) (on_two f row (Listed s) (Listed t)))

-- One word absorbs another exactly where it has each of its numbers.
abbrev pub ExactAbsorption : Type 0
ExactAbsorption = (w : ℕ) (x y : Word) → Fits w x → Fits w y → IsTrue (absorbs_word x y) ↔ ((n : ℕ) → Stands y n → Stands x n)

-- A join is the least word that has the numbers of both sides.
abbrev pub LeastJoins : Type 0
LeastJoins = (w : ℕ) (x y : Word) → Fits w x → Fits w y → IsLeast w (λ n. Stands x n ⊎ Stands y n) (join_of x y)
