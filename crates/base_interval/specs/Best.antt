-- What is best of the results.
use Rattle.std.specs.Prelude.{◌≡◌, ℕ, ◌-◌, ◌%◌, ◌^◌, ◌<◌, ◌≤◌}
use Rattle.word_operations.specs.declared.kinds.WordComparison.{WordComparison}
use Rattle.word_operations.specs.declared.kinds.UnaryOperation.{UnaryOperation}
use Rattle.word_operations.specs.declared.kinds.BinaryOperation.TheVariants.{Add, Sub}
use Rattle.word_operations.specs.Casts.{zext_of as zext_number, sext_of as sext_number, trunc_of as trunc_number}
use Rattle.word_operations.specs.Op1.{op1_of}
use Rattle.word_operations.specs.Op2.{op2_of}
use Rattle.word_operations.specs.Width.{IsWidth}
use Rattle.base_trait.specs.Laws.{IsExtension}
use Rattle.base_interval.specs.Compare.{compared}
use Rattle.base_interval.specs.Ones.{ones_over}
use Rattle.base_interval.specs.Operations.{op1_range, op2_range}
use Rattle.base_interval.specs.Outcomes.{IsExactAt}
use Rattle.base_interval.specs.Range.{Holds, Fits, IsWithin}
use Rattle.base_interval.specs.Sext.{sext_of}
use Rattle.base_interval.specs.Trunc.{trunc_of}
use Rattle.base_interval.specs.Wrapped.{wrapped}
use Rattle.base_interval.specs.Zext.{zext_of}
use Rattle.base_interval.specs.declared.range.Range.{Range}

-- the interval holds the numbers that P holds of, and lies inside each other that does
pub record IsLeast (P : ℕ → Type 0) (x : Range) : Type 0 where
  pub has : (n : ℕ) → P n → Holds x n
  pub least : (y : Range) → ((n : ℕ) → P n → Holds y n) → IsWithin y x

-- what f gives of some number, and of some two
abbrev pub IsImage : (ℕ → ℕ) → Range → ℕ → Type 0
IsImage f x r = (n : ℕ) × Holds x n × (r ≡ f n)

abbrev pub IsProduct : (ℕ → ℕ → ℕ) → Range → Range → ℕ → Type 0
IsProduct f x y r = (m : ℕ) × (n : ℕ) × Holds x m × Holds y n × (r ≡ f m n)

-- Negations, complements, sums and differences give the least interval of the results.
abbrev pub LeastResults : Type 0
LeastResults =
    (w : ℕ) (x y : Range) → IsWidth w → Fits w x → Fits w y
    → ((op : UnaryOperation) → IsLeast (IsImage (op1_of op w) x) (op1_range op w x))
    × IsLeast (IsProduct (op2_of Add w) x y) (op2_range Add w x y)
    × IsLeast (IsProduct (op2_of Sub w) x y) (op2_range Sub w x y)

-- So do casts.
abbrev pub LeastCasts : Type 0
LeastCasts =
    (narrow wide : ℕ) (x : Range) → IsExtension narrow wide
    → (Fits narrow x → IsLeast (IsImage (zext_number narrow wide) x) (zext_of x))
    × (Fits narrow x → IsLeast (IsImage (sext_number narrow wide) x) (sext_of narrow wide x))
    × (Fits wide x → IsLeast (IsImage (trunc_number wide narrow) x) (trunc_of narrow x))

-- A comparison may have a truth value exactly where it has it of some two numbers.
abbrev pub ExactComparisons : Type 0
ExactComparisons = (k : WordComparison) (w : ℕ) (x y : Range) → IsWidth w → Fits w x → Fits w y → IsExactAt k w x y (compared k w x y)

-- The words of successive whole numbers give the least interval of them.
abbrev pub LeastWrapped : Type 0
LeastWrapped =
    (w low high : ℕ) → low ≤ high → IsLeast (λ r. (n : ℕ) × (low ≤ n) × (n ≤ high) × (r ≡ n % 2 ^ w)) (wrapped w low high)

-- No number of ones that is at least n is less.
abbrev pub LeastOnes : Type 0
LeastOnes =
    (w n : ℕ) → n < 2 ^ w
    → ((i : ℕ) × (ones_over w n ≡ 2 ^ i - 1)) × (n ≤ ones_over w n)
    × ((j : ℕ) → n ≤ 2 ^ j - 1 → ones_over w n ≤ 2 ^ j - 1)
