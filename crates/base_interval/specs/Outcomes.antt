-- What is best of a comparison.
use Rattle.std.specs.Prelude.{◌≡◌, ℕ, Bool, IsTrue, ◌↔◌}
use Rattle.word_operations.specs.declared.kinds.WordComparison.{WordComparison}
use Rattle.word_operations.specs.Cmp.{cmp_of}
use Rattle.base_trait.specs.Algebra.{can_be}
use Rattle.base_trait.specs.declared.tri.Tri.{Tri}
use Rattle.base_interval.specs.Range.{Holds}
use Rattle.base_interval.specs.declared.range.Range.{Range}

-- of some two numbers that the intervals hold the comparison has this truth value
abbrev pub SomeCompare : WordComparison → ℕ → Range → Range → Bool → Type 0
SomeCompare k w x y b = (m : ℕ) × (n : ℕ) × Holds x m × Holds y n × (cmp_of k w m n ≡ b)

-- the flag may be a truth value exactly where the comparison has it of some two numbers
abbrev pub IsExactAt : WordComparison → ℕ → Range → Range → Tri → Type 0
IsExactAt k w x y t = (b : Bool) → IsTrue (can_be t b) ↔ SomeCompare k w x y b
