-- Comparisons: which truth values they may have.
use Rattle.std.proofs.Common.{ℕ, ◌≤◌}
use Rattle.word_operations.specs.declared.kinds.WordComparison.{WordComparison}
use Rattle.word_operations.specs.declared.kinds.WordComparison.TheVariants.{Eq, Ne, LtU, LeU, LtS, LeS}
use Rattle.word_operations.specs.Width.{IsWidth}
use Rattle.base_trait.specs.declared.tri.Tri.{Tri}
use Rattle.base_interval.specs.Equal.{equality, inequality, equality_exact, inequality_exact}
use Rattle.base_interval.specs.Order.{ends, signed_ends, by_order, order_exact, ends_are, signed_ends_are, SignedBelow, lt_u_spreads, le_u_spreads, lt_s_spreads, le_s_spreads}
use Rattle.base_interval.specs.Outcomes.{IsExactAt}
use Rattle.base_interval.specs.Range.{Fits}
use Rattle.base_interval.specs.declared.range.Range.{Range}

abbrev pub compared : WordComparison → ℕ → Range → Range → Tri
compared Eq w x y = equality x y
compared Ne w x y = inequality x y
compared LtU w x y = by_order LtU w (ends x) (ends y)
compared LeU w x y = by_order LeU w (ends x) (ends y)
compared LtS w x y = by_order LtS w (signed_ends w x) (signed_ends w y)
compared LeS w x y = by_order LeS w (signed_ends w x) (signed_ends w y)

-- it may have exactly the truth values that the comparison has of some two numbers
pub compared_exact : (k : WordComparison) (w : ℕ) (x y : Range) → IsWidth w → Fits w x → Fits w y → IsExactAt k w x y (compared k w x y)
compared_exact Eq w x y width fx fy = equality_exact w x y fx.0 fy.0
compared_exact Ne w x y width fx fy = inequality_exact w x y fx.0 fy.0
compared_exact LtU w x y width fx fy = order_exact (λ m n. m ≤ n) LtU w x y (ends x) (ends y) (lt_u_spreads w) (ends_are x fx.0) (ends_are y fy.0)
compared_exact LeU w x y width fx fy = order_exact (λ m n. m ≤ n) LeU w x y (ends x) (ends y) (le_u_spreads w) (ends_are x fx.0) (ends_are y fy.0)
compared_exact LtS w x y width fx fy = order_exact (SignedBelow w) LtS w x y (signed_ends w x) (signed_ends w y) (lt_s_spreads w) (signed_ends_are w x width fx) (signed_ends_are w y width fy)
compared_exact LeS w x y width fx fy = order_exact (SignedBelow w) LeS w x y (signed_ends w x) (signed_ends w y) (le_s_spreads w) (signed_ends_are w x width fx) (signed_ends_are w y width fy)
