-- The two parts of fields over pairs, and the calls on them.
use Rattle.std.specs.Prelude.{ℕ}
use Rattle.base_trait.specs.Algebra.{Algebra}
use Rattle.domain_laws.specs.Domain.{Meaning}
use Rattle.domain_laws.specs.States.{StateType}
use Rattle.fixpoint_theory.specs.Elements.{Elements}
use Rattle.fixpoint_theory.specs.Pairs.{paired as paired_elements}
use Rattle.semantics_values.specs.States.{State}
use Rattle.domain_laws.specs.Calls.{cell_calls}
use Rattle.domain_laws.specs.Cells.{cells}
use Rattle.domain_product_laws.specs.Calls.{mapped_parts}
use Rattle.domain_product_laws.specs.Domain.{pair_meaning}
use Rattle.abstract_value_laws.specs.Abs.{Parts}

module _ {V W M N : Type 0} where
  -- the first parts of fields of paired words, and the second
  abbrev pub first_parts : Parts (V × W) (M × N) → Parts V M
  first_parts = mapped_parts (λ x. x.0) (λ x. x.0)

  abbrev pub second_parts : Parts (V × W) (M × N) → Parts W N
  second_parts = mapped_parts (λ x. x.1) (λ x. x.1)

  abbrev pub both_parts : Parts (V × W) (M × N) → Parts V M × Parts W N
  both_parts xs = (first_parts xs, second_parts xs)

-- Elements of cells over two bases side by side, where maps list at most low and high cells.
module _ {V W M N C D : Type 0} (A : Algebra V M C) (B : Algebra W N D) (c : C × D) (low high cap : ℕ) (t : StateType) where
  abbrev pub pair_elements : Elements (Parts V M × Parts W N) State
  pair_elements = paired_elements (cells A c.0 low t.fields) (cells B c.1 high t.fields)

  abbrev pub pair_of_cells : Meaning (Parts V M × Parts W N) (V × W) (M × N) (C × D)
  pair_of_cells = pair_meaning A B cap (cell_calls A c.0 low t) (cell_calls B c.1 high t)
