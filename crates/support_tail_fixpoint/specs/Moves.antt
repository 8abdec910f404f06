-- What the rule of turns looks at.
use Rattle.std.specs.Prelude.{Bool}

-- How results and arguments of turns with arguments A and results O are joined, widened and compared.
pub record Moves (A O : Type 0) : Type 0 where
  -- the join of two results, and of two arguments
  pub join_out : O → O → O
  pub join_args : A → A → A
  -- the widening of old arguments by new ones
  pub widen_args : A → A → A
  -- whether old arguments absorb new ones
  pub absorbs : A → A → Bool
