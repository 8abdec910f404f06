-- The joins of leaves.
use Rattle.std.specs.Prelude.{List, Option, None, Some, fold}
use Rattle.support_tail_fixpoint.specs.Moves.{Moves}

-- the join of leaves, either of which may be missing
abbrev pub join_leaves : {A O : Type 0} → Moves A O → Option O → Option O → Option O
join_leaves m None y = y
join_leaves m (Some x) None = Some x
join_leaves m (Some x) (Some y) = Some (m.join_out x y)

-- the join of the leaves of turns, in their order
abbrev pub all_leaves : {A O : Type 0} → Moves A O → List (Option O) → Option O
all_leaves m outs = fold (join_leaves m) None outs

-- A result is part of itself, and of each join of two results that fit where it is part of one of them.
pub data IsPart {A O : Type 0} (m : Moves A O) (Fits : O → Type 0) (x : O) : O → Type 0 where
  itself : IsPart m Fits x x
  left : (y z : O) → Fits y → Fits z → IsPart m Fits x y → IsPart m Fits x (m.join_out y z)
  right : (y z : O) → Fits y → Fits z → IsPart m Fits x z → IsPart m Fits x (m.join_out y z)
