-- Where an element goes among those that arrive.
use Rattle.std.specs.Prelude.{ℕ, set, slice_index_or, List, Result, Ok, Err}
use Rattle.std.specs.List.{insert}
use Rattle.fixpoint_theory.specs.Elements.{Elements}

-- an element that joins what arrives at a place
abbrev pub joined : {E S : Type 0} → Elements E S → ℕ × E → ℕ × E → ℕ × E
joined D x y = (y.0, D.join y.1 x.1)

-- the elements with one more: it joins the one at a place, or it goes before a place
abbrev pub put_at : {E S : Type 0} → Elements E S → ℕ × E → List (ℕ × E) → Result ℕ ℕ → List (ℕ × E)
put_at D x ys (Ok i) = set ys i (joined D x (slice_index_or ys i x))
put_at D x ys (Err i) = insert ys i x
