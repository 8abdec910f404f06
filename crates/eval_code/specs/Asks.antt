-- Which functions a tail asks for.
use Rattle.std.specs.Prelude.{◌≡◌, ⊤, ℕ, ◌<◌}
use Rattle.eval_code.specs.Code.{Tail, Tails, End, tail, slot, again, either, pick, no_tail, tail_then}

-- n functions are there, and `group` is the group of one
module _ (n : ℕ) (group : ℕ → ℕ) (g : ℕ) where
  abbrev mutual
    -- Each call that a tail ends in is of a function that is there, of group g.
    pub AsksWithin : Tail → Type 0
    AsksWithin (tail ns e) = EndAsksWithin e

    pub EndAsksWithin : End → Type 0
    EndAsksWithin (slot s) = ⊤
    EndAsksWithin (again f args) = (f < n) × (group f ≡ g)
    EndAsksWithin (either k x y) = AsksWithin x × AsksWithin y
    EndAsksWithin (pick x by arms) = AllAskWithin arms

    pub AllAskWithin : Tails → Type 0
    AllAskWithin no_tail = ⊤
    AllAskWithin (tail_then x rest) = AsksWithin x × AllAskWithin rest
