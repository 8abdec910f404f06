-- A split by the first of some choices of a cell and cuts that narrows the element.
use Rattle.std.specs.Prelude.{ℕ, Bool, true, not, ◌&&◌, if◌then◌else◌, List, [], ◌∷◌, Option, Some, None}
use Rattle.fixpoint_theory.specs.Elements.{Elements}
use Rattle.fixpoint_cases.specs.Cases.{Split}
use Rattle.fixpoint_cases.specs.Pieces.{Piece, pieces, split_by}

module _ {Cell E S : Type 0} (D : Elements E S) (piece : Piece Cell E) where
  -- whether none of these absorbs the element
  abbrev pub none_absorbs : List E → E → Bool
  none_absorbs [] x = true
  none_absorbs (y ∷ ys) x = not (D.absorbs y x) && none_absorbs ys x

  -- A piece that absorbs the element says no more than it, so that the others are in vain.
  abbrev pub narrows : Cell × List ℕ → E → Bool
  narrows c x = none_absorbs (pieces piece c.0 c.1 x) x

  abbrev pub first_narrowing : List (Cell × List ℕ) → E → Option (Cell × List ℕ)
  first_narrowing [] x = None
  first_narrowing (c ∷ cs) x = if narrows c x then Some c else first_narrowing cs x

  -- An element is split by the first of the choices at an address that narrows it, if one does.
  abbrev pub split_by_first : (ℕ → List (Cell × List ℕ)) → Split E
  split_by_first choices = split_by piece (λ at x. first_narrowing (choices at) x)
