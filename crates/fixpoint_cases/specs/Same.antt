-- Lists of elements that are the same one by one, and ways to split that tell no such two apart.
use Rattle.std.specs.Prelude.{ℕ, List, [], ◌∷◌, Option, Some, None, ⊤}
use Rattle.fixpoint_theory.specs.Elements.{Elements}
use Rattle.fixpoint_cases.specs.Cases.{Split}
use Rattle.fixpoint_cases.specs.Pieces.{Piece}

module _ {E S : Type 0} (D : Elements E S) where
  -- as many elements, and each the same as the other at its place
  abbrev pub AreSame : List E → List E → Type 0
  AreSame [] [] = ⊤
  AreSame (x ∷ xs) (y ∷ ys) = D.same x y × AreSame xs ys
  AreSame _ _ = ⊥

  -- both are not split, or into pieces that are the same
  abbrev pub AreSameSplits : Option (List E) → Option (List E) → Type 0
  AreSameSplits None None = ⊤
  AreSameSplits (Some xs) (Some ys) = AreSame xs ys
  AreSameSplits _ _ = ⊥

  -- Elements that are the same are split alike.
  abbrev pub SplitsAlike : Split E → Type 0
  SplitsAlike split = (at : ℕ) (x y : E) → D.fits x → D.fits y → D.same x y → AreSameSplits (split at x) (split at y)

  -- ---- pieces
  -- both are there and the same, or neither is
  abbrev pub IsSamePiece : Option E → Option E → Type 0
  IsSamePiece None None = ⊤
  IsSamePiece (Some x) (Some y) = D.same x y
  IsSamePiece _ _ = ⊥

  -- Elements that are the same have the same pieces.
  abbrev pub HaveSamePieces : {Cell : Type 0} → Piece Cell E → Type 0
  HaveSamePieces {Cell} piece = (cell : Cell) (low high : ℕ) (x y : E) → D.fits x → D.fits y → D.same x y → IsSamePiece (piece cell low high x) (piece cell low high y)
