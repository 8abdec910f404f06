-- Pieces of an element by numbers at which one of its cells is cut.
use Rattle.std.specs.Prelude.{ℕ, ◌-◌, ◌^◌, ◌<◌, ◌≤◌, List, [], ◌∷◌, Option, Some, None, IfSome, IsSomeAnd, option_map}
use Rattle.base_trait.specs.Lists.{AreAmong}
use Rattle.fixpoint_theory.specs.Elements.{Elements}
use Rattle.fixpoint_cases.specs.Cases.{Split}
use Rattle.fixpoint_cases.specs.Lists.{OneOf, if_there}

-- what is left of an element where a cell lies between two numbers, or nothing
abbrev pub Piece : Type 0 → Type 0 → Type 0
Piece Cell E = Cell → ℕ → ℕ → E → Option E

-- The stretches of numbers, from low on, that cuts make: each goes to the number before the next cut, the last to the greatest number of 64 bits.
abbrev pub stretches : ℕ → List ℕ → List (ℕ × ℕ)
stretches low [] = (low, 2 ^ 64 - 1) ∷ []
stretches low (cut ∷ cuts) = (low, cut - 1) ∷ stretches cut cuts

module _ {Cell E : Type 0} (piece : Piece Cell E) where
  -- the pieces of these stretches that are there
  abbrev pub pieces_at : Cell → List (ℕ × ℕ) → E → List E
  pieces_at cell [] x = []
  pieces_at cell (r ∷ rs) x = if_there (piece cell r.0 r.1 x) (pieces_at cell rs x)

  -- all pieces by these cuts
  abbrev pub pieces : Cell → List ℕ → E → List E
  pieces cell cuts x = pieces_at cell (stretches 0 cuts) x

  -- An element is split by the cell and the cuts that are chosen for it, if some are.
  abbrev pub split_by : (ℕ → E → Option (Cell × List ℕ)) → Split E
  split_by choice at x = option_map (λ c. pieces c.0 c.1 x) (choice at x)

-- In each state a cell has a number of at most 64 bits. Where an element holds of a state, so does each of its pieces between numbers around that.
-- Pieces fit, and list no stamp that the element does not.
pub record PieceLaws {Cell E S : Type 0} (D : Elements E S) (number : Cell → S → ℕ) (piece : Piece Cell E) : Type 0 where
  pub number_fits : (cell : Cell) (s : S) → number cell s < 2 ^ 64
  pub piece_fits : (cell : Cell) (low high : ℕ) (x : E) → D.fits x → IfSome (piece cell low high x) D.fits
  pub piece_lists : (cell : Cell) (low high : ℕ) (x : E) → D.fits x → IfSome (piece cell low high x) (λ y. AreAmong (D.listed y) (D.listed x))
  pub piece_holds : (cell : Cell) (low high : ℕ) (x : E) (s : S) → D.fits x → D.holds x s → low ≤ number cell s → number cell s ≤ high
      → IsSomeAnd (piece cell low high x) (λ y. D.holds y s)

-- By any cuts pieces cover the element.
abbrev pub PiecesCover : {Cell E S : Type 0} → Elements E S → Piece Cell E → Type 0
PiecesCover {Cell} {E} {S} D piece = (cell : Cell) (cuts : List ℕ) (x : E) (s : S) → D.fits x → D.holds x s → OneOf (λ y. D.holds y s) (pieces piece cell cuts x)

-- ---- kinds of elements

-- elements that are never cut
abbrev pub whole_piece : {Cell E : Type 0} → Piece Cell E
whole_piece cell low high x = Some x

-- both, if both are there
abbrev pub both_there : {E F : Type 0} → Option E → Option F → Option (E × F)
both_there (Some x) (Some y) = Some (x, y)
both_there _ _ = None

-- pairs are cut as their parts are, at the same cell
abbrev pub pair_piece : {Cell E F : Type 0} → Piece Cell E → Piece Cell F → Piece Cell (E × F)
pair_piece first second cell low high x = both_there (first cell low high x.0) (second cell low high x.1)
