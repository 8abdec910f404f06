-- Elements that are the same have pieces that are the same.
use Rattle.std.proofs.Common.{◌≡◌, ℕ, List, [], ◌∷◌, Option, Some, None, ap₂, refl, subst}
use Rattle.std.specs.Prelude.{not, ◌&&◌, if◌then◌else◌}
use Rattle.base_trait.specs.Lists.{Each}
use Rattle.fixpoint_theory.specs.Elements.{ElementLaws, Elements}
use Rattle.fixpoint_theory.specs.Pairs.{paired}
use Rattle.fixpoint_cases.specs.Laws.{FirstChoicesSplitAlike, PairsHaveSamePieces}
use Rattle.fixpoint_cases.specs.Lists.{if_there}
use Rattle.fixpoint_cases.specs.Narrowing.{first_narrowing, none_absorbs, split_by_first}
use Rattle.fixpoint_cases.specs.Pieces.{Piece, PieceLaws, both_there, pieces_at, split_by, stretches}
use Rattle.fixpoint_cases.specs.Same.{AreSame, AreSameSplits, HaveSamePieces, IsSamePiece, SplitsAlike}
use Rattle.fixpoint_cases.proofs.Pieces.{each_piece}

module _ {E S : Type 0} (D : Elements E S) where
  same_there : (o p : Option E) (xs ys : List E) → IsSamePiece D o p → AreSame D xs ys → AreSame D (if_there o xs) (if_there p ys)
  same_there None None xs ys h k = k
  same_there None (Some y) xs ys h k = absurd h
  same_there (Some x) None xs ys h k = absurd h
  same_there (Some x) (Some y) xs ys h k = (h, k)

  module _ {Cell : Type 0} (piece : Piece Cell E) (alike : HaveSamePieces D piece) where
    same_pieces : (cell : Cell) (rs : List (ℕ × ℕ)) (x y : E) → D.fits x → D.fits y → D.same x y → AreSame D (pieces_at piece cell rs x) (pieces_at piece cell rs y)
    same_pieces cell [] x y fx fy same = tt
    same_pieces cell (r ∷ rs) x y fx fy same =
        same_there (piece cell r.0 r.1 x) (piece cell r.0 r.1 y) (pieces_at piece cell rs x) (pieces_at piece cell rs y) (alike cell r.0 r.1 x y fx fy same) (same_pieces cell rs x y fx fy same)

    same_chosen : (at : ℕ) (chosen : Option (Cell × List ℕ)) (x y : E) → D.fits x → D.fits y → D.same x y
        → AreSameSplits D (split_by piece (λ a z. chosen) at x) (split_by piece (λ a z. chosen) at y)
    same_chosen at None x y fx fy same = tt
    same_chosen at (Some c) x y fx fy same = same_pieces c.0 (stretches 0 c.1) x y fx fy same

-- lists of elements that are the same absorb alike
pub absorb_alike : {E S Cell : Type 0} (D : Elements E S) (laws : ElementLaws D) (piece : Piece Cell E) (xs ys : List E) (x y : E) → Each D.fits xs → Each D.fits ys → D.fits x → D.fits y → AreSame D xs ys → D.same x y
    → none_absorbs D piece xs x ≡ none_absorbs D piece ys y
absorb_alike D laws piece [] [] x y fxs fys fx fy h same = refl
absorb_alike D laws piece [] (w ∷ ys) x y fxs fys fx fy h same = absurd h
absorb_alike D laws piece (z ∷ xs) [] x y fxs fys fx fy h same = absurd h
absorb_alike D laws piece (z ∷ xs) (w ∷ ys) x y fxs fys fx fy h same =
    ap₂ (λ a b. not a && b) (laws.same_absorbs z w x y fxs.0 fys.0 fx fy h.0 same) (absorb_alike D laws piece xs ys x y fxs.1 fys.1 fx fy h.1 same)

module _ {E S Cell : Type 0} (D : Elements E S) (laws : ElementLaws D) (number : Cell → S → ℕ) (piece : Piece Cell E) (cut : PieceLaws D number piece) (alike : HaveSamePieces D piece) where
  pieces_fit : (cell : Cell) (rs : List (ℕ × ℕ)) (x : E) → D.fits x → Each D.fits (pieces_at piece cell rs x)
  pieces_fit cell rs x fx = each_piece D number piece cut D.fits cell x rs (λ low high. cut.piece_fits cell low high x fx)

  same_first : (cs : List (Cell × List ℕ)) (x y : E) → D.fits x → D.fits y → D.same x y → first_narrowing D piece cs x ≡ first_narrowing D piece cs y
  same_first [] x y fx fy same = refl
  same_first (c ∷ cs) x y fx fy same =
      let rs = stretches 0 c.1 in
      ap₂ (λ b o. if b then Some c else o)
      (absorb_alike D laws piece (pieces_at piece c.0 rs x) (pieces_at piece c.0 rs y) x y (pieces_fit c.0 rs x fx) (pieces_fit c.0 rs y fy) fx fy (same_pieces D piece alike c.0 rs x y fx fy same) same)
      (same_first cs x y fx fy same)

  pub same_by_first : (choices : ℕ → List (Cell × List ℕ)) → SplitsAlike D (split_by_first D piece choices)
  same_by_first choices at x y fx fy same =
      let chosen = first_narrowing D piece (choices at) in
      subst (λ o. AreSameSplits D (split_by piece (λ a z. chosen x) at x) (split_by piece (λ a z. o) at y)) (same_first (choices at) x y fx fy same)
      (same_chosen D piece alike at (chosen x) x y fx fy same)

pub first_choices_split_alike : {E S : Type 0} (D : Elements E S) → FirstChoicesSplitAlike D
first_choices_split_alike D number piece choices laws cut alike = same_by_first D laws number piece cut alike choices

module _ {E F S : Type 0} (D : Elements E S) (G : Elements F S) where
  same_both : (o p : Option E) (q r : Option F) → IsSamePiece D o p → IsSamePiece G q r → IsSamePiece (paired D G) (both_there o q) (both_there p r)
  same_both None None q r h k = tt
  same_both None (Some y) q r h k = absurd h
  same_both (Some x) None q r h k = absurd h
  same_both (Some x) (Some y) None None h k = tt
  same_both (Some x) (Some y) None (Some w) h k = absurd k
  same_both (Some x) (Some y) (Some z) None h k = absurd k
  same_both (Some x) (Some y) (Some z) (Some w) h k = (h, k)

  pub pairs_have_same_pieces : PairsHaveSamePieces D G
  pairs_have_same_pieces first second h k cell low high x y fx fy same =
      same_both (first cell low high x.0) (first cell low high y.0) (second cell low high x.1) (second cell low high y.1)
      (h cell low high x.0 y.0 fx.0 fy.0 same.0) (k cell low high x.1 y.1 fx.1 fy.1 same.1)
