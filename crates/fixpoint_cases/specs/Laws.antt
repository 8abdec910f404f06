-- Laws of cases, over any analysis.
use Rattle.std.specs.Prelude.{◌≡◌, ℕ, ◌<◌, ◌^◌, List, ◌⊎◌, Option, None}
use Rattle.base_trait.specs.Lists.{AreAmong, Each}
use Rattle.base_trait.specs.Uses.{Seen}
use Rattle.fixpoint_theory.specs.Analysis.{Analysis, AnalysisLaws}
use Rattle.fixpoint_theory.specs.Elements.{ElementLaws, Elements}
use Rattle.fixpoint_theory.specs.Pairs.{paired}
use Rattle.fixpoint_theory.specs.Runs.{IsSound, Machine}
use Rattle.semantics_values.specs.declared.entry.KeyAt.{KeyAt}
use Rattle.fixpoint_cases.specs.ByCases.{MergeLaws, by_cases, case_transfer}
use Rattle.fixpoint_cases.specs.Narrowing.{split_by_first}
use Rattle.fixpoint_cases.specs.Pieces.{Piece, PieceLaws, PiecesCover, pair_piece, split_by, whole_piece}
use Rattle.fixpoint_cases.specs.Cases.{IsSplit, Split, cases}
use Rattle.fixpoint_cases.specs.Lists.{OneOf}
use Rattle.fixpoint_cases.specs.Same.{AreSame, HaveSamePieces, SplitsAlike}

module _ {E S : Type 0} (D : Elements E S) where
  -- a case of an element
  pub record IsOfElement (x leaf : E) : Type 0 where
    pub fits : D.fits leaf
    pub lists : AreAmong (D.listed leaf) (D.listed x)

  -- Cases of an element that fits fit, and list no stamp that it does not.
  abbrev pub CasesFit : Type 0
  CasesFit = (split : Split E) → IsSplit D split → (depth at : ℕ) (x : E) → D.fits x → Each (IsOfElement x) (cases split depth at x)

  -- Each state of an element is one of a case.
  abbrev pub CasesCover : Type 0
  CasesCover = (split : Split E) → IsSplit D split → (depth at : ℕ) (x : E) (s : S) → D.fits x → D.holds x s → OneOf (λ leaf. D.fits leaf × D.holds leaf s) (cases split depth at x)

-- Cells of a state: a field, and a key of a map.
module _ {E S : Type 0} (D : Elements E S) where
  -- By any cuts the pieces of an element cover it, and whichever cells and cuts are chosen, elements are split by them.
  abbrev pub ChoicesSplit : Type 0
  ChoicesSplit =
      (number : ℕ × KeyAt → S → ℕ) (piece : Piece (ℕ × KeyAt) E) → PieceLaws D number piece → PiecesCover D piece × ((choice : ℕ → E → Option ((ℕ × KeyAt) × List ℕ)) → IsSplit D (split_by piece choice))

-- Where the choices depend on the address alone, elements that are the same are split alike by the first that narrows them.
abbrev pub FirstChoicesSplitAlike : {E S : Type 0} → Elements E S → Type 0
FirstChoicesSplitAlike {E} {S} D =
    (number : ℕ × KeyAt → S → ℕ) (piece : Piece (ℕ × KeyAt) E) (choices : ℕ → List ((ℕ × KeyAt) × List ℕ)) → ElementLaws D → PieceLaws D number piece → HaveSamePieces D piece
    → SplitsAlike D (split_by_first D piece choices)

-- Elements may stay uncut, and pairs are cut as their parts are.
module _ {E F S : Type 0} (D : Elements E S) (G : Elements F S) where
  abbrev pub PairsAreCut : Type 0
  PairsAreCut =
      (number : ℕ × KeyAt → S → ℕ) (first : Piece (ℕ × KeyAt) E) (second : Piece (ℕ × KeyAt) F) → PieceLaws D number first → PieceLaws G number second
      → PieceLaws (paired D G) number (pair_piece first second)

  abbrev pub PairsHaveSamePieces : Type 0
  PairsHaveSamePieces = (first : Piece (ℕ × KeyAt) E) (second : Piece (ℕ × KeyAt) F) → HaveSamePieces D first → HaveSamePieces G second → HaveSamePieces (paired D G) (pair_piece first second)

abbrev pub ElementsMayStayUncut : {E S : Type 0} → Elements E S → Type 0
ElementsMayStayUncut {E} {S} D = (number : ℕ × KeyAt → S → ℕ) → ((cell : ℕ × KeyAt) (s : S) → number cell s < 2 ^ 64) → PieceLaws D number whole_piece

module _ {E W S : Type 0} (A : Analysis E W S) where
  -- An analysis by cases keeps the laws of an analysis, where elements that are the same are split alike.
  abbrev pub AnalysesByCasesKeepTheLaws : Type 0
  AnalysesByCasesKeepTheLaws =
      (split : Split E) (merge : List Seen → List Seen) (depth : ℕ) → AnalysisLaws A → IsSplit A.elements split → SplitsAlike A.elements split → MergeLaws merge
      → AnalysisLaws (by_cases A split merge depth)

  -- Of an element that is not split, and at depth 0 of each, the transfer by cases is the transfer.
  abbrev pub UnsplitElementsMoveAsBefore : Type 0
  UnsplitElementsMoveAsBefore =
      (split : Split E) (merge : List Seen → List Seen) (depth at : ℕ) (x : E) → (depth ≡ 0) ⊎ (split at x ≡ None) → case_transfer A split merge depth at x ≡ A.transfer at x

module _ {E W S : Type 0} (A : Analysis E W S) (M : Machine S) where
  -- An analysis by cases is sound for each machine for which the analysis is, whatever is split.
  abbrev pub AnalysesByCasesAreSound : Type 0
  AnalysesByCasesAreSound =
      (split : Split E) (merge : List Seen → List Seen) (depth : ℕ) → AnalysisLaws A → IsSplit A.elements split → MergeLaws merge → IsSound A M
      → IsSound (by_cases A split merge depth) M

-- Elements that are the same have cases that are the same.
abbrev pub SameElementsHaveSameCases : {E S : Type 0} → Elements E S → Split E → Type 0
SameElementsHaveSameCases {E} D split =
    IsSplit D split → SplitsAlike D split → (depth at : ℕ) (x y : E) → D.fits x → D.fits y → D.same x y → AreSame D (cases split depth at x) (cases split depth at y)
