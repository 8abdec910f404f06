-- Cases of a transfer: an element is split into pieces, these are split again, to a depth.
use Rattle.std.specs.Prelude.{◌≡◌, ℕ, zero, suc, List, [], ◌∷◌, ◌++◌, Option, Some, None}
use Rattle.base_trait.specs.Lists.{AreAmong, Each}
use Rattle.fixpoint_theory.specs.Elements.{Elements}
use Rattle.fixpoint_cases.specs.Lists.{OneOf}

-- How elements are split: at an address, into pieces, or not at all.
abbrev pub Split : Type 0 → Type 0
Split E = ℕ → E → Option (List E)

module _ {E : Type 0} where
  -- the cases of each piece, one after the other
  abbrev pub cases_of_all : (E → List E) → List E → List E
  cases_of_all cases [] = []
  cases_of_all cases (x ∷ xs) = cases x ++ cases_of_all cases xs

  -- an element that is not split is its one case
  abbrev pub cases_of : (E → List E) → E → Option (List E) → List E
  cases_of cases x None = x ∷ []
  cases_of cases x (Some pieces) = cases_of_all cases pieces

  -- the cases of an element at an address, split at most so many times over
  abbrev pub cases : Split E → ℕ → ℕ → E → List E
  cases split zero at x = x ∷ []
  cases split (suc depth) at x = cases_of (cases split depth at) x (split at x)

-- Splitting loses no state: each state of an element is one of a piece. Pieces of an element that fits fit, and list no stamp that it
-- does not. Which elements are split, and where, is free.
pub record IsSplit {E S : Type 0} (D : Elements E S) (split : Split E) : Type 0 where
  pub pieces_fit : (at : ℕ) (x : E) (pieces : List E) → D.fits x → split at x ≡ Some pieces → Each D.fits pieces
  pub pieces_list : (at : ℕ) (x : E) (pieces : List E) → D.fits x → split at x ≡ Some pieces → Each (λ y. AreAmong (D.listed y) (D.listed x)) pieces
  pub pieces_cover : (at : ℕ) (x : E) (pieces : List E) (s : S) → D.fits x → D.holds x s → split at x ≡ Some pieces → OneOf (λ y. D.holds y s) pieces
