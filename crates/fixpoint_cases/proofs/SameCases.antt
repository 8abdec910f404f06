-- Elements that are the same have cases that are the same.
use Rattle.std.proofs.Common.{◌≡◌, ℕ, zero, suc, List, [], ◌∷◌, Option, None, Some, refl}
use Rattle.base_trait.specs.Lists.{Each}
use Rattle.fixpoint_theory.specs.Elements.{Elements}
use Rattle.fixpoint_cases.specs.Cases.{IsSplit, Split, cases, cases_of, cases_of_all}
use Rattle.fixpoint_cases.specs.Laws.{SameElementsHaveSameCases}
use Rattle.fixpoint_cases.specs.Same.{AreSame, AreSameSplits, SplitsAlike}
use Rattle.fixpoint_cases.proofs.SameLists.{same_both}

-- of lists of elements that are the same
pub same_of_all : {E S : Type 0} (D : Elements E S) (later : E → List E) → ((x y : E) → D.fits x → D.fits y → D.same x y → AreSame D (later x) (later y))
    → (xs ys : List E) → Each D.fits xs → Each D.fits ys → AreSame D xs ys → AreSame D (cases_of_all later xs) (cases_of_all later ys)
same_of_all D later f [] [] fx fy h = tt
same_of_all D later f [] (y ∷ ys) fx fy h = absurd h
same_of_all D later f (x ∷ xs) [] fx fy h = absurd h
same_of_all D later f (x ∷ xs) (y ∷ ys) fx fy h =
    same_both D (later x) (later y) (cases_of_all later xs) (cases_of_all later ys) (f x y fx.0 fy.0 h.0) (same_of_all D later f xs ys fx.1 fy.1 h.1)

module _ {E S : Type 0} (D : Elements E S) (split : Split E) (is : IsSplit D split) (alike : SplitsAlike D split) (at : ℕ) where
  pub same_at : (depth : ℕ) (x y : E) → D.fits x → D.fits y → D.same x y → AreSame D (cases split depth at x) (cases split depth at y)
  same_at zero x y fx fy same = (same, tt)
  same_at (suc depth) x y fx fy same = by (split at x) (split at y) refl refl (alike at x y fx fy same) (λ z w fz fw s. same_at depth z w fz fw s)
    where
      by : (o p : Option (List E)) → split at x ≡ o → split at y ≡ p → AreSameSplits D o p
          → ((z w : E) → D.fits z → D.fits w → D.same z w → AreSame D (cases split depth at z) (cases split depth at w))
          → AreSame D (cases_of (cases split depth at) x o) (cases_of (cases split depth at) y p)
      by None None d e h later = (same, tt)
      by None (Some ys) d e h later = absurd h
      by (Some xs) None d e h later = absurd h
      by (Some xs) (Some ys) d e h later = same_of_all D (cases split depth at) later xs ys (is.pieces_fit at x xs fx d) (is.pieces_fit at y ys fy e) h

pub same_cases : {E S : Type 0} (D : Elements E S) (split : Split E) → SameElementsHaveSameCases D split
same_cases D split is alike depth at x y fx fy same = same_at D split is alike at depth x y fx fy same
