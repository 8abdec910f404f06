-- Cases fit and cover the element.
use Rattle.std.proofs.Common.{◌≡◌, ℕ, zero, suc, List, [], ◌∷◌, Option, Some, None, refl, inl, inr}
use Rattle.base_trait.specs.Lists.{AreAmong, Each}
use Rattle.base_trait.proofs.Lists.{are_among_at, are_among_from}
use Rattle.base_trait.specs.declared.uses.Stamp.{Stamp}
use Rattle.fixpoint_theory.specs.Elements.{Elements}
use Rattle.fixpoint_cases.specs.Cases.{IsSplit, Split, cases, cases_of, cases_of_all}
use Rattle.fixpoint_cases.specs.Laws.{CasesCover, CasesFit, IsOfElement}
use Rattle.fixpoint_cases.specs.Lists.{OneOf}
use Rattle.fixpoint_cases.proofs.Lists.{each_both, one_left, one_right}

pub among_on : (xs ys zs : List Stamp) → AreAmong xs ys → AreAmong ys zs → AreAmong xs zs
among_on xs ys zs h k = are_among_from xs zs (λ s m. are_among_at ys zs s k (are_among_at xs ys s h m))

module _ {E S : Type 0} (D : Elements E S) (split : Split E) (is : IsSplit D split) (at : ℕ) where
  pub fit_all : (later : E → List E) (x : E) (pieces : List E) → Each D.fits pieces → Each (λ y. AreAmong (D.listed y) (D.listed x)) pieces
      → ((y : E) → D.fits y → Each (IsOfElement D y) (later y)) → Each (IsOfElement D x) (cases_of_all later pieces)
  fit_all later x [] fits lists f = tt
  fit_all later x (y ∷ ys) fits lists f = each_both (IsOfElement D x) (later y) (cases_of_all later ys) (own (later y) (f y fits.0)) (fit_all later x ys fits.1 lists.1 f)
    where
      own : (leaves : List E) → Each (IsOfElement D y) leaves → Each (IsOfElement D x) leaves
      own [] h = tt
      own (leaf ∷ leaves) h = (record { fits = h.0.fits; lists = among_on (D.listed leaf) (D.listed y) (D.listed x) h.0.lists lists.0 }, own leaves h.1)

  cases_fit_at : (depth : ℕ) (x : E) → D.fits x → Each (IsOfElement D x) (cases split depth at x)
  cases_fit_at zero x fits = (record { fits = fits; lists = are_among_from (D.listed x) (D.listed x) (λ s m. m) }, tt)
  cases_fit_at (suc depth) x fits = by (split at x) refl (λ y f. cases_fit_at depth y f)
    where
      by : (o : Option (List E)) → split at x ≡ o → ((y : E) → D.fits y → Each (IsOfElement D y) (cases split depth at y)) → Each (IsOfElement D x) (cases_of (cases split depth at) x o)
      by None e later = (record { fits = fits; lists = are_among_from (D.listed x) (D.listed x) (λ s m. m) }, tt)
      by (Some pieces) e later = fit_all (cases split depth at) x pieces (is.pieces_fit at x pieces fits e) (is.pieces_list at x pieces fits e) later

  module _ (s : S) where
    abbrev Held : E → Type 0
    Held leaf = D.fits leaf × D.holds leaf s

    cover_all : (later : E → List E) (pieces : List E) → Each D.fits pieces → OneOf (λ y. D.holds y s) pieces
        → ((y : E) → D.fits y → D.holds y s → OneOf Held (later y)) → OneOf Held (cases_of_all later pieces)
    cover_all later [] fits h f = absurd h
    cover_all later (y ∷ ys) fits (inl holds) f = one_left Held (later y) (cases_of_all later ys) (f y fits.0 holds)
    cover_all later (y ∷ ys) fits (inr h) f = one_right Held (later y) (cases_of_all later ys) (cover_all later ys fits.1 h f)

    cases_cover_at : (depth : ℕ) (x : E) → D.fits x → D.holds x s → OneOf Held (cases split depth at x)
    cases_cover_at zero x fits holds = inl (fits, holds)
    cases_cover_at (suc depth) x fits holds = by (split at x) refl (λ y f h. cases_cover_at depth y f h)
      where
        by : (o : Option (List E)) → split at x ≡ o → ((y : E) → D.fits y → D.holds y s → OneOf Held (cases split depth at y)) → OneOf Held (cases_of (cases split depth at) x o)
        by None e later = inl (fits, holds)
        by (Some pieces) e later = cover_all (cases split depth at) pieces (is.pieces_fit at x pieces fits e) (is.pieces_cover at x pieces s fits holds e) later

pub cases_fit : {E S : Type 0} (D : Elements E S) → CasesFit D
cases_fit D split is depth at x fits = cases_fit_at D split is at depth x fits

pub cases_cover : {E S : Type 0} (D : Elements E S) → CasesCover D
cases_cover D split is depth at x s fits holds = cases_cover_at D split is at s depth x fits holds

-- cases of elements that fit fit
module _ {E S : Type 0} (D : Elements E S) (split : Split E) (is : IsSplit D split) (at : ℕ) where
  only_fit : (x : E) (xs : List E) → Each (IsOfElement D x) xs → Each D.fits xs
  only_fit x [] h = tt
  only_fit x (y ∷ ys) h = (h.0.fits, only_fit x ys h.1)

  pub each_case_fits : (depth : ℕ) (x : E) → D.fits x → Each D.fits (cases split depth at x)
  each_case_fits depth x fits = only_fit x (cases split depth at x) (cases_fit_at D split is at depth x fits)

  pub all_cases_fit : (depth : ℕ) (xs : List E) → Each D.fits xs → Each D.fits (cases_of_all (cases split depth at) xs)
  all_cases_fit depth [] h = tt
  all_cases_fit depth (x ∷ xs) h = each_both D.fits (cases split depth at x) (cases_of_all (cases split depth at) xs) (each_case_fits depth x h.0) (all_cases_fit depth xs h.1)
