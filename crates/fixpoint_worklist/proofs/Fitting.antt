-- Arrivals and transfers keep what fits.
use Rattle.std.proofs.Common.{◌≡◌, ℕ, true, false, List, [], ◌∷◌, Option, None, Some, IsTrue, nat_lt, if◌then◌else◌, sym, subst}
use Rattle.std.specs.Prelude.{fold}
use Rattle.base_trait.specs.Lists.{Each}
use Rattle.fixpoint_theory.specs.Analysis.{Analysis, AnalysisLaws}
use Rattle.fixpoint_theory.specs.Code.{is_code}
use Rattle.fixpoint_theory.specs.WorklistState.{AllFine, IsFine, WorklistState, Reached, arrive, arrive_as_sent, arrival, arrived, changed, done, grown}
use Rattle.fixpoint_theory.proofs.Growth.{by_bool, by_change}
use Rattle.fixpoint_worklist.specs.Fitting.{AllFit, IsFit}

module _ {E W S : Type 0} (A : Analysis E W S) (laws : AnalysisLaws A) where
  fit_if_fine_at : (a : ℕ) (x : Option (Reached E)) → IsFine A a x → IsFit A a x
  fit_if_fine_at a None fine = tt
  fit_if_fine_at a (Some r) fine = (fine.0, fine.1.0)

  pub fit_if_fine : (p : WorklistState E) → AllFine A p → AllFit A p
  fit_if_fine p fine a = fit_if_fine_at a (p a) (fine a)

  grown_fits : (changes : ℕ) (old new : E) → A.elements.fits old → A.elements.fits new → A.elements.fits (grown A changes old new)
  grown_fits changes old new fits_old fits_new =
      elim (nat_lt changes A.joins) as (λ b. A.elements.fits (if b then A.elements.join old new else A.elements.widen old new))
      [ true ↦ laws.elements.join_fits old new fits_old fits_new | false ↦ laws.elements.widen_fits old new fits_old fits_new ]

  arrived_fit : (a : ℕ) (new : E) (x : Option (Reached E)) → IsTrue (is_code A.code a) → A.elements.fits new → IsFit A a x → IsFit A a (arrived A new x)
  arrived_fit a new None code fits fit = (code, fits)
  arrived_fit a new (Some r) code fits fit =
      by_bool (A.elements.absorbs r.elem new) (λ b. IsFit A a (Some (arrival A b new r)))
      (λ e. fit)
      (λ e. (code, grown_fits r.changes r.elem new fit.1 fits))

  pub arrive_fit : (new : E) (p : WorklistState E) (at : ℕ) → A.elements.fits new → AllFit A p → AllFit A (arrive A new p at)
  arrive_fit new p at fits fit a =
      by_bool (is_code A.code at) (λ b. IsFit A a ((if b then changed at (arrived A new) p else p) a))
      (λ code. by_change at (arrived A new) p a (IsFit A a)
      (λ here. arrived_fit a new (p a) (subst (λ at. IsTrue (is_code A.code at)) (sym here) code) fits (fit a))
      (λ apart. fit a))
      (λ other. fit a)

  pub all_fit : (new : E) (targets : List ℕ) (p : WorklistState E) → A.elements.fits new → AllFit A p → AllFit A (fold (arrive A new) p targets)
  all_fit new [] p fits fit = fit
  all_fit new (to ∷ rest) p fits fit = all_fit new rest (arrive A new p to) fits (arrive_fit new p to fits fit)

  pub each_fit : (arrivals : List (ℕ × E)) (p : WorklistState E) → Each (λ a. A.elements.fits a.1) arrivals → AllFit A p → AllFit A (arrive_as_sent A arrivals p)
  each_fit [] p fits fit = fit
  each_fit (a ∷ rest) p fits fit = each_fit rest (arrive A a.1 p a.0) fits.1 (arrive_fit a.1 p a.0 fits.0 fit)

  done_fit : (a : ℕ) (x : Option (Reached E)) → IsFit A a x → IsFit A a (done x)
  done_fit a None fit = fit
  done_fit a (Some r) fit = fit

  pub one_done_fit : (at : ℕ) (p : WorklistState E) → AllFit A p → AllFit A (changed at done p)
  one_done_fit at p fit a = by_change at done p a (IsFit A a) (λ here. done_fit a (p a) (fit a)) (λ apart. fit a)

  -- what stands at an address
  pub fit_at : (p : WorklistState E) (a : ℕ) (r : Reached E) → AllFit A p → p a ≡ Some r → IsTrue (is_code A.code a) × A.elements.fits r.elem
  fit_at p a r fit is = subst (IsFit A a) is (fit a)
