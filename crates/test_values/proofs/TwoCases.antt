-- A value of two constructors fits where the fields of each do.
use Rattle.std.specs.Prelude.{◌≡◌, ℕ, IfOk, IsOkAnd, List, [], ◌∷◌, ◌++◌, Option, Some, None, Result, Ok, Err, map}
use Rattle.std.proofs.Common.{sym, subst}
use Rattle.base_trait.specs.Algebra.{Algebra}
use Rattle.abstract_value_laws.specs.Abs.{Parts, Cases, case_onto, cases}
use Rattle.abstract_value_laws.specs.Fits.{CaseFits, CasesFit}

module _ {W N C : Type 0} (B : Algebra W N C) (c : C) (cap : ℕ) where
  onto_fits : (x : Option (Parts W N)) (cs : Cases W N) → CaseFits B c cap x → CasesFit B c cap cs → CasesFit B c cap (case_onto x cs)
  onto_fits None cs h k = k
  onto_fits (Some xs) cs h k = (h, k)

  module _ {E R V : Type 0} (fields : R → Option V) (seen : Option V → Option (Parts W N)) where
    pub two_fit : (first second : Result R E) (before between behind : List (Option V)) → before ≡ []
        → IfOk first (λ r. CaseFits B c cap (seen (fields r))) → IsOkAnd first (λ r. between ≡ before ++ fields r ∷ [])
        → IfOk second (λ r. CaseFits B c cap (seen (fields r))) → IsOkAnd second (λ r. behind ≡ between ++ fields r ∷ [])
        → CasesFit B c cap (cases (map seen behind))
    two_fit (Ok r) (Ok s) before between behind none h p k q =
        subst (λ z. CasesFit B c cap (cases (map seen z))) (sym q)
        (subst (λ z. CasesFit B c cap (cases (map seen (z ++ fields s ∷ [])))) (sym p)
        (subst (λ z. CasesFit B c cap (cases (map seen ((z ++ fields r ∷ []) ++ fields s ∷ [])))) (sym none)
        (onto_fits (seen (fields r)) (cases (seen (fields s) ∷ [])) h (onto_fits (seen (fields s)) (cases []) k tt))))
    two_fit (Ok r) (Err e) before between behind none h p k q = elim q [ ]
    two_fit (Err e) second before between behind none h p k q = elim p [ ]
