-- There is one legal trace to an end.
use Rattle.std.proofs.Common.{◌≡◌, ℕ, List, [], ◌∷◌, Some, arith, inl, inr, refl, sym, subst}
use Rattle.std.specs.Prelude.{fold}
use Rattle.fixpoint_theory.specs.Analysis.{Analysis}
use Rattle.fixpoint_theory.specs.Outcome.{Moves}
use Rattle.fixpoint_theory.specs.WorklistState.{IsAtEnd, IsLeastPending, IsLegalFrom, WorklistState, Reached, begin, transferred}
use Rattle.fixpoint_theory.specs.Laws.{LegalTracesAreOne}

module _ {E W S : Type 0} (A : Analysis E W S) where
  -- one address is the least pending one
  pub one_least : (p : WorklistState E) (x y : ℕ) (r s : Reached E) → IsLeastPending p x r → IsLeastPending p y s → x ≡ y
  one_least p x y r s h k =
      let a = h.least y s k.stands k.pending in
      let b = k.least x r h.stands h.pending in
      omega (arith, a, b)

  -- at an end no transfer is legal
  ends_here : (p : WorklistState E) (at : ℕ) (r : Reached E) → IsAtEnd A p → IsLeastPending p at r → Moves (A.transfer at r.elem) → ⊥
  ends_here p at r end least has =
      elim end [
        | inl complete ↦ let calm = complete at r least.stands in let pending = least.pending in cc
        | inr stop ↦
            let other = stop.2.1 in
            let same = one_least p at stop.0 r other.0 least other.1 in
            let here : p at ≡ Some other.0 = subst (λ a. p a ≡ Some other.0) (sym same) other.1.stands in
            let there = least.stands in
            let one : r ≡ other.0 = cc in
            let given : A.transfer at r.elem ≡ stop.1 = subst (λ (s : Reached E). A.transfer at s.elem ≡ stop.1) (sym one) (subst (λ a. A.transfer a other.0.elem ≡ stop.1) (sym same) other.2) in
            stop.2.0 (subst Moves given has)
      ]

  legal_one : (p : WorklistState E) (xs ys : List ℕ) → IsLegalFrom A p xs → IsAtEnd A (fold (transferred A) p xs) → IsLegalFrom A p ys → IsAtEnd A (fold (transferred A) p ys) → xs ≡ ys
  legal_one p [] [] lx ex ly ey = refl
  legal_one p [] (y ∷ ys) lx ex ly ey = absurd (ends_here p y ly.0.0 ex ly.0.1 ly.0.2)
  legal_one p (x ∷ xs) [] lx ex ly ey = absurd (ends_here p x lx.0.0 ey lx.0.1 lx.0.2)
  legal_one p (x ∷ xs) (y ∷ ys) lx ex ly ey =
      let same = one_least p x y lx.0.0 ly.0.0 lx.0.1 ly.0.1 in
      let rest = legal_one (transferred A p x) xs ys lx.1 ex
      (subst (λ a. IsLegalFrom A (transferred A p a) ys) (sym same) ly.1)
      (subst (λ a. IsAtEnd A (fold (transferred A) (transferred A p a) ys)) (sym same) ey) in
      cc

  pub legal_traces_are_one : LegalTracesAreOne A
  legal_traces_are_one xs ys lx ex ly ey = legal_one (begin A) xs ys lx ex ly ey
