-- There is a legal trace to an end.
use Rattle.std.proofs.Common.{◌≡◌, ℕ, zero, suc, ◌+◌, ◌<◌, ◌≤◌, Bool, true, false, List, [], ◌∷◌, Option, None, Some, IsTrue, arith, inl, inr, refl, sym, subst}
use Rattle.std.specs.Prelude.{fold, ◌⊎◌}
use Rattle.base_trait.specs.Lists.{IsAmong, IsAscendingFrom}
use Rattle.base_trait.proofs.Lists.{ascending_above}
use Rattle.fixpoint_theory.specs.Analysis.{Analysis, AnalysisLaws, IsOf}
use Rattle.fixpoint_theory.specs.Code.{is_code}
use Rattle.fixpoint_theory.specs.Outcome.{Moves, Outcome, moves, sends, too_many, undecodable}
use Rattle.fixpoint_theory.specs.WorklistState.{AllFine, IsFine, IsAtEnd, IsComplete, IsLeastPending, IsLegalFrom, WorklistState, Reached, begin, transferred}
use Rattle.fixpoint_theory.specs.Laws.{LegalTracesEnd}
use Rattle.fixpoint_theory.proofs.Bounded.{code_among}
use Rattle.fixpoint_theory.proofs.Growth.{by_bool}
use Rattle.fixpoint_theory.proofs.Closing.{begin_fine, transfer_fine}
use Rattle.fixpoint_theory.proofs.Potential.{left_in, transferred_left}

-- whether what stands at an address is pending
abbrev pub is_pending : {E : Type 0} → Option (Reached E) → Bool
is_pending None = false
is_pending (Some r) = r.pending

pending_some : {E : Type 0} (x : Option (Reached E)) → is_pending x ≡ true → (r : Reached E) × (x ≡ Some r) × (r.pending ≡ true)
pending_some None h = cc
pending_some (Some r) h = (r, refl, h)

-- the first of ascending numbers that passes a test
pub record IsFirstPassing (test : ℕ → Bool) (xs : List ℕ) (x : ℕ) : Type 0 where
  pub passes : test x ≡ true
  pub least : (y : ℕ) → IsAmong y xs → test y ≡ true → x ≤ y

first_passing : (test : ℕ → Bool) (low : ℕ) (xs : List ℕ) → IsAscendingFrom low xs
    → ((x : ℕ) → IsAmong x xs → test x ≡ false) ⊎ ((x : ℕ) × IsFirstPassing test xs x)
first_passing test low [] ascends = inl (λ x among. absurd among)
first_passing test low (x ∷ xs) ascends =
    by_bool (test x) (λ b. test x ≡ b → ((y : ℕ) → IsAmong y (x ∷ xs) → test y ≡ false) ⊎ ((y : ℕ) × IsFirstPassing test (x ∷ xs) y))
    (λ e here. inr (x, record { passes = here; least = λ y among passes. from_first y among }))
    (λ e here. later here (first_passing test (x + 1) xs ascends.1))
    refl
  where
    from_first : (y : ℕ) → IsAmong y (x ∷ xs) → x ≤ y
    from_first y (inl same) = omega (arith, same)
    from_first y (inr among) = let above = ascending_above (x + 1) y xs ascends.1 among in omega (arith, above)

    others : test x ≡ false → ((y : ℕ) → IsAmong y xs → test y ≡ false) → (y : ℕ) → IsAmong y (x ∷ xs) → test y ≡ false
    others here none y (inl same) = subst (λ z. test z ≡ false) (sym same) here
    others here none y (inr among) = none y among

    least_of : test x ≡ false → (z : ℕ) → IsFirstPassing test xs z → (y : ℕ) → IsAmong y (x ∷ xs) → test y ≡ true → z ≤ y
    least_of here z first y (inl same) passes = let calm : test y ≡ false = subst (λ z. test z ≡ false) (sym same) here in cc
    least_of here z first y (inr among) passes = first.least y among passes

    later : test x ≡ false → ((y : ℕ) → IsAmong y xs → test y ≡ false) ⊎ ((y : ℕ) × IsFirstPassing test xs y)
        → ((y : ℕ) → IsAmong y (x ∷ xs) → test y ≡ false) ⊎ ((y : ℕ) × IsFirstPassing test (x ∷ xs) y)
    later here (inl none) = inl (others here none)
    later here (inr found) = inr (found.0, record { passes = found.1.passes; least = least_of here found.0 found.1 })

moves_or_not : {E W : Type 0} (given : Outcome E W) → Moves given ⊎ (Moves given → ⊥)
moves_or_not (undecodable word) = inr (λ h. h)
moves_or_not (too_many w uses) = inr (λ h. h)
moves_or_not (moves targets post uses) = inl tt
moves_or_not (sends arrivals uses) = inl tt

module _ {E W S : Type 0} (A : Analysis E W S) (laws : AnalysisLaws A) where
  -- nothing is pending, or there is a least pending address
  least_or_none : (p : WorklistState E) → AllFine A p → IsComplete p ⊎ ((at : ℕ) × (r : Reached E) × IsLeastPending p at r)
  least_or_none p fine =
      elim (first_passing (λ a. is_pending (p a)) 0 A.code laws.code.ascends) [
        | inl none ↦ inl (λ a r is.
            let here : IsTrue (is_code A.code a) × IsOf A r.elem = subst (IsFine A a) is (fine a) in
            let calm = none a (code_among A.code a here.0) in
            subst (λ x. is_pending x ≡ false) is calm)
        | inr found ↦
            let here = pending_some (p found.0) found.1.passes in
            inr (
              found.0,
              here.0,
              record {
                stands = here.1;
                pending = here.2;
                least = λ b s is pending.
                    let there : IsTrue (is_code A.code b) × IsOf A s.elem = subst (IsFine A b) is (fine b) in
                    found.1.least b (code_among A.code b there.0) (subst (λ x. is_pending x ≡ true) (sym is) pending);
              },
            )
      ]

  abbrev Ends : WorklistState E → Type 0
  Ends p = (trace : List ℕ) × IsLegalFrom A p trace × IsAtEnd A (fold (transferred A) p trace)

  ends_after : (p : WorklistState E) (at : ℕ) (r : Reached E) → IsLeastPending p at r → Moves (A.transfer at r.elem) → Ends (transferred A p at) → Ends p
  ends_after p at r least has rest = (at ∷ rest.0, ((r, least, has), rest.1), rest.2)

  -- a worklist state ends where each later worklist state of fewer transfers to come does
  ends_if : (p : WorklistState E) → AllFine A p → ((q : WorklistState E) → AllFine A q → left_in A laws q < left_in A laws p → Ends q) → Ends p
  ends_if p fine later =
      elim (least_or_none p fine) [
        | inl complete ↦ ([], tt, inl complete)
        | inr found ↦
            let at = found.0 in
            let least = found.2 in
            elim (moves_or_not (A.transfer at found.1.elem)) [
              | inl has ↦ ends_after p at found.1 least has
                  (later (transferred A p at) (transfer_fine A laws p at (p at) fine refl) (transferred_left A laws p at found.1 fine least.stands least.pending))
              | inr none ↦ ([], tt, inr (at, A.transfer at found.1.elem, (none, (found.1, least, refl))))
            ]
      ]

  ends_within : (fuel : ℕ) (p : WorklistState E) → AllFine A p → left_in A laws p ≤ fuel → Ends p
  ends_within zero p fine low = ends_if p fine (λ q fine_q falls. absurd (omega arith))
  ends_within (suc fuel) p fine low = ends_if p fine (λ q fine_q falls. ends_within fuel q fine_q (omega arith))

  pub legal_traces_end : LegalTracesEnd A
  legal_traces_end = ends_within (left_in A laws (begin A)) (begin A) (begin_fine A laws) (omega arith)
