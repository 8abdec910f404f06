-- The table of a complete trace, and that stops are one.
use Rattle.std.proofs.Common.{◌≡◌, ◌∙◌, ℕ, List, [], Option, None, Some, IsTrue, ap, refl, sym, subst}
use Rattle.fixpoint_theory.specs.Analysis.{Analysis, AnalysisLaws}
use Rattle.fixpoint_theory.specs.Code.{inside, is_code, outside}
use Rattle.fixpoint_theory.specs.Outcome.{Moves, Outcome, addresses, moves, sends, too_many, undecodable}
use Rattle.fixpoint_theory.specs.WorklistState.{IsFine, IsComplete, IsLegal, IsStopped, WorklistState, Reached, begin, worklist_state}
use Rattle.fixpoint_theory.specs.Table.{IsBlockOf, IsTableOf, Listing, Listings, TableFits, Tells}
use Rattle.fixpoint_theory.proofs.Closing.{IsAnswered, begin_fine, begin_settled, legal_fine, legal_settled}
use Rattle.fixpoint_theory.proofs.One.{one_least}

module _ {E W S : Type 0} (A : Analysis E W S) where
  -- the block of an element, with what its transfer tells
  abbrev listing_of : E → Outcome E W → Listing E
  listing_of x (undecodable word) = record { elem = x; next = []; exits = []; uses = [] }
  listing_of x (too_many shown uses) = record { elem = x; next = []; exits = []; uses = [] }
  listing_of x (moves targets post uses) = record { elem = x; next = inside A.code targets; exits = outside A.code targets; uses = uses }
  listing_of x (sends arrivals uses) = record { elem = x; next = inside A.code (addresses arrivals); exits = outside A.code (addresses arrivals); uses = uses }

  abbrev block_at : ℕ → Option (Reached E) → Option (Listing E)
  block_at at None = None
  block_at at (Some r) = Some (listing_of r.elem (A.transfer at r.elem))

  -- the table of what was reached
  abbrev pub table_of : WorklistState E → Listings E
  table_of p at = block_at at (p at)

  listing_elem : (x : E) (given : Outcome E W) → (listing_of x given).elem ≡ x
  listing_elem x (undecodable word) = refl
  listing_elem x (too_many shown uses) = refl
  listing_elem x (moves targets post uses) = refl
  listing_elem x (sends arrivals uses) = refl

  listing_tells : (x : E) (given : Outcome E W) → Moves given → Tells A (listing_of x given) given
  listing_tells x (undecodable word) has = absurd has
  listing_tells x (too_many shown uses) has = absurd has
  listing_tells x (moves targets post uses) has = (refl, refl, refl)
  listing_tells x (sends arrivals uses) has = (refl, refl, refl)

  block_fits : (at : ℕ) (x : Option (Reached E)) (b : Listing E) → IsFine A at x → block_at at x ≡ Some b → IsTrue (is_code A.code at) × A.elements.fits b.elem
  block_fits at None b fine is = cc
  block_fits at (Some r) b fine is =
      let same : listing_of r.elem (A.transfer at r.elem) ≡ b = cc in
      (fine.0, subst A.elements.fits (sym (listing_elem r.elem (A.transfer at r.elem)) ∙ ap (λ (b : Listing E). b.elem) same) fine.1.0)

  -- ---- stops
  -- a complete trace does not stop
  pub no_stop : (p : WorklistState E) (at : ℕ) (given : Outcome E W) → IsComplete p → IsStopped A p at given → ⊥
  no_stop p at given complete stop =
      let calm = complete at stop.1.0 stop.1.1.stands in
      let pending = stop.1.1.pending in
      cc

  -- of a trace there is one stop
  pub one_stop : (p : WorklistState E) (at other : ℕ) (given told : Outcome E W) → IsStopped A p at given → IsStopped A p other told → (at ≡ other) × (given ≡ told)
  one_stop p at other given told h k =
      let same = one_least A p at other h.1.0 k.1.0 h.1.1 k.1.1 in
      let here = h.1.1.stands in
      let there : p at ≡ Some k.1.0 = subst (λ a. p a ≡ Some k.1.0) (sym same) k.1.1.stands in
      let one : h.1.0 ≡ k.1.0 = cc in
      let gives : A.transfer at k.1.0.elem ≡ told = subst (λ a. A.transfer a k.1.0.elem ≡ told) (sym same) k.1.2 in
      (same, sym h.1.2 ∙ ap (λ (r : Reached E). A.transfer at r.elem) one ∙ gives)

  module _ (laws : AnalysisLaws A) where
    answered_moves : (p : WorklistState E) (given : Outcome E W) → IsAnswered A laws p given → Moves given
    answered_moves p (undecodable word) answered = answered
    answered_moves p (too_many shown uses) answered = answered
    answered_moves p (moves targets post uses) answered = tt
    answered_moves p (sends arrivals uses) answered = tt

    block_is : (at : ℕ) (x : Option (Reached E)) → ((r : Reached E) → x ≡ Some r → Moves (A.transfer at r.elem)) → IsBlockOf A at (block_at at x) x
    block_is at None has = tt
    block_is at (Some r) has =
        let elem = listing_elem r.elem (A.transfer at r.elem) in (
          subst (λ x. A.elements.same x r.elem) (sym elem) (laws.elements.same_itself r.elem),
          subst (λ x. Tells A (listing_of r.elem (A.transfer at r.elem)) (A.transfer at x)) (sym elem) (listing_tells r.elem (A.transfer at r.elem) (has r refl)),
        )

    -- After a complete legal trace it is the table of the trace,
    pub is_table : (trace : List ℕ) → IsLegal A trace → IsComplete (worklist_state A trace) → IsTableOf A (table_of (worklist_state A trace)) (worklist_state A trace)
    is_table trace legal complete at =
        let p = worklist_state A trace in
        let settled = legal_settled A laws (begin A) trace (begin_fine A laws) (begin_settled A laws) legal in
        block_is at (p at) (λ r stands. answered_moves p (A.transfer at r.elem) (settled at r stands (complete at r stands)))

    -- and its elements fit.
    pub table_fits : (trace : List ℕ) → TableFits A (table_of (worklist_state A trace))
    table_fits trace at b is = block_fits at (worklist_state A trace at) b (legal_fine A laws (begin A) trace (begin_fine A laws) at) is
