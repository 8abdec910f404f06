-- How what stands at the addresses grows.
use Rattle.std.proofs.Common.{◌≡◌, ◌≢◌, ◌∙◌, ℕ, ◌==◌, Bool, true, false, List, [], ◌∷◌, Option, None, Some, IsTrue, nat_lt, if◌then◌else◌, inl, inr, refl, sym, subst}
use Rattle.std.specs.Prelude.{fold, IsSomeAnd}
use Rattle.std.proofs.lemmas.Bool.Decides.{eqb_tells}
use Rattle.base_trait.specs.Lists.{Each}
use Rattle.fixpoint_theory.specs.Analysis.{Analysis, AnalysisLaws, IsOf}
use Rattle.fixpoint_theory.specs.Code.{is_code}
use Rattle.fixpoint_theory.proofs.Bounded.{absorbs_itself, absorbs_on, join_absorbs, join_of, widen_absorbs, widen_of}
use Rattle.fixpoint_theory.specs.WorklistState.{AllFine, IsFine, WorklistState, Reached, arrive, arrive_as_sent, arrival, arrived, changed, grown}

-- at a test whose value is told
pub by_bool : (b : Bool) (P : Bool → Type 0) → (b ≡ true → P true) → (b ≡ false → P false) → P b
by_bool true P yes_case no_case = yes_case refl
by_bool false P yes_case no_case = no_case refl

-- at two numbers that are compared
pub by_same : (a b : ℕ) (P : Bool → Type 0) → (a ≡ b → P true) → (a ≢ b → P false) → P (a == b)
by_same a b P here apart =
    elim (eqb_tells a b) [ inl h ↦ subst P (sym h.0) (here h.1) | inr h ↦ subst P (sym h.0) (apart h.1) ]

-- What holds at an address of what stood there and of its change holds after a change at any.
pub by_change : {E : Type 0} (at : ℕ) (f : Option (Reached E) → Option (Reached E)) (p : WorklistState E) (a : ℕ) (P : Option (Reached E) → Type 0)
    → (a ≡ at → P (f (p a))) → (a ≢ at → P (p a)) → P (changed at f p a)
by_change at f p a P here apart = by_same a at (λ b. P (if b then f (p a) else p a)) here apart

module _ {E W S : Type 0} (A : Analysis E W S) (laws : AnalysisLaws A) where
  -- What stands at an address absorbs what stood there, and where it is not pending it is the same.
  abbrev pub IsGrown : Option (Reached E) → Option (Reached E) → Type 0
  IsGrown None None = Unit {0}
  IsGrown None (Some r) = r.pending ≡ false → ⊥
  IsGrown (Some r) None = ⊥
  IsGrown (Some r) (Some s) = IsTrue (A.elements.absorbs s.elem r.elem) × (s.pending ≡ false → s ≡ r)

  abbrev pub AllGrown : WorklistState E → WorklistState E → Type 0
  AllGrown p q = (a : ℕ) → IsGrown (p a) (q a)

  pub grown_itself : (a : ℕ) (x : Option (Reached E)) → IsFine A a x → IsGrown x x
  grown_itself a None fine = tt
  grown_itself a (Some r) fine = (absorbs_itself A laws r.elem fine.1, λ h. refl)

  pub grown_on : (a : ℕ) (x y z : Option (Reached E)) → IsFine A a x → IsFine A a y → IsFine A a z → IsGrown x y → IsGrown y z → IsGrown x z
  grown_on a None None None fx fy fz g h = tt
  grown_on a None None (Some t) fx fy fz g h = h
  grown_on a None (Some s) None fx fy fz g h = absurd h
  grown_on a None (Some s) (Some t) fx fy fz g h = λ still. g (subst (λ (r : Reached E). r.pending ≡ false) (h.1 still) still)
  grown_on a (Some r) None z fx fy fz g h = absurd g
  grown_on a (Some r) (Some s) None fx fy fz g h = absurd h
  grown_on a (Some r) (Some s) (Some t) fx fy fz g h = (
    absorbs_on A laws t.elem s.elem r.elem fz.1 fy.1 fx.1 h.0 g.0,
    λ still. h.1 still ∙ g.1 (subst (λ (r : Reached E). r.pending ≡ false) (h.1 still) still),
  )

  -- ---- an arrival
  grown_fits : (changes : ℕ) (old new : E) → IsOf A old → IsOf A new → IsOf A (grown A changes old new)
  grown_fits changes old new fits_old fits_new =
      elim (nat_lt changes A.joins) as (λ b. IsOf A (if b then A.elements.join old new else A.elements.widen old new))
      [ true ↦ join_of A laws old new fits_old fits_new | false ↦ widen_of A laws old new fits_old fits_new ]

  grown_absorbs : (changes : ℕ) (old new : E) → IsOf A old → IsOf A new
      → IsTrue (A.elements.absorbs (grown A changes old new) old) × IsTrue (A.elements.absorbs (grown A changes old new) new)
  grown_absorbs changes old new fits_old fits_new =
      elim (nat_lt changes A.joins) as (λ b. IsTrue (A.elements.absorbs (if b then A.elements.join old new else A.elements.widen old new) old)
      × IsTrue (A.elements.absorbs (if b then A.elements.join old new else A.elements.widen old new) new))
      [ true ↦ join_absorbs A laws old new fits_old fits_new | false ↦ widen_absorbs A laws old new fits_old fits_new ]

  pub arrived_fine : (a : ℕ) (new : E) (x : Option (Reached E)) → IsTrue (is_code A.code a) → IsOf A new → IsFine A a x → IsFine A a (arrived A new x)
  arrived_fine a new None code fits fine = (code, fits)
  arrived_fine a new (Some r) code fits fine =
      by_bool (A.elements.absorbs r.elem new) (λ b. IsFine A a (Some (arrival A b new r)))
      (λ e. fine)
      (λ e. (code, grown_fits r.changes r.elem new fine.1 fits))

  pub arrived_grown : (a : ℕ) (new : E) (x : Option (Reached E)) → IsOf A new → IsFine A a x → IsGrown x (arrived A new x)
  arrived_grown a new None fits fine = λ still. cc
  arrived_grown a new (Some r) fits fine =
      by_bool (A.elements.absorbs r.elem new) (λ b. IsGrown (Some r) (Some (arrival A b new r)))
      (λ e. grown_itself a (Some r) fine)
      (λ e. ((grown_absorbs r.changes r.elem new fine.1 fits).0, λ still. cc))

  -- What stands at an address absorbs this element.
  abbrev pub IsMet : E → Option (Reached E) → Type 0
  IsMet new x = IsSomeAnd x (λ r. IsTrue (A.elements.absorbs r.elem new))

  pub arrived_met : (a : ℕ) (new : E) (x : Option (Reached E)) → IsOf A new → IsFine A a x → IsMet new (arrived A new x)
  arrived_met a new None fits fine = absorbs_itself A laws new fits
  arrived_met a new (Some r) fits fine =
      by_bool (A.elements.absorbs r.elem new) (λ b. IsMet new (Some (arrival A b new r)))
      (λ e. e)
      (λ e. (grown_absorbs r.changes r.elem new fine.1 fits).1)

  -- what was met stays met
  pub stays_met : (a : ℕ) (new : E) (x y : Option (Reached E)) → IsOf A new → IsFine A a x → IsFine A a y → IsGrown x y → IsMet new x → IsMet new y
  stays_met a new None y fits fx fy g met = absurd met
  stays_met a new (Some r) None fits fx fy g met = absurd g
  stays_met a new (Some r) (Some s) fits fx fy g met = absorbs_on A laws s.elem r.elem new fy.1 fx.1 fits g.0 met

  -- ---- an arrival at an address
  pub arrive_fine : (new : E) (p : WorklistState E) (at : ℕ) → IsOf A new → AllFine A p → AllFine A (arrive A new p at)
  arrive_fine new p at fits fine a =
      by_bool (is_code A.code at) (λ b. IsFine A a ((if b then changed at (arrived A new) p else p) a))
      (λ code. by_change at (arrived A new) p a (IsFine A a)
      (λ here. arrived_fine a new (p a) (subst (λ at. IsTrue (is_code A.code at)) (sym here) code) fits (fine a))
      (λ apart. fine a))
      (λ other. fine a)

  pub arrive_grown : (new : E) (p : WorklistState E) (at : ℕ) → IsOf A new → AllFine A p → AllGrown p (arrive A new p at)
  arrive_grown new p at fits fine a =
      by_bool (is_code A.code at) (λ b. IsGrown (p a) ((if b then changed at (arrived A new) p else p) a))
      (λ code. by_change at (arrived A new) p a (IsGrown (p a))
      (λ here. arrived_grown a new (p a) fits (fine a))
      (λ apart. grown_itself a (p a) (fine a)))
      (λ other. grown_itself a (p a) (fine a))

  pub arrive_met : (new : E) (p : WorklistState E) (at : ℕ) → IsOf A new → AllFine A p → IsTrue (is_code A.code at) → IsMet new (arrive A new p at at)
  arrive_met new p at fits fine code =
      by_bool (is_code A.code at) (λ b. IsMet new ((if b then changed at (arrived A new) p else p) at))
      (λ code. by_change at (arrived A new) p at (IsMet new) (λ here. arrived_met at new (p at) fits (fine at)) (λ apart. absurd (apart refl)))
      (λ other. cc)

  -- ---- arrivals at all targets
  pub all_fine : (new : E) (targets : List ℕ) (p : WorklistState E) → IsOf A new → AllFine A p → AllFine A (fold (arrive A new) p targets)
  all_fine new [] p fits fine = fine
  all_fine new (to ∷ rest) p fits fine = all_fine new rest (arrive A new p to) fits (arrive_fine new p to fits fine)

  pub all_grown : (new : E) (targets : List ℕ) (p : WorklistState E) → IsOf A new → AllFine A p → AllGrown p (fold (arrive A new) p targets)
  all_grown new [] p fits fine a = grown_itself a (p a) (fine a)
  all_grown new (to ∷ rest) p fits fine a =
      let next = arrive_fine new p to fits fine in
      grown_on a (p a) (arrive A new p to a) (fold (arrive A new) (arrive A new p to) rest a)
      (fine a) (next a) (all_fine new rest (arrive A new p to) fits next a)
      (arrive_grown new p to fits fine a)
      (all_grown new rest (arrive A new p to) fits next a)

  pub all_met : (new : E) (targets : List ℕ) (p : WorklistState E) → IsOf A new → AllFine A p
      → Each (λ to. IsTrue (is_code A.code to) → IsMet new (fold (arrive A new) p targets to)) targets
  all_met new [] p fits fine = tt
  all_met new (to ∷ rest) p fits fine =
      let next = arrive_fine new p to fits fine in
      let q = fold (arrive A new) (arrive A new p to) rest in (
        λ code. stays_met to new (arrive A new p to to) (q to) fits (next to) (all_fine new rest (arrive A new p to) fits next to)
            (all_grown new rest (arrive A new p to) fits next to)
            (arrive_met new p to fits fine code),
        all_met new rest (arrive A new p to) fits next,
      )

  -- ---- arrivals of what cases send
  pub sent_fine : (arrivals : List (ℕ × E)) (p : WorklistState E) → Each (λ a. IsOf A a.1) arrivals → AllFine A p → AllFine A (arrive_as_sent A arrivals p)
  sent_fine [] p fits fine = fine
  sent_fine (a ∷ rest) p fits fine = sent_fine rest (arrive A a.1 p a.0) fits.1 (arrive_fine a.1 p a.0 fits.0 fine)

  pub sent_grown : (arrivals : List (ℕ × E)) (p : WorklistState E) → Each (λ a. IsOf A a.1) arrivals → AllFine A p → AllGrown p (arrive_as_sent A arrivals p)
  sent_grown [] p fits fine a = grown_itself a (p a) (fine a)
  sent_grown (x ∷ rest) p fits fine a =
      let q = arrive A x.1 p x.0 in
      let next = arrive_fine x.1 p x.0 fits.0 fine in
      grown_on a (p a) (q a) (arrive_as_sent A rest q a)
      (fine a) (next a) (sent_fine rest q fits.1 next a)
      (arrive_grown x.1 p x.0 fits.0 fine a)
      (sent_grown rest q fits.1 next a)

  pub sent_met : (arrivals : List (ℕ × E)) (p : WorklistState E) → Each (λ a. IsOf A a.1) arrivals → AllFine A p
      → Each (λ a. IsTrue (is_code A.code a.0) → IsMet a.1 (arrive_as_sent A arrivals p a.0)) arrivals
  sent_met [] p fits fine = tt
  sent_met (x ∷ rest) p fits fine =
      let to = x.0 in
      let r = arrive A x.1 p to in
      let next = arrive_fine x.1 p to fits.0 fine in
      let q = arrive_as_sent A rest r in (
        λ code. stays_met to x.1 (r to) (q to) fits.0 (next to) (sent_fine rest r fits.1 next to)
            (sent_grown rest r fits.1 next to)
            (arrive_met x.1 p to fits.0 fine code),
        sent_met rest r fits.1 next,
      )
