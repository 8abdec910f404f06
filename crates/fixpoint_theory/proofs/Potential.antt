-- How many transfers are still to come, at most.
use Rattle.std.proofs.Common.{◌≡◌, ℕ, ◌+◌, ◌-◌, ◌*◌, ◌<◌, ◌≤◌, true, false, List, [], ◌∷◌, Option, None, Some, IsTrue, nat_lt, if◌then◌else◌, length, arith, refl, sym, subst, inl, inr}
use Rattle.std.specs.Prelude.{fold}
use Rattle.std.proofs.lemmas.Bool.Decides.{nat_tests}
use Rattle.base_trait.specs.Lists.{Each, IsAmong}
use Rattle.fixpoint_theory.specs.Analysis.{Analysis, AnalysisLaws, IsOf, height_of}
use Rattle.fixpoint_theory.specs.Code.{is_code}
use Rattle.fixpoint_theory.specs.Outcome.{IfPost, Outcome, moves, sends, too_many, undecodable}
use Rattle.fixpoint_theory.specs.WorklistState.{AllFine, IsFine, IsLegalFrom, WorklistState, Reached, arrive, arrive_as_sent, arrival, arrived, begin, changed, done, grown, sent, transferred, transferred_from}
use Rattle.fixpoint_theory.specs.Laws.{LegalTracesAreShort}
use Rattle.fixpoint_theory.proofs.Bounded.{code_among, join_of, rank_height, rank_of, transfer_of, widen_falls}
use Rattle.fixpoint_theory.proofs.Growth.{arrive_fine, by_bool, by_change}
use Rattle.fixpoint_theory.proofs.Closing.{begin_fine, one_done_fine, transfer_fine}

-- the sum of the numbers at these addresses
abbrev pub sum_at : (ℕ → ℕ) → List ℕ → ℕ
sum_at f [] = 0
sum_at f (a ∷ rest) = f a + sum_at f rest

pub sum_le : (f g : ℕ → ℕ) (code : List ℕ) → ((a : ℕ) → f a ≤ g a) → sum_at f code ≤ sum_at g code
sum_le f g [] h = omega arith
sum_le f g (a ∷ rest) h = let more = sum_le f g rest h in let here = h a in omega arith

pub sum_lt : (f g : ℕ → ℕ) (code : List ℕ) (at : ℕ) → ((a : ℕ) → f a ≤ g a) → IsAmong at code → f at < g at → sum_at f code < sum_at g code
sum_lt f g [] at h among strict = absurd among
sum_lt f g (a ∷ rest) at h (inl e) strict =
    let more = sum_le f g rest h in
    let here : f a < g a = subst (λ a. f a < g a) e strict in
    omega arith
sum_lt f g (a ∷ rest) at h (inr among) strict = let more = sum_lt f g rest at h among strict in let here = h a in omega arith

pub sum_most : (f : ℕ → ℕ) (most : ℕ) (code : List ℕ) → ((a : ℕ) → f a ≤ most) → sum_at f code ≤ length code * most
sum_most f most [] h = omega arith
sum_most f most (a ∷ rest) h = let more = sum_most f most rest h in let here = h a in omega arith

module _ {E W S : Type 0} (A : Analysis E W S) (laws : AnalysisLaws A) where
  -- how often an element may still change: before the widening, and then by its rank
  abbrev pub changes_left : ℕ → E → ℕ
  changes_left changes x = if nat_lt changes A.joins then (A.joins - changes) + height_of A else rank_of A laws x

  -- how many transfers at an address are still to come, at most
  abbrev pub left_at : Option (Reached E) → ℕ
  left_at None = height_of A + A.joins + 1
  left_at (Some r) = (if r.pending then 1 else 0) + changes_left r.changes r.elem

  abbrev pub left_in : WorklistState E → ℕ
  left_in p = sum_at (λ a. left_at (p a)) A.code

  grown_left : (changes : ℕ) (old new : E) → IsOf A old → IsOf A new → A.elements.absorbs old new ≡ false
      → changes_left (changes + 1) (grown A changes old new) < changes_left changes old
  grown_left changes old new fits_old fits_new apart =
      let falls = widen_falls A laws old new fits_old fits_new apart in
      let low = rank_height A laws (A.elements.join old new) (join_of A laws old new fits_old fits_new) in
      grind (arith, nat_tests)

  arrived_left : (a : ℕ) (new : E) (x : Option (Reached E)) → IsOf A new → IsFine A a x → left_at (arrived A new x) ≤ left_at x
  arrived_left a new None fits fine = let low = rank_height A laws new fits in grind (arith, nat_tests)
  arrived_left a new (Some r) fits fine =
      by_bool (A.elements.absorbs r.elem new) (λ b. left_at (Some (arrival A b new r)) ≤ left_at (Some r))
      (λ e. omega arith)
      (λ e. let falls = grown_left r.changes r.elem new fine.1 fits e in grind arith)

  left_most : (a : ℕ) (x : Option (Reached E)) → IsFine A a x → left_at x ≤ height_of A + A.joins + 1
  left_most a None fine = omega arith
  left_most a (Some r) fine = let low = rank_height A laws r.elem fine.1 in grind (arith, nat_tests)

  arrive_left : (new : E) (p : WorklistState E) (at : ℕ) → IsOf A new → AllFine A p → (a : ℕ) → left_at (arrive A new p at a) ≤ left_at (p a)
  arrive_left new p at fits fine a =
      by_bool (is_code A.code at) (λ b. left_at ((if b then changed at (arrived A new) p else p) a) ≤ left_at (p a))
      (λ code. by_change at (arrived A new) p a (λ x. left_at x ≤ left_at (p a)) (λ here. arrived_left a new (p a) fits (fine a)) (λ apart. omega arith))
      (λ other. omega arith)

  all_left : (new : E) (targets : List ℕ) (p : WorklistState E) → IsOf A new → AllFine A p → (a : ℕ) → left_at (fold (arrive A new) p targets a) ≤ left_at (p a)
  all_left new [] p fits fine a = omega arith
  all_left new (to ∷ rest) p fits fine a =
      let one = arrive_left new p to fits fine a in
      let more = all_left new rest (arrive A new p to) fits (arrive_fine A laws new p to fits fine) a in
      omega (arith, one, more)

  each_left : (arrivals : List (ℕ × E)) (p : WorklistState E) → Each (λ a. IsOf A a.1) arrivals → AllFine A p → (a : ℕ) → left_at (arrive_as_sent A arrivals p a) ≤ left_at (p a)
  each_left [] p fits fine a = omega arith
  each_left (x ∷ rest) p fits fine a =
      let one = arrive_left x.1 p x.0 fits.0 fine a in
      let more = each_left rest (arrive A x.1 p x.0) fits.1 (arrive_fine A laws x.1 p x.0 fits.0 fine) a in
      omega (arith, one, more)

  sent_left : (given : Outcome E W) (p : WorklistState E) → IfPost (IsOf A) given → AllFine A p → (a : ℕ) → left_at (sent A given p a) ≤ left_at (p a)
  sent_left (undecodable word) p fits fine a = omega arith
  sent_left (too_many shown uses) p fits fine a = omega arith
  sent_left (moves targets None uses) p fits fine a = omega arith
  sent_left (moves targets (Some x) uses) p fits fine a = all_left x targets p fits fine a
  sent_left (sends arrivals uses) p fits fine a = each_left arrivals p fits fine a

  done_left : (x : Option (Reached E)) → left_at (done x) ≤ left_at x
  done_left None = omega arith
  done_left (Some r) = grind arith

  done_pending : (r : Reached E) → r.pending ≡ true → left_at (done (Some r)) < left_at (Some r)
  done_pending r pending = grind arith

  one_done_left : (at : ℕ) (p : WorklistState E) (a : ℕ) → left_at (changed at done p a) ≤ left_at (p a)
  one_done_left at p a = by_change at done p a (λ x. left_at x ≤ left_at (p a)) (λ here. done_left (p a)) (λ apart. omega arith)

  -- A transfer at a pending address leaves fewer.
  pub transfer_left : (p : WorklistState E) (at : ℕ) (r : Reached E) → AllFine A p → p at ≡ Some r → r.pending ≡ true
      → left_in (transferred_from A (Some r) p at) < left_in p
  transfer_left p at r fine is pending =
      let here : IsTrue (is_code A.code at) × IsOf A r.elem = subst (IsFine A at) is (fine at) in
      let given = A.transfer at r.elem in
      let mid = changed at done p in
      let q = sent A given mid in
      let post = transfer_of A laws at r.elem here.0 here.1 in
      let sent_falls = sent_left given mid post (one_done_fine A laws at p fine) in
      let falls : (a : ℕ) → left_at (q a) ≤ left_at (p a) = λ a. let x = sent_falls a in let y = one_done_left at p a in omega (arith, x, y) in
      let strict : left_at (q at) < left_at (p at) =
      let x = sent_falls at in
      let y : left_at (mid at) < left_at (p at) =
      by_change at done p at (λ x. left_at x < left_at (p at))
      (λ here. subst (λ x. left_at (done x) < left_at x) (sym is) (done_pending r pending)) (λ apart. absurd (apart refl)) in
      omega (arith, x, y) in
      sum_lt (λ a. left_at (q a)) (λ a. left_at (p a)) A.code at falls (code_among A.code at here.0) strict

  pub transferred_left : (p : WorklistState E) (at : ℕ) (r : Reached E) → AllFine A p → p at ≡ Some r → r.pending ≡ true
      → left_in (transferred A p at) < left_in p
  transferred_left p at r fine is pending = subst (λ x. left_in (transferred_from A x p at) < left_in p) (sym is) (transfer_left p at r fine is pending)

  pub legal_left : (p : WorklistState E) (trace : List ℕ) → AllFine A p → IsLegalFrom A p trace → length trace + left_in (fold (transferred A) p trace) ≤ left_in p
  legal_left p [] fine legal = omega arith
  legal_left p (at ∷ rest) fine legal =
      let one = transferred_left p at legal.0.0 fine legal.0.1.stands legal.0.1.pending in
      let more = legal_left (transferred A p at) rest (transfer_fine A laws p at (p at) fine refl) legal.1 in
      omega (arith, one, more)

  pub begin_left : left_in (begin A) ≤ length A.code * (height_of A + A.joins + 1)
  begin_left = sum_most (λ a. left_at (begin A a)) (height_of A + A.joins + 1) A.code (λ a. left_most a (begin A a) (begin_fine A laws a))

  pub legal_traces_are_short : LegalTracesAreShort A
  legal_traces_are_short trace legal =
      let most = legal_left (begin A) trace (begin_fine A laws) legal in
      let first = begin_left in
      omega (arith, most, first)
