-- Legal traces that grow.
use Rattle.std.proofs.Common.{◌≡◌, ◌∙◌, ℕ, ◌+◌, ◌*◌, ◌≤◌, List, [], ◌∷◌, ◌++◌, length, Option, None, Some, arith, refl, sym, subst}
use Rattle.std.specs.Prelude.{IsSomeAnd, fold}
use Rattle.base_trait.specs.Uses.{Seen}
use Rattle.fixpoint_theory.specs.Analysis.{Analysis, AnalysisLaws, height_of}
use Rattle.fixpoint_theory.specs.Outcome.{Moves, Outcome, SameOutcome, moves, sends, too_many, undecodable}
use Rattle.fixpoint_theory.specs.WorklistState.{IsComplete, IsLeastPending, IsLegal, IsLegalFrom, IsStopped, WorklistState, Reached, begin, worklist_state, transferred}
use Rattle.fixpoint_theory.proofs.Closing.{begin_fine, legal_fine}
use Rattle.fixpoint_theory.proofs.Potential.{begin_left, legal_left, transferred_left}
use Rattle.fixpoint_worklist.specs.Fitting.{AllFit}
use Rattle.fixpoint_worklist.specs.Likeness.{AllLike, IsLike, IsLikeReached}
use Rattle.fixpoint_worklist.proofs.Fitting.{fit_at, fit_if_fine}
use Rattle.fixpoint_worklist.proofs.Likeness.{like_back, like_on, transferred_like}

-- a transfer that is the same has targets too
pub has_too : {E W S : Type 0} (A : Analysis E W S) (given told : Outcome E W) → SameOutcome A.elements given told → Moves given → Moves told
has_too A (moves ts y us) (moves ts' z us') same has = tt
has_too A (undecodable v) told same has = absurd has
has_too A (too_many v us) told same has = absurd has
has_too A (moves ts y us) (undecodable w) same has = same
has_too A (moves ts y us) (too_many w us') same has = same
has_too A (moves ts y us) (sends xs us') same has = absurd same
has_too A (sends xs us) (undecodable w) same has = same
has_too A (sends xs us) (too_many w us') same has = same
has_too A (sends xs us) (moves ts y us') same has = absurd same
has_too A (sends xs us) (sends ys us') same has = tt

same_undecodable : {E W S : Type 0} (A : Analysis E W S) (w : ℕ) (told : Outcome E W) → SameOutcome A.elements (undecodable w) told → told ≡ undecodable w
same_undecodable A w (undecodable v) same = cc
same_undecodable A w (too_many v us) same = absurd same
same_undecodable A w (moves ts y us) same = absurd same
same_undecodable A w (sends xs us) same = absurd same

pub same_too_many : {E W S : Type 0} (A : Analysis E W S) (w : W) (uses : List Seen) (told : Outcome E W) → SameOutcome A.elements (too_many w uses) told → told ≡ too_many w uses
same_too_many A w uses (undecodable v) same = absurd same
same_too_many A w uses (too_many v us) same = let word = same.0 in let list = same.1 in cc
same_too_many A w uses (moves ts y us) same = absurd same
same_too_many A w uses (sends xs us) same = absurd same

fold_push : {B : Type 0} (f : B → ℕ → B) (b : B) (xs : List ℕ) (x : ℕ) → fold f b (xs ++ x ∷ []) ≡ f (fold f b xs) x
fold_push f b [] x = refl
fold_push f b (y ∷ xs) x = fold_push f (f b y) xs x

module _ {E W S : Type 0} (A : Analysis E W S) (laws : AnalysisLaws A) where
  legal_push : (p : WorklistState E) (xs : List ℕ) (at : ℕ) (r : Reached E) → IsLegalFrom A p xs → IsLeastPending (fold (transferred A) p xs) at r → Moves (A.transfer at r.elem)
      → IsLegalFrom A p (xs ++ at ∷ [])
  legal_push p [] at r legal least has = ((r, least, has), tt)
  legal_push p (x ∷ xs) at r legal least has = (legal.0, legal_push (transferred A p x) xs at r legal.1 least has)

  -- what is alike
  reached_like : (x y : Option (Reached E)) (s : Reached E) → IsLike A x y → y ≡ Some s → (r : Reached E) × (x ≡ Some r) × IsLikeReached A r s
  reached_like None None s like is = cc
  reached_like None (Some t) s like is = absurd like
  reached_like (Some r) None s like is = absurd like
  reached_like (Some r) (Some t) s like is = let same : t ≡ s = cc in (r, refl, subst (IsLikeReached A r) same like)

  pub full_like : (p q : WorklistState E) → AllLike A p q → IsComplete p → IsComplete q
  full_like p q like complete a s is =
      let found = reached_like (p a) (q a) s (like a) is in
      sym found.2.pending ∙ complete a found.0 found.1

  pub least_like : (p q : WorklistState E) (at : ℕ) (r : Reached E) → AllLike A p q → IsLeastPending p at r → (s : Reached E) × IsLeastPending q at s × A.elements.same r.elem s.elem
  least_like p q at r like least =
      let found = reached_like (q at) (p at) r (like_back A laws (p at) (q at) (like at)) least.stands in (
        found.0,
        record {
          stands = found.1;
          pending = found.2.pending ∙ least.pending;
          least = λ b s is pending.
              let other = reached_like (p b) (q b) s (like b) is in
              least.least b other.0 other.1 (other.2.pending ∙ pending);
        },
        laws.elements.same_back found.0.elem r.elem found.2.elem,
      )

  some_at : (p : WorklistState E) (at : ℕ) (r : Reached E) (P : Reached E → Type 0) → p at ≡ Some r → IsSomeAnd (p at) P → P r
  some_at p at r P is some = subst (λ x. IsSomeAnd x P) is some

  -- One more transfer of the least pending address.
  pub push_legal : (trace : List ℕ) (p : WorklistState E) (at : ℕ) (r : Reached E) → AllFit A p → IsLegal A trace → AllLike A p (worklist_state A trace) → IsLeastPending p at r
      → IsSomeAnd (p at) (λ r. Moves (A.transfer at r.elem)) → IsLegal A (trace ++ at ∷ [])
  push_legal trace p at r fp legal like least has =
      let here = some_at p at r (λ r. Moves (A.transfer at r.elem)) least.stands has in
      let there = least_like p (worklist_state A trace) at r like least in
      let one = fit_at A laws p at r fp least.stands in
      let other = fit_at A laws (worklist_state A trace) at there.0 (fit_if_fine A laws (worklist_state A trace) (legal_fine A laws (begin A) trace (begin_fine A laws))) there.1.stands in
      legal_push (begin A) trace at there.0 legal there.1 (has_too A (A.transfer at r.elem) (A.transfer at there.0.elem) (laws.transfer_same at r.elem there.0.elem one.0 one.1 other.1 there.2) here)

  pub push_like : (trace : List ℕ) (p q : WorklistState E) (at : ℕ) → AllFit A p → AllLike A p (worklist_state A trace) → AllLike A q (transferred A p at) → AllLike A q (worklist_state A (trace ++ at ∷ []))
  push_like trace p q at fp like here =
      subst (AllLike A q) (sym (fold_push (transferred A) (begin A) trace at))
      (λ a. like_on A laws (q a) (transferred A p at a) (transferred A (worklist_state A trace) at a) (here a) (transferred_like A laws p (worklist_state A trace) at fp (fit_if_fine A laws (worklist_state A trace) (legal_fine A laws (begin A) trace (begin_fine A laws))) like a))

  -- The least pending address has a transfer without targets.
  stops_like : (trace : List ℕ) (p : WorklistState E) (at : ℕ) (r : Reached E) (given : Outcome E W) → AllFit A p → AllLike A p (worklist_state A trace) → IsLeastPending p at r
      → (Moves given → ⊥) → ((told : Outcome E W) → SameOutcome A.elements given told → told ≡ given) → A.transfer at r.elem ≡ given → IsStopped A (worklist_state A trace) at given
  stops_like trace p at r given fp like least none told here =
      let there = least_like p (worklist_state A trace) at r like least in
      let one = fit_at A laws p at r fp least.stands in
      let other = fit_at A laws (worklist_state A trace) at there.0 (fit_if_fine A laws (worklist_state A trace) (legal_fine A laws (begin A) trace (begin_fine A laws))) there.1.stands in
      let same : SameOutcome A.elements given (A.transfer at there.0.elem) = subst (λ m. SameOutcome A.elements m (A.transfer at there.0.elem)) here (laws.transfer_same at r.elem there.0.elem one.0 one.1 other.1 there.2) in
      (none, (there.0, there.1, told (A.transfer at there.0.elem) same))

  pub stops_undecodable : (trace : List ℕ) (p : WorklistState E) (at word : ℕ) (r : Reached E) → AllFit A p → AllLike A p (worklist_state A trace) → IsLeastPending p at r
      → IsSomeAnd (p at) (λ r. A.transfer at r.elem ≡ undecodable word) → IsStopped A (worklist_state A trace) at (undecodable word)
  stops_undecodable trace p at word r fp like least gives =
      stops_like trace p at r (undecodable word) fp like least (λ h. h) (same_undecodable A word) (some_at p at r (λ r. A.transfer at r.elem ≡ undecodable word) least.stands gives)

  pub stops_too_many : (trace : List ℕ) (p : WorklistState E) (at : ℕ) (shown : W) (r : Reached E) → AllFit A p → AllLike A p (worklist_state A trace) → IsLeastPending p at r
      → IsSomeAnd (p at) (λ r. (uses : List Seen) × (A.transfer at r.elem ≡ too_many shown uses)) → (uses : List Seen) × IsStopped A (worklist_state A trace) at (too_many shown uses)
  stops_too_many trace p at shown r fp like least gives =
      let here = some_at p at r (λ r. (uses : List Seen) × (A.transfer at r.elem ≡ too_many shown uses)) least.stands gives in
      (here.0, stops_like trace p at r (too_many shown here.0) fp like least (λ h. h) (same_too_many A shown here.0) here.1)

  -- While an address is pending, there is room for one more transfer.
  pub room_for_one : (trace : List ℕ) (p : WorklistState E) (at : ℕ) (r : Reached E) → IsLegal A trace → AllLike A p (worklist_state A trace) → IsLeastPending p at r
      → length trace + 1 ≤ length A.code * (height_of A + A.joins + 1)
  room_for_one trace p at r legal like least =
      let there = least_like p (worklist_state A trace) at r like least in
      let falls = transferred_left A laws (worklist_state A trace) at there.0 (legal_fine A laws (begin A) trace (begin_fine A laws)) there.1.stands there.1.pending in
      let most = legal_left A laws (begin A) trace (begin_fine A laws) legal in
      let first = begin_left A laws in
      omega (arith, falls, most, first)
