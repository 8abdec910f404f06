-- Arrivals at a worklist.
use Rattle.std.proofs.Common.{◌≡◌, ◌∙◌, ℕ, ◌+◌, min, true, false, List, take, length, get_or, ◌<◌, Option, None, Some, if◌then◌else◌, ap, refl, sym, subst, [], ◌∷◌, ◌++◌}
use Rattle.std.specs.Prelude.{IsSomeAnd, fold, IfSome}
use Rattle.std.proofs.lemmas.List.Sums.{fold_more, fold-append}
use Rattle.base_trait.specs.Uses.{Seen}
use Rattle.fixpoint_theory.specs.Analysis.{Analysis, AnalysisLaws}
use Rattle.fixpoint_theory.specs.Code.{is_code, inside, outside}
use Rattle.fixpoint_theory.specs.Outcome.{IfPost, Moves, Outcome, SameOutcome, too_many, addresses, moves, sends, undecodable}
use Rattle.fixpoint_theory.specs.WorklistState.{WorklistState, Reached, arrival, arrive, arrive_all, arrived, begin, changed, done, grown, nowhere, sent, transferred, transferred_from, arrive_as_sent}
use Rattle.fixpoint_theory.proofs.Growth.{by_same}
use Rattle.fixpoint_worklist.specs.Fitting.{AllFit, IsFit}
use Rattle.fixpoint_worklist.specs.Likeness.{AllLike, IsLike}
use Rattle.fixpoint_worklist.proofs.Fitting.{all_fit, one_done_fit, each_fit}
use Rattle.base_trait.specs.Lists.{Each}
use Rattle.fixpoint_theory.specs.Table.{Listing, Tells}
use Rattle.fixpoint_theory.proofs.Tables.{same_addresses}
use Rattle.fixpoint_worklist.proofs.Likeness.{arrive_like, like_itself, like_on, sent_like}
use Rattle.fixpoint_worklist.proofs.Traces.{has_too, same_too_many}

module _ {E W S : Type 0} (A : Analysis E W S) (laws : AnalysisLaws A) where
  -- the first arrival, where nothing was reached
  pub begun_from : (p q : WorklistState E) (x : E) → A.elements.fits x → A.elements.same x A.entry → ((a : ℕ) → p a ≡ None) → AllLike A q (arrive A x p A.start) → AllLike A q (begin A)
  begun_from p q x fits same none here a =
      like_on A laws (q a) (arrive A x p A.start a) (begin A a) (here a)
      (arrive_like A laws x A.entry p nowhere A.start fits laws.entry_fits (λ a. subst (IsFit A a) (sym (none a)) tt) (λ a. tt) same (λ a. subst (λ y. IsLike A y None) (sym (none a)) tt) a)

  -- an element that does not absorb the new one has grown, and is pending
  pub grown_arrives : (p q : WorklistState E) (at changes more : ℕ) (x y new : E) → is_code A.code at ≡ true → IsSomeAnd (p at) (λ r. (r.elem ≡ x) × (r.changes ≡ changes))
      → A.elements.absorbs x new ≡ false → A.elements.same y (grown A changes x new) → min more A.joins ≡ min (changes + 1) A.joins
      → ((a : ℕ) → q a ≡ changed at (λ _. Some (record { elem = y; changes = more; pending = true })) p a) → AllLike A q (arrive A new p at)
  grown_arrives p q at changes more x y new code stands apart same few is a =
      subst (λ b. IsLike A (q a) ((if b then changed at (arrived A new) p else p) a)) (sym code)
      (subst (λ u. IsLike A u (changed at (arrived A new) p a)) (sym (is a))
      (by_same a at (λ b. IsLike A (if b then Some here else p a) (if b then arrived A new (p a) else p a))
      (λ e. subst (λ a. IsLike A (Some here) (arrived A new (p a))) (sym e) (from (p at) stands))
      (λ e. like_itself A laws (p a))))
    where
      here : Reached E
      here = record { elem = y; changes = more; pending = true }

      from : (u : Option (Reached E)) → IsSomeAnd u (λ r. (r.elem ≡ x) × (r.changes ≡ changes)) → IsLike A (Some here) (arrived A new u)
      from None h = absurd h
      from (Some r) h =
          subst (λ b. IsLike A (Some here) (Some (arrival A b new r))) (sym (ap (λ x. A.elements.absorbs x new) h.0 ∙ apart))
          (record {
            elem = subst (λ n. A.elements.same y (grown A n r.elem new)) (sym h.1) (subst (λ x. A.elements.same y (grown A changes x new)) (sym h.0) same);
            changes = subst (λ n. min more A.joins ≡ min (n + 1) A.joins) (sym h.1) few;
            pending = refl;
          })

  -- one more target
  pub one_more : (p q s : WorklistState E) (new : E) (targets : List ℕ) (i : ℕ) → i < length targets → A.elements.fits new → AllFit A p → AllFit A q
      → AllLike A q (arrive_all A (Some new) (take i targets) p) → AllLike A s (arrive A new q (get_or targets i 0))
      → AllLike A s (arrive_all A (Some new) (take (i + 1) targets) p)
  one_more p q s new targets i lt fits fp fq before here =
      let so_far = fold (arrive A new) p (take i targets) in
      let to = get_or targets i 0 in
      subst (AllLike A s) (sym (fold_more (arrive A new) p targets i 0 lt))
      (λ a. like_on A laws (s a) (arrive A new q to a) (arrive A new so_far to a) (here a)
      (arrive_like A laws new new q so_far to fits fits fq (all_fit A laws new (take i targets) p fits fp) (laws.elements.same_itself new) before a))

  -- one more element that arrives
  pub each_more : (p q s : WorklistState E) (xs : List (ℕ × E)) (x : ℕ × E) → Each (λ a. A.elements.fits a.1) xs → A.elements.fits x.1 → AllFit A p → AllFit A q
      → AllLike A q (arrive_as_sent A xs p) → AllLike A s (arrive A x.1 q x.0) → AllLike A s (arrive_as_sent A (xs ++ x ∷ []) p)
  each_more p q s xs x fits_all fits fp fq before here =
      let so_far = arrive_as_sent A xs p in
      subst (AllLike A s) (sym (fold-append (λ q a. arrive A a.1 q a.0) p xs (x ∷ [])))
      (λ a. like_on A laws (s a) (arrive A x.1 q x.0 a) (arrive A x.1 so_far x.0 a) (here a)
      (arrive_like A laws x.1 x.1 q so_far x.0 fits fits fq (each_fit A laws xs p fits_all fp) (laws.elements.same_itself x.1) before a))

  -- a block that lists what cases send tells each outcome that is the same
  same_tells : (b : Listing E) (xs : List (ℕ × E)) (uses : List Seen) (given : Outcome E W) → SameOutcome A.elements (sends xs uses) given
      → b.next ≡ inside A.code (addresses xs) → b.exits ≡ outside A.code (addresses xs) → b.uses ≡ uses → Tells A b given
  same_tells b xs uses (undecodable word) same next exits used = same
  same_tells b xs uses (too_many shown us) same next exits used = same
  same_tells b xs uses (moves targets post us) same next exits used = absurd same
  same_tells b xs uses (sends ys us) same next exits used =
      let one = same_addresses A laws xs ys same.0 in
      (next ∙ ap (inside A.code) one, exits ∙ ap (outside A.code) one, used ∙ same.1)

  pub sent_tells : (at : ℕ) (listing : E → Listing E) (xs : List (ℕ × E)) (uses : List Seen) (x : Option (Reached E))
      → ((e : E) → ((listing e).next ≡ inside A.code (addresses xs)) × ((listing e).exits ≡ outside A.code (addresses xs)) × ((listing e).uses ≡ uses))
      → IfSome x (λ r. SameOutcome A.elements (sends xs uses) (A.transfer at r.elem)) → IfSome x (λ r. Tells A (listing r.elem) (A.transfer at r.elem))
  sent_tells at listing xs uses None lists same = tt
  sent_tells at listing xs uses (Some r) lists same =
      let parts = lists r.elem in same_tells (listing r.elem) xs uses (A.transfer at r.elem) same parts.0 parts.1 parts.2

  -- what is given is that of what stands at an address
  pub given_at : (p : WorklistState E) (at changes : ℕ) (x : E) (given : Outcome E W) → IsSomeAnd (p at) (λ r. (r.elem ≡ x) × (r.changes ≡ changes)) → SameOutcome A.elements given (A.transfer at x)
      → IfSome (p at) (λ r. SameOutcome A.elements given (A.transfer at r.elem))
  given_at p at changes x given stands same = from (p at) stands
    where
      from : (y : Option (Reached E)) → IsSomeAnd y (λ r. (r.elem ≡ x) × (r.changes ≡ changes)) → IfSome y (λ r. SameOutcome A.elements given (A.transfer at r.elem))
      from None h = tt
      from (Some r) h = subst (λ x. SameOutcome A.elements given (A.transfer at x)) (sym h.0) same

  -- Where a transfer is that of what stands at an address, the worklist state after it is the transferred one.
  pub stepped_from : (p q : WorklistState E) (at changes : ℕ) (x : E) (given : Outcome E W) → IsSomeAnd (p at) (λ r. (r.elem ≡ x) × (r.changes ≡ changes)) → AllFit A p → IfPost A.elements.fits given
      → SameOutcome A.elements given (A.transfer at x) → Moves given → AllLike A q (sent A given (changed at done p))
      → IsSomeAnd (p at) (λ r. Moves (A.transfer at r.elem)) × AllLike A q (transferred A p at)
  stepped_from p q at changes x given stands fp post same has alike = from (p at) (fp at) stands
    where
      from : (y : Option (Reached E)) → IsFit A at y → IsSomeAnd y (λ r. (r.elem ≡ x) × (r.changes ≡ changes))
          → IsSomeAnd y (λ r. Moves (A.transfer at r.elem)) × AllLike A q (transferred_from A y p at)
      from None fit h = absurd h
      from (Some r) fit h =
          let told : SameOutcome A.elements given (A.transfer at r.elem) = subst (λ x. SameOutcome A.elements given (A.transfer at x)) (sym h.0) same in (
            has_too A given (A.transfer at r.elem) told has,
            λ a. like_on A laws (q a) (sent A given (changed at done p) a) (sent A (A.transfer at r.elem) (changed at done p) a) (alike a)
                (sent_like A laws given (A.transfer at r.elem) (changed at done p) (changed at done p)
                post (laws.transfer_fits at r.elem fit.0 fit.1) (one_done_fit A laws at p fp) (one_done_fit A laws at p fp) told (λ a. like_itself A laws (changed at done p a)) a),
          )

-- Where a transfer is that of what stands at an address and has too many targets, that one has too.
pub many_from : {E W S : Type 0} (A : Analysis E W S) (p : WorklistState E) (at changes : ℕ) (x : E) (shown : W) (uses : List Seen) → IsSomeAnd (p at) (λ r. (r.elem ≡ x) × (r.changes ≡ changes))
    → SameOutcome A.elements (too_many shown uses) (A.transfer at x) → IsSomeAnd (p at) (λ r. (uses : List Seen) × (A.transfer at r.elem ≡ too_many shown uses))
many_from {E} A p at changes x shown uses stands same = from (p at) stands
  where
    from : (y : Option (Reached E)) → IsSomeAnd y (λ r. (r.elem ≡ x) × (r.changes ≡ changes)) → IsSomeAnd y (λ r. (uses : List Seen) × (A.transfer at r.elem ≡ too_many shown uses))
    from None h = absurd h
    from (Some r) h = (uses, ap (A.transfer at) h.0 ∙ same_too_many A shown uses (A.transfer at x) same)

-- worklist states that have the same at each address are one
pub one_play : {E : Type 0} (p q : WorklistState E) → ((a : ℕ) → p a ≡ q a) → p ≡ q
one_play p q h = λ i a. h a i
