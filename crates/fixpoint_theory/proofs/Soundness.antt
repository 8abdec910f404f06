-- What a closed table says holds of every run.
use Rattle.std.proofs.Common.{◌≡◌, ◌∙◌, ℕ, zero, suc, Bool, true, cond, List, [], ◌∷◌, Option, None, Some, IsTrue, inl, inr, ap, refl, sym, subst}
use Rattle.std.specs.Prelude.{IsSomeAnd, IfSome, filter, not, ◌⊎◌}
use Rattle.base_trait.specs.Lists.{Each, IsAmong}
use Rattle.base_trait.proofs.Lists.{among_map, each_at}
use Rattle.base_trait.specs.Uses.{Read, Seen}
use Rattle.fixpoint_theory.specs.Analysis.{Analysis, AnalysisLaws}
use Rattle.fixpoint_theory.specs.Code.{inside, is_code, outside}
use Rattle.fixpoint_theory.specs.Outcome.{IfPost, Outcome, addresses, moves, sends, too_many, undecodable}
use Rattle.fixpoint_theory.specs.Runs.{AreSeen, Describes, IsSound, Machine, Step, at, goes, goes_on, left, no_decoding, run_from, stopped, stops}
use Rattle.fixpoint_theory.specs.Table.{IsAbsorbed, IsClosed, Listing, Listings, Reaches, TableFits, Tells}
use Rattle.fixpoint_theory.specs.Laws.{ClosedTablesAreSound}
use Rattle.fixpoint_theory.proofs.Growth.{by_bool}

-- an item that passes a test is kept by its filter
kept_by : (test : ℕ → Bool) (xs : List ℕ) (x : ℕ) → IsAmong x xs → IsTrue (test x) → IsAmong x (filter test xs)
kept_by test [] x h passes = absurd h
kept_by test (y ∷ xs) x (inl same) passes =
    by_bool (test y) (λ b. test y ≡ b → IsAmong x (cond b (y ∷ filter test xs) (filter test xs)))
    (λ e is. inl same)
    (λ e is. let here : test y ≡ true = subst (λ z. test z ≡ true) same passes in cc)
    refl
kept_by test (y ∷ xs) x (inr h) passes =
    by_bool (test y) (λ b. IsAmong x (cond b (y ∷ filter test xs) (filter test xs)))
    (λ e. inr (kept_by test xs x h passes))
    (λ e. kept_by test xs x h passes)

module _ {E W S : Type 0} (A : Analysis E W S) (M : Machine S) (laws : AnalysisLaws A) (sound : IsSound A M) (t : Listings E) (fits : TableFits A t) (closed : IsClosed A t) where
  -- an element that is listed at an address holds
  abbrev IsHeld : ℕ → S → Type 0
  IsHeld a s = IsSomeAnd (t a) (λ b. A.elements.holds b.elem s)

  -- what is absorbed is held
  held : (a : ℕ) (x : E) (s : S) (y : Option (Listing E)) → t a ≡ y → A.elements.fits x → A.elements.holds x s
      → IsSomeAnd y (λ b. IsTrue (A.elements.absorbs b.elem x)) → IsSomeAnd y (λ b. A.elements.holds b.elem s)
  held a x s None is fits_x holds absorbs = absorbs
  held a x s (Some b) is fits_x holds absorbs = laws.elements.absorbs_holds b.elem x s (fits a b is).1 fits_x absorbs holds

  -- what is known of a step from a state of which a block's element holds
  abbrev Leads : Listing E → S → List Read → Type 0
  Leads b next reads =
      (IsAmong (M.counter next) b.next ⊎ IsAmong (M.counter next) b.exits) × AreSeen A M b.uses reads
      × (IsTrue (is_code A.code (M.counter next)) → IsHeld (M.counter next) next)

  -- a target is listed as next or as an exit
  listed : (targets : List ℕ) (to : ℕ) → IsAmong to targets → IsAmong to (inside A.code targets) ⊎ IsAmong to (outside A.code targets)
  listed targets to has =
      by_bool (is_code A.code to) (λ b. is_code A.code to ≡ b → IsAmong to (inside A.code targets) ⊎ IsAmong to (outside A.code targets))
      (λ e code. inl (kept_by (is_code A.code) targets to has code))
      (λ e other. inr (kept_by (λ a. not (is_code A.code a)) targets to has (ap not other)))
      refl

  post_holds : (targets : List ℕ) (uses : List Seen) (x : Option E) (next : S) → IfSome x A.elements.fits → Reaches A t (moves targets x uses)
      → IsAmong (M.counter next) targets → IsSomeAnd x (λ x. A.elements.holds x next)
      → IsTrue (is_code A.code (M.counter next)) → IsHeld (M.counter next) next
  post_holds targets uses None next post reaches has holds code = absurd holds
  post_holds targets uses (Some x) next post reaches has holds code =
      let to = M.counter next in
      held to x next (t to) refl post holds
      (each_at (λ to. IsTrue (is_code A.code to) → IsAbsorbed A t x to) targets to reaches has code)

  arrival_holds : (arrivals : List (ℕ × E)) (uses : List Seen) (x : E) (next : S) → Each (λ a. A.elements.fits a.1) arrivals → Reaches A t (sends arrivals uses)
      → IsAmong (M.counter next, x) arrivals → A.elements.holds x next → IsTrue (is_code A.code (M.counter next)) → IsHeld (M.counter next) next
  arrival_holds arrivals uses x next post reaches has holds code =
      let to = M.counter next in
      held to x next (t to) refl (each_at (λ a. A.elements.fits a.1) arrivals (to, x) post has) holds
      (each_at (λ a. IsTrue (is_code A.code a.0) → IsAbsorbed A t a.1 a.0) arrivals (to, x) reaches has code)

  step_leads : (b : Listing E) (given : Outcome E W) (next : S) (reads : List Read) → IfPost A.elements.fits given → Tells A b given → Reaches A t given
      → Describes A M given (goes next reads) → Leads b next reads
  step_leads b (undecodable word) next reads post tells reaches describes = absurd tells
  step_leads b (too_many w uses) next reads post tells reaches describes = absurd tells
  step_leads b (moves targets x uses) next reads post tells reaches describes =
      let to = M.counter next in
      let lists = listed targets to describes.0 in (
        subst (λ ns. IsAmong to ns ⊎ IsAmong to b.exits) (sym tells.0) (subst (λ es. IsAmong to (inside A.code targets) ⊎ IsAmong to es) (sym tells.1) lists),
        subst (λ us. AreSeen A M us reads) (sym tells.2) describes.2,
        post_holds targets uses x next post reaches describes.0 describes.1,
      )
  step_leads b (sends arrivals uses) next reads post tells reaches describes =
      let to = M.counter next in
      let x = describes.0.0 in
      let has = describes.0.1 in
      let targets = addresses arrivals in
      let lists = listed targets to (among_map (λ (a : ℕ × E). a.0) (to, x) arrivals has) in (
        subst (λ ns. IsAmong to ns ⊎ IsAmong to b.exits) (sym tells.0) (subst (λ es. IsAmong to (inside A.code targets) ⊎ IsAmong to es) (sym tells.1) lists),
        subst (λ us. AreSeen A M us reads) (sym tells.2) describes.1,
        arrival_holds arrivals uses x next post reaches has describes.0.2,
      )

  -- a run does not stop at a block but by its bound
  stops_deep : (b : Listing E) (given : Outcome E W) (w : ℕ) → Tells A b given → Describes A M given (stops (no_decoding w)) → ⊥
  stops_deep b (undecodable word) w tells describes = tells
  stops_deep b (too_many shown uses) w tells describes = tells
  stops_deep b (moves targets x uses) w tells describes = describes
  stops_deep b (sends arrivals uses) w tells describes = describes

  module _ (d : ℕ) where
    -- a state that has a step is at a code address, and one that meets a word without decoding too
    is_inside : (s : S) (step : Step S) → M.step d s ≡ step → (step ≡ stops left → ⊥) → IsTrue (is_code A.code (M.counter s))
    is_inside s step is goes_on =
        by_bool (is_code A.code (M.counter s)) (λ b. is_code A.code (M.counter s) ≡ b → IsTrue b)
        (λ e code. refl)
        (λ e other. absurd (goes_on (sym is ∙ sound.leaves d s other)))
        refl

    leads_from : (s next : S) (reads : List Read) (y : Option (Listing E)) → t (M.counter s) ≡ y → M.step d s ≡ goes next reads
        → IsSomeAnd y (λ b. A.elements.holds b.elem s) → IsSomeAnd y (λ b. Leads b next reads)
    leads_from s next reads None is steps holds = holds
    leads_from s next reads (Some b) is steps holds =
        let a = M.counter s in
        let fine = fits a b is in
        step_leads b (A.transfer a b.elem) next reads (laws.transfer_fits a b.elem fine.0 fine.1) (closed.tells a b is) (closed.reaches a b is)
        (subst (Describes A M (A.transfer a b.elem)) steps (sound.transfer d b.elem s fine.1 fine.0 holds))

    no_stop_from : (s : S) (w : ℕ) (y : Option (Listing E)) → t (M.counter s) ≡ y → M.step d s ≡ stops (no_decoding w)
        → IsSomeAnd y (λ b. A.elements.holds b.elem s) → ⊥
    no_stop_from s w None is steps holds = holds
    no_stop_from s w (Some b) is steps holds =
        let a = M.counter s in
        let fine = fits a b is in
        stops_deep b (A.transfer a b.elem) w (closed.tells a b is)
        (subst (Describes A M (A.transfer a b.elem)) steps (sound.transfer d b.elem s fine.1 fine.0 holds))

    some_held : (y : Option (Listing E)) (next : S) (reads : List Read) → IsSomeAnd y (λ b. Leads b next reads) → IsTrue (is_code A.code (M.counter next)) → IsHeld (M.counter next) next
    some_held None next reads leads code = absurd leads
    some_held (Some b) next reads leads code = leads.2 code

    -- the element at the counter holds, where that is a code address
    abbrev IsMet : S → Type 0
    IsMet s = IsTrue (is_code A.code (M.counter s)) → IsHeld (M.counter s) s

    -- a step keeps that
    step_met : (s next : S) (reads : List Read) → M.step d s ≡ goes next reads → IsMet s → IsMet next
    step_met s next reads is met code =
        let here = is_inside s (goes next reads) is (λ e. cc) in
        some_held (t (M.counter s)) next reads (leads_from s next reads (t (M.counter s)) refl is (met here)) code

    -- so it holds of the state after any number of steps
    run_met : (n done : ℕ) (s last : S) → IsMet s → run_from (M.step d) n done s ≡ at last → IsMet last
    run_met zero done s last met is = let same : s ≡ last = cc in subst IsMet same met
    run_met (suc n) done s last met is = by_step (M.step d s) refl is (λ next kept is. run_met n (suc done) next last kept is)
      where
        by_step : (step : Step S) → M.step d s ≡ step → goes_on (M.step d) (run_from (M.step d) n (suc done)) done s step ≡ at last
            → ((next : S) → IsMet next → run_from (M.step d) n (suc done) next ≡ at last → IsMet last) → IsMet last
        by_step (stops why) steps is more = cc
        by_step (goes next reads) steps is more = more next (step_met s next reads steps met) is

    -- and no run meets a word without decoding
    run_decodes : (n done : ℕ) (s last : S) (w k : ℕ) → IsMet s → run_from (M.step d) n done s ≡ stopped (no_decoding w) last k → ⊥
    run_decodes zero done s last w k met is = cc
    run_decodes (suc n) done s last w k met is = by_step (M.step d s) refl is (λ next kept is. run_decodes n (suc done) next last w k kept is)
      where
        by_step : (step : Step S) → M.step d s ≡ step → goes_on (M.step d) (run_from (M.step d) n (suc done)) done s step ≡ stopped (no_decoding w) last k
            → ((next : S) → IsMet next → run_from (M.step d) n (suc done) next ≡ stopped (no_decoding w) last k → ⊥) → ⊥
        by_step (goes next reads) steps is more = more next (step_met s next reads steps met) is
        by_step (stops why) steps is more =
            let same : why ≡ no_decoding w = cc in
            let here = is_inside s (stops why) steps (λ e. let f : why ≡ left = cc in cc) in
            no_stop_from s w (t (M.counter s)) refl (steps ∙ ap (λ why. stops why) same) (met here)

    -- a state of the entry
    starts_met : (s : S) → M.starts s → IsMet s
    starts_met s starts code =
        let begins = sound.entry s starts in
        let code_start : IsTrue (is_code A.code A.start) = subst (λ a. IsTrue (is_code A.code a)) begins.0 code in
        subst (λ a. IsHeld a s) (sym begins.0)
        (held A.start A.entry s (t A.start) refl laws.entry_fits begins.1 (closed.entry code_start))

pub closed_tables_are_sound : {E W S : Type 0} (A : Analysis E W S) (M : Machine S) → AnalysisLaws A → ClosedTablesAreSound A M
closed_tables_are_sound {E} {W} {S} A M laws sound t fits closed = record {
  holds = λ d n first s starts is code. run_met A M laws sound t fits closed d n 0 first s (starts_met A M laws sound t fits closed d first starts) is code;
  decodes = λ d n first s w done starts is. run_decodes A M laws sound t fits closed d n 0 first s w done (starts_met A M laws sound t fits closed d first starts) is;
  leads = λ d n first s next reads starts is steps.
      let here = is_inside A M laws sound t fits closed d s (goes next reads) steps (λ e. cc) in
      let holds = run_met A M laws sound t fits closed d n 0 first s (starts_met A M laws sound t fits closed d first starts) is here in
      both (t (M.counter s)) next reads (leads_from A M laws sound t fits closed d s next reads (t (M.counter s)) refl steps holds);
}
  where
    both : (y : Option (Listing E)) (next : S) (reads : List Read) → IsSomeAnd y (λ b. Leads A M laws sound t fits closed b next reads)
        → IsSomeAnd y (λ b. (IsAmong (M.counter next) b.next ⊎ IsAmong (M.counter next) b.exits) × AreSeen A M b.uses reads)
    both None next reads leads = leads
    both (Some b) next reads leads = (leads.0, leads.1)
