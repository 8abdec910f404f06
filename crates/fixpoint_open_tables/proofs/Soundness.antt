-- What a table says that is closed but open holds of every run until it is at an open address.
use Rattle.std.proofs.Common.{◌≡◌, ◌∙◌, ℕ, zero, suc, ◌+◌, ◌<◌, ◌≤◌, Bool, true, false, List, [], ◌∷◌, Option, None, Some, IsTrue, if◌then◌else◌, arith, ap, refl, sym, subst}
use Rattle.std.specs.Prelude.{IsSome, IsSomeAnd, is_some, ◌⊎◌}
use Rattle.base_trait.specs.Lists.{AreAmong, IsAmong}
use Rattle.base_trait.specs.Uses.{Read}
use Rattle.base_trait.specs.declared.uses.Stamp.TheVariants.{At}
use Rattle.fixpoint_theory.specs.Analysis.{Analysis, AnalysisLaws}
use Rattle.fixpoint_theory.specs.Code.{is_code}
use Rattle.fixpoint_theory.specs.Outcome.{AreOfStamps, HasTargets, IfPost, IfUses, Outcome, SameOutcome, moves, too_many, undecodable, sends}
use Rattle.fixpoint_theory.specs.Runs.{AreSeen, Describes, IsSound, IsSoundTable, Machine, Step, Stop, after, at, deep, goes, goes_on, left, no_decoding, run_from, stopped, stops, After}
use Rattle.fixpoint_theory.specs.Table.{IsClosed, Listing, Listings, Reaches, TableFits, Tells, IsAbsorbed}
use Rattle.fixpoint_theory.proofs.Growth.{by_bool}
use Rattle.fixpoint_theory.proofs.Soundness.{closed_tables_are_sound}
use Rattle.fixpoint_open_tables.specs.Endings.{Endings, IsClosedButOpen, IsDecodable, ending_at, endings_of}
use Rattle.fixpoint_open_tables.specs.Instance.{deep_described, opened_post, opened_same, opened_targets, opened_uses}
use Rattle.fixpoint_open_tables.specs.Laws.{OpenTablesAreSound}
use Rattle.fixpoint_open_tables.specs.LeftOpen.{ending_of, left_open, opened}
use Rattle.fixpoint_open_tables.specs.Runs.{IsUntilOpen}

-- ---- an analysis of which some addresses are left open
abbrev pick : {E W : Type 0} → Bool → Outcome E W → Outcome E W
pick true o = opened o
pick false o = o

-- what holds of an outcome and of the opened one
picked : {E W : Type 0} (P : Outcome E W → Type 0) (b : Bool) (o : Outcome E W) → P (opened o) → P o → P (pick b o)
picked P true o h k = h
picked P false o h k = k

-- an outcome without an ending is as it is
picked_by_ending : {E W : Type 0} (o : Outcome E W) → pick (is_some (ending_of o)) o ≡ opened o
picked_by_ending (undecodable word) = refl
picked_by_ending (too_many shown uses) = refl
picked_by_ending (moves targets post uses) = refl
picked_by_ending (sends arrivals uses) = refl

module _ {E W S : Type 0} (A : Analysis E W S) (chosen : ℕ → Bool) where
  abbrev partly : Analysis E W S
  partly = record A { transfer = λ a x. pick (chosen a) (A.transfer a x) }

  partly_laws : AnalysisLaws A → AnalysisLaws partly
  partly_laws laws = record {
    elements = laws.elements;
    code = laws.code;
    entry_fits = laws.entry_fits;
    entry_lists = laws.entry_lists;
    transfer_fits = λ a x code fits. let h = laws.transfer_fits a x code fits in
        picked (IfPost A.elements.fits) (chosen a) (A.transfer a x) (opened_post A.elements.fits (A.transfer a x) h) h;
    transfer_lists = λ a x code fits. let h = laws.transfer_lists a x code fits in
        picked (IfPost (λ post. AreAmong (A.elements.listed post) (At a ∷ A.elements.listed x))) (chosen a) (A.transfer a x) (opened_post (λ post. AreAmong (A.elements.listed post) (At a ∷ A.elements.listed x)) (A.transfer a x) h) h;
    transfer_targets = λ a x code fits. let h = laws.transfer_targets a x code fits in
        picked HasTargets (chosen a) (A.transfer a x) (opened_targets (A.transfer a x) h) h;
    transfer_uses = λ a x code fits. let h = laws.transfer_uses a x code fits in
        picked (IfUses (AreOfStamps (At a ∷ A.elements.listed x))) (chosen a) (A.transfer a x) (opened_uses (AreOfStamps (At a ∷ A.elements.listed x)) (A.transfer a x) tt h) h;
    transfer_unstamped = λ a x code fits none. let h = laws.transfer_unstamped a x code fits none in
        picked (IfUses (λ uses. uses ≡ [])) (chosen a) (A.transfer a x) (opened_uses (λ uses. uses ≡ []) (A.transfer a x) refl h) h;
    transfer_same = λ a x y code fx fy same. same_picked (chosen a) (A.transfer a x) (A.transfer a y) (laws.transfer_same a x y code fx fy same);
  }
    where
      same_picked : (b : Bool) (o p : Outcome E W) → SameOutcome A.elements o p → SameOutcome A.elements (pick b o) (pick b p)
      same_picked true o p same = opened_same A.elements o p same
      same_picked false o p same = same

  tells_too : (b : Listing E) (o : Outcome E W) → Tells (left_open A) b o → Tells partly b o
  tells_too b (undecodable word) h = h
  tells_too b (too_many shown uses) h = h
  tells_too b (moves targets post uses) h = h
  tells_too b (sends arrivals uses) h = h

  reaches_too : (t : Listings E) (o : Outcome E W) → Reaches (left_open A) t o → Reaches partly t o
  reaches_too t (undecodable word) h = h
  reaches_too t (too_many shown uses) h = h
  reaches_too t (moves targets post uses) h = h
  reaches_too t (sends arrivals uses) h = h

-- ---- the machine that has no turn left at those addresses
module _ {E W S : Type 0} (A : Analysis E W S) (M : Machine S) (chosen : ℕ → Bool) where
  abbrev paused : Machine S
  paused = record M { step = λ d s. if chosen (M.counter s) then stops deep else M.step d s }

  describes_too : (o : Outcome E W) (step : Step S) → Describes A M o step → Describes (partly A chosen) paused o step
  describes_too (undecodable word) step h = tt
  describes_too (too_many shown uses) (stops why) h = tt
  describes_too (too_many shown uses) (goes next reads) h = h
  describes_too (moves targets post uses) (stops deep) h = tt
  describes_too (moves targets post uses) (stops left) h = absurd h
  describes_too (moves targets post uses) (stops (no_decoding word)) h = absurd h
  describes_too (moves targets post uses) (goes next reads) h = h
  describes_too (sends arrivals uses) (stops deep) h = tt
  describes_too (sends arrivals uses) (stops left) h = absurd h
  describes_too (sends arrivals uses) (stops (no_decoding word)) h = absurd h
  describes_too (sends arrivals uses) (goes next reads) h = h

  paused_sound : ((a : ℕ) → is_code A.code a ≡ false → chosen a ≡ false) → IsSound A M → IsSound (partly A chosen) paused
  paused_sound inside sound = record {
    entry = sound.entry;
    transfer = λ d x s fits code holds.
        let a = M.counter s in
        by_bool (chosen a) (λ b. Describes (partly A chosen) paused (pick b (A.transfer a x)) (if b then stops deep else M.step d s))
        (λ e. deep_described (partly A chosen) paused (opened (A.transfer a x)))
        (λ e. describes_too (A.transfer a x) (M.step d s) (sound.transfer d x s fits code holds));
    leaves = λ d s out. ap (λ b. if b then stops deep else M.step d s) (inside (M.counter s) out) ∙ sound.leaves d s out;
  }

  module _ (d : ℕ) where
    step_same : (s : S) → chosen (M.counter s) ≡ false → paused.step d s ≡ M.step d s
    step_same s shut = ap (λ b. if b then stops deep else M.step d s) shut

    -- a run goes on as long as it meets no such address
    run_same : (n done : ℕ) (s last : S) → ((m : ℕ) (q : S) → m < n → run_from (M.step d) m done s ≡ at q → chosen (M.counter q) ≡ false)
        → run_from (M.step d) n done s ≡ at last → run_from (paused.step d) n done s ≡ at last
    run_same zero done s last until is = is
    run_same (suc n) done s last until is =
        by_step (M.step d s) refl is (λ next later is. run_same n (suc done) next last later is)
      where
        by_step : (step : Step S) → M.step d s ≡ step → goes_on (M.step d) (run_from (M.step d) n (suc done)) done s step ≡ at last
            → ((next : S) → ((m : ℕ) (q : S) → m < n → run_from (M.step d) m (suc done) next ≡ at q → chosen (M.counter q) ≡ false)
            → run_from (M.step d) n (suc done) next ≡ at last → run_from (paused.step d) n (suc done) next ≡ at last)
            → goes_on (paused.step d) (run_from (paused.step d) n (suc done)) done s (paused.step d s) ≡ at last
        by_step (stops why) steps is more = cc
        by_step (goes next reads) steps is more =
            ap (goes_on (paused.step d) (run_from (paused.step d) n (suc done)) done s) (step_same s (until 0 s (omega arith) refl) ∙ steps)
            ∙ more next
            (λ m q less was. until (suc m) q (omega (arith, less)) (ap (goes_on (M.step d) (run_from (M.step d) m (suc done)) done s) steps ∙ was)) is

    stop_later : (n done : ℕ) (s last : S) (why : Stop) (k : ℕ) → run_from (M.step d) n done s ≡ stopped why last k → done ≤ k
    stop_later zero done s last why k is = cc
    stop_later (suc n) done s last why k is = by_step (M.step d s) is (λ next is. stop_later n (suc done) next last why k is)
      where
        by_step : (step : Step S) → goes_on (M.step d) (run_from (M.step d) n (suc done)) done s step ≡ stopped why last k
            → ((next : S) → run_from (M.step d) n (suc done) next ≡ stopped why last k → suc done ≤ k) → done ≤ k
        by_step (stops other) is more = let same : done ≡ k = cc in omega (arith, same)
        by_step (goes next reads) is more = let late = more next is in omega (arith, late)

    -- and stops as it does
    stop_same : (n done : ℕ) (s last : S) (why : Stop) (k : ℕ) → ((m : ℕ) (q : S) → m < n → done + m < k → run_from (M.step d) m done s ≡ at q → chosen (M.counter q) ≡ false)
        → chosen (M.counter last) ≡ false → run_from (M.step d) n done s ≡ stopped why last k → run_from (paused.step d) n done s ≡ stopped why last k
    stop_same zero done s last why k until shut is = cc
    stop_same (suc n) done s last why k until shut is = by_step (M.step d s) refl is (λ next later is. stop_same n (suc done) next last why k later shut is)
      where
        by_step : (step : Step S) → M.step d s ≡ step → goes_on (M.step d) (run_from (M.step d) n (suc done)) done s step ≡ stopped why last k
            → ((next : S) → ((m : ℕ) (q : S) → m < n → suc done + m < k → run_from (M.step d) m (suc done) next ≡ at q → chosen (M.counter q) ≡ false)
            → run_from (M.step d) n (suc done) next ≡ stopped why last k → run_from (paused.step d) n (suc done) next ≡ stopped why last k)
            → goes_on (paused.step d) (run_from (paused.step d) n (suc done)) done s (paused.step d s) ≡ stopped why last k
        by_step (stops other) steps is more =
            let same : s ≡ last = cc in
            ap (goes_on (paused.step d) (run_from (paused.step d) n (suc done)) done s) (step_same s (subst (λ q. chosen (M.counter q) ≡ false) (sym same) shut) ∙ steps) ∙ is
        by_step (goes next reads) steps is more =
            let late = stop_later n (suc done) next last why k is in
            ap (goes_on (paused.step d) (run_from (paused.step d) n (suc done)) done s) (step_same s (until 0 s (omega arith) (omega (arith, late)) refl) ∙ steps)
            ∙ more next
            (λ m q less early was. until (suc m) q (omega (arith, less)) (omega (arith, early)) (ap (goes_on (M.step d) (run_from (M.step d) m (suc done)) done s) steps ∙ was)) is

-- ---- a table that is closed but open
module _ {E W S : Type 0} (A : Analysis E W S) (M : Machine S) (laws : AnalysisLaws A) (sound : IsSound A M) (t : Listings E) (ends : Endings W) (fits : TableFits A t) (closed : IsClosedButOpen A t ends) where
  abbrev chosen : ℕ → Bool
  chosen a = is_some (endings_of A t a)

  chosen_inside : (a : ℕ) → is_code A.code a ≡ false → chosen a ≡ false
  chosen_inside a out = from (t a) refl
    where
      from : (y : Option (Listing E)) → t a ≡ y → is_some (ending_at A a y) ≡ false
      from None is = refl
      from (Some b) is = let here = (fits a b is).0 in cc

  not_chosen : (a : ℕ) → ends a ≡ None → chosen a ≡ false
  not_chosen a none = ap is_some (sym (closed.endings a) ∙ none)

  picked_at : (a : ℕ) (b : Listing E) → t a ≡ Some b → opened (A.transfer a b.elem) ≡ pick (chosen a) (A.transfer a b.elem)
  picked_at a b is = sym (ap (λ y. pick (is_some (ending_at A a y)) (A.transfer a b.elem)) is ∙ picked_by_ending (A.transfer a b.elem))

  partly_closed : IsClosed (partly A chosen) t
  partly_closed = record {
    entry = closed.closed.entry;
    tells = λ a b is. subst (Tells (partly A chosen) b) (picked_at a b is) (tells_too A chosen b (opened (A.transfer a b.elem)) (closed.closed.tells a b is));
    reaches = λ a b is. subst (Reaches (partly A chosen) t) (picked_at a b is) (reaches_too A chosen t (opened (A.transfer a b.elem)) (closed.closed.reaches a b is));
  }

  told : IsSoundTable (partly A chosen) (paused A M chosen) t
  told = closed_tables_are_sound (partly A chosen) (paused A M chosen) (partly_laws A chosen laws) (paused_sound A M chosen chosen_inside sound) t fits partly_closed

  module _ (d n : ℕ) (first s : S) (starts : M.starts first) (is : after (M.step d) n first ≡ at s) (until : IsUntilOpen M ends d n first) where
    paused_is : after ((paused A M chosen).step d) n first ≡ at s
    paused_is = run_same A M chosen d n 0 first s (λ m q less was. not_chosen (M.counter q) (until m q less was)) is

    held : IsTrue (is_code A.code (M.counter s)) → IsSomeAnd (t (M.counter s)) (λ b. A.elements.holds b.elem s)
    held code = told.holds d n first s starts paused_is code

    both : (next : S) (y : Option (Listing E)) (P Q : Listing E → Type 0) → IsSomeAnd y (λ b. P b × Q b) → IsSomeAnd y P
    both next None P Q h = h
    both next (Some b) P Q h = h.0

    led : (next : S) (reads : List Read) → ends (M.counter s) ≡ None → M.step d s ≡ goes next reads
        → IsSomeAnd (t (M.counter s)) (λ b. IsAmong (M.counter next) b.next ⊎ IsAmong (M.counter next) b.exits)
    led next reads shut steps =
        both next (t (M.counter s)) (λ b. IsAmong (M.counter next) b.next ⊎ IsAmong (M.counter next) b.exits) (λ b. AreSeen A M b.uses reads)
        (told.leads d n first s next reads starts paused_is (step_same A M chosen d s (not_chosen (M.counter s) shut) ∙ steps))

    -- the uses of a block cover the reads
    uses_cover : (b : Listing E) (o : Outcome E W) (next : S) (reads : List Read) → IsDecodable (ending_of o) → Tells (left_open A) b (opened o) → Describes A M o (goes next reads) → AreSeen A M b.uses reads
    uses_cover b (undecodable word) next reads decodable tells describes = absurd decodable
    uses_cover b (too_many shown uses) next reads decodable tells describes = subst (λ us. AreSeen A M us reads) (sym tells.2) describes
    uses_cover b (moves targets post uses) next reads decodable tells describes = subst (λ us. AreSeen A M us reads) (sym tells.2) describes.2
    uses_cover b (sends arrivals uses) next reads decodable tells describes = subst (λ us. AreSeen A M us reads) (sym tells.2) describes.1

    covered : (next : S) (reads : List Read) → IsDecodable (ends (M.counter s)) → M.step d s ≡ goes next reads → IsSomeAnd (t (M.counter s)) (λ b. AreSeen A M b.uses reads)
    covered next reads decodable steps = from (t (M.counter s)) refl (held code)
      where
        code : IsTrue (is_code A.code (M.counter s))
        code = by_bool (is_code A.code (M.counter s)) (λ b. is_code A.code (M.counter s) ≡ b → IsTrue b)
            (λ e is. refl)
            (λ e out. let leaves = sound.leaves d s out in cc)
            refl

        from : (y : Option (Listing E)) → t (M.counter s) ≡ y → IsSomeAnd y (λ b. A.elements.holds b.elem s) → IsSomeAnd y (λ b. AreSeen A M b.uses reads)
        from None is holds = holds
        from (Some b) is holds =
            let a = M.counter s in
            let here = fits a b is in
            uses_cover b (A.transfer a b.elem) next reads (subst IsDecodable (closed.endings a ∙ ap (ending_at A a) is) decodable) (closed.closed.tells a b is)
            (subst (Describes A M (A.transfer a b.elem)) steps (sound.transfer d b.elem s here.1 here.0 holds))

  stop_open : (d n : ℕ) (first s : S) (word done : ℕ) → M.starts first → after (M.step d) n first ≡ stopped (no_decoding word) s done
      → IsUntilOpen M ends d done first → IsSome (ends (M.counter s))
  stop_open d n first s word done starts is until = from (ends (M.counter s)) refl
    where
      from : (y : Option (_)) → ends (M.counter s) ≡ y → IsSome y
      from (Some e) here = refl
      from None here =
          absurd (told.decodes d n first s word done starts
          (stop_same A M chosen d n 0 first s (no_decoding word) done (λ m q less early was. not_chosen (M.counter q) (until m q (omega (arith, early)) was)) (not_chosen (M.counter s) here) is))

pub open_tables_are_sound : {E W S : Type 0} (A : Analysis E W S) (M : Machine S) → AnalysisLaws A → OpenTablesAreSound A M
open_tables_are_sound A M laws sound t ends fits closed = record {
  holds = λ d n first s starts is until code. held A M laws sound t ends fits closed d n first s starts is until code;
  decodes = λ d n first s word done starts is until. stop_open A M laws sound t ends fits closed d n first s word done starts is until;
  leads = λ d n first s next reads starts is until shut steps. led A M laws sound t ends fits closed d n first s starts is until next reads shut steps;
  covers = λ d n first s next reads starts is until decodable steps. covered A M laws sound t ends fits closed d n first s starts is until next reads decodable steps;
}
