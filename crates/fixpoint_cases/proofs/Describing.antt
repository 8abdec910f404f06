-- What cases send describes a step that one of them describes.
use Rattle.std.proofs.Common.{ℕ, List, [], ◌∷◌, ◌++◌, Option, None, Some, inl, inr}
use Rattle.std.specs.Prelude.{IsSomeAnd, fold}
use Rattle.base_trait.specs.Lists.{Each, IsAmong}
use Rattle.base_trait.specs.Uses.{AreCovering, Read, Seen}
use Rattle.fixpoint_theory.specs.Analysis.{Analysis, AnalysisLaws}
use Rattle.fixpoint_theory.specs.Outcome.{IfPost, Outcome, arrivals_behind, moves, sends, too_many, undecodable}
use Rattle.fixpoint_theory.specs.Runs.{AreSeen, Describes, Machine, Step, deep, goes, left, no_decoding, stops}
use Rattle.fixpoint_cases.specs.Lists.{OneOf}
use Rattle.fixpoint_cases.specs.Sent.{and_case, and_sent, merged, put_all, unless_many}
use Rattle.fixpoint_cases.proofs.Putting.{IsHeld, all_new, all_old, among_held, held_among, held_at_each}
use Rattle.fixpoint_cases.proofs.Sending.{behind_fits, case_fits}

covering_left : (us vs : List Seen) (r : Read) → AreCovering us r → AreCovering (us ++ vs) r
covering_left [] vs r h = absurd h
covering_left (u ∷ us) vs r (inl c) = inl c
covering_left (u ∷ us) vs r (inr h) = inr (covering_left us vs r h)

covering_right : (us vs : List Seen) (r : Read) → AreCovering vs r → AreCovering (us ++ vs) r
covering_right [] vs r h = h
covering_right (u ∷ us) vs r h = inr (covering_right us vs r h)

each_covered : (us vs : List Seen) (reads : List Read) → ((r : Read) → AreCovering us r → AreCovering vs r) → Each (AreCovering us) reads → Each (AreCovering vs) reads
each_covered us vs [] f h = tt
each_covered us vs (r ∷ reads) f h = (f r h.0, each_covered us vs reads f h.1)

module _ {E W S : Type 0} (A : Analysis E W S) (M : Machine S) (laws : AnalysisLaws A) where
  -- a step leads where an element arrives that holds of the next state, and the uses cover its reads
  abbrev LeadsTo : List (ℕ × E) → List Seen → Step S → Type 0
  LeadsTo arrivals uses (stops deep) = Unit {0}
  LeadsTo arrivals uses (stops left) = ⊥
  LeadsTo arrivals uses (stops (no_decoding word)) = ⊥
  LeadsTo arrivals uses (goes next reads) = OneOf (IsHeld A.elements laws.elements (M.counter next) next) arrivals × AreSeen A M uses reads

  seen_on : (us vs : List Seen) (reads : List Read) → ((r : Read) → AreCovering us r → AreCovering vs r) → AreSeen A M us reads → AreSeen A M vs reads
  seen_on us vs reads f h stamped = each_covered us vs reads f (h stamped)

  -- ---- descriptions by such parts
  -- what it gives describes the step, unless its targets are too many
  abbrev pub DescribesUnlessMany : Outcome E W → Step S → Type 0
  DescribesUnlessMany (undecodable word) step = Unit {0}
  DescribesUnlessMany (too_many shown uses) step = Unit {0}
  DescribesUnlessMany (moves targets post uses) step = Describes A M (moves targets post uses) step
  DescribesUnlessMany (sends arrivals uses) step = Describes A M (sends arrivals uses) step

  leads_sends : (arrivals : List (ℕ × E)) (uses : List Seen) (step : Step S) → LeadsTo arrivals uses step → Describes A M (sends arrivals uses) step
  leads_sends arrivals uses (stops deep) h = tt
  leads_sends arrivals uses (stops left) h = h
  leads_sends arrivals uses (stops (no_decoding word)) h = h
  leads_sends arrivals uses (goes next reads) h = (held_among A.elements laws.elements (M.counter next) next arrivals h.0, h.1)

  sends_leads : (arrivals : List (ℕ × E)) (uses : List Seen) (step : Step S) → Describes A M (sends arrivals uses) step → LeadsTo arrivals uses step
  sends_leads arrivals uses (stops deep) h = tt
  sends_leads arrivals uses (stops left) h = h
  sends_leads arrivals uses (stops (no_decoding word)) h = h
  sends_leads arrivals uses (goes next reads) h = (among_held A.elements laws.elements (M.counter next) next arrivals h.0.0 h.0.1 h.0.2, h.1)

  behind_held : (post : Option E) (targets : List ℕ) (next : S) → IsAmong (M.counter next) targets → IsSomeAnd post (λ x. A.elements.holds x next)
      → OneOf (IsHeld A.elements laws.elements (M.counter next) next) (arrivals_behind post targets)
  behind_held None targets next among holds = absurd holds
  behind_held (Some x) targets next among holds = held_at_each A.elements laws.elements (M.counter next) next x targets holds among

  moves_leads : (targets : List ℕ) (post : Option E) (uses : List Seen) (step : Step S) → Describes A M (moves targets post uses) step → LeadsTo (arrivals_behind post targets) uses step
  moves_leads targets post uses (stops deep) h = tt
  moves_leads targets post uses (stops left) h = h
  moves_leads targets post uses (stops (no_decoding word)) h = h
  moves_leads targets post uses (goes next reads) h = (behind_held post targets next h.0 h.1, h.2)

  -- ---- one case more
  more_old : (xs ys : List (ℕ × E)) (us vs : List Seen) (step : Step S) → Each (λ a. A.elements.fits a.1) xs → Each (λ a. A.elements.fits a.1) ys → LeadsTo ys us step
      → LeadsTo (put_all A.elements xs ys) (us ++ vs) step
  more_old xs ys us vs (stops deep) fx fy h = tt
  more_old xs ys us vs (stops left) fx fy h = h
  more_old xs ys us vs (stops (no_decoding word)) fx fy h = h
  more_old xs ys us vs (goes next reads) fx fy h =
      (all_old A.elements laws.elements (M.counter next) next xs ys fx fy h.0, seen_on us (us ++ vs) reads (covering_left us vs) h.1)

  more_new : (xs ys : List (ℕ × E)) (us vs : List Seen) (step : Step S) → Each (λ a. A.elements.fits a.1) xs → Each (λ a. A.elements.fits a.1) ys → LeadsTo xs vs step
      → LeadsTo (put_all A.elements xs ys) (us ++ vs) step
  more_new xs ys us vs (stops deep) fx fy h = tt
  more_new xs ys us vs (stops left) fx fy h = h
  more_new xs ys us vs (stops (no_decoding word)) fx fy h = h
  more_new xs ys us vs (goes next reads) fx fy h =
      (all_new A.elements laws.elements (M.counter next) next xs ys fx fy h.0, seen_on vs (us ++ vs) reads (covering_right us vs) h.1)

  module _ (step : Step S) where
    sent_old : (ys : List (ℕ × E)) (us : List Seen) (leaf : Outcome E W) → Each (λ a. A.elements.fits a.1) ys → IfPost A.elements.fits leaf → LeadsTo ys us step
        → DescribesUnlessMany (and_sent A.elements ys us leaf) step
    sent_old ys us (undecodable word) fy fl h = tt
    sent_old ys us (too_many shown more) fy fl h = tt
    sent_old ys us (moves targets post more) fy fl h =
        let xs = arrivals_behind post targets in
        leads_sends (put_all A.elements xs ys) (us ++ more) step (more_old xs ys us more step (behind_fits A.elements post targets fl) fy h)
    sent_old ys us (sends xs more) fy fl h = leads_sends (put_all A.elements xs ys) (us ++ more) step (more_old xs ys us more step fl fy h)

    sent_new : (ys : List (ℕ × E)) (us : List Seen) (leaf : Outcome E W) → Each (λ a. A.elements.fits a.1) ys → IfPost A.elements.fits leaf → Describes A M leaf step
        → DescribesUnlessMany (and_sent A.elements ys us leaf) step
    sent_new ys us (undecodable word) fy fl h = tt
    sent_new ys us (too_many shown more) fy fl h = tt
    sent_new ys us (moves targets post more) fy fl h =
        let xs = arrivals_behind post targets in
        leads_sends (put_all A.elements xs ys) (us ++ more) step (more_new xs ys us more step (behind_fits A.elements post targets fl) fy (moves_leads targets post more step h))
    sent_new ys us (sends xs more) fy fl h = leads_sends (put_all A.elements xs ys) (us ++ more) step (more_new xs ys us more step fl fy (sends_leads xs more step h))

    case_old : (so_far leaf : Outcome E W) → IfPost A.elements.fits so_far → IfPost A.elements.fits leaf → DescribesUnlessMany so_far step
        → DescribesUnlessMany (and_case A.elements so_far leaf) step
    case_old (undecodable word) leaf fs fl h = tt
    case_old (too_many shown us) leaf fs fl h = tt
    case_old (moves targets post us) leaf fs fl h = sent_old (arrivals_behind post targets) us leaf (behind_fits A.elements post targets fs) fl (moves_leads targets post us step h)
    case_old (sends ys us) leaf fs fl h = sent_old ys us leaf fs fl (sends_leads ys us step h)

    case_new : (so_far leaf : Outcome E W) → IfPost A.elements.fits so_far → IfPost A.elements.fits leaf → Describes A M leaf step → DescribesUnlessMany (and_case A.elements so_far leaf) step
    case_new (undecodable word) leaf fs fl h = tt
    case_new (too_many shown us) leaf fs fl h = tt
    case_new (moves targets post us) leaf fs fl h = sent_new (arrivals_behind post targets) us leaf (behind_fits A.elements post targets fs) fl h
    case_new (sends ys us) leaf fs fl h = sent_new ys us leaf fs fl h

    all_old_cases : (leaves : List (Outcome E W)) (so_far : Outcome E W) → IfPost A.elements.fits so_far → Each (IfPost A.elements.fits) leaves → DescribesUnlessMany so_far step
        → DescribesUnlessMany (fold (and_case A.elements) so_far leaves) step
    all_old_cases [] so_far fs fl h = h
    all_old_cases (leaf ∷ leaves) so_far fs fl h =
        all_old_cases leaves (and_case A.elements so_far leaf) (case_fits A.elements laws.elements so_far leaf fs fl.0) fl.1 (case_old so_far leaf fs fl.0 h)

    -- where one of the cases describes the step, what they send together does
    pub one_describes : (leaves : List (Outcome E W)) (so_far : Outcome E W) → IfPost A.elements.fits so_far → Each (IfPost A.elements.fits) leaves
        → OneOf (λ leaf. Describes A M leaf step) leaves → DescribesUnlessMany (fold (and_case A.elements) so_far leaves) step
    one_describes [] so_far fs fl h = absurd h
    one_describes (leaf ∷ leaves) so_far fs fl (inl h) =
        all_old_cases leaves (and_case A.elements so_far leaf) (case_fits A.elements laws.elements so_far leaf fs fl.0) fl.1 (case_new so_far leaf fs fl.0 h)
    one_describes (leaf ∷ leaves) so_far fs fl (inr h) =
        one_describes leaves (and_case A.elements so_far leaf) (case_fits A.elements laws.elements so_far leaf fs fl.0) fl.1 h

    -- with merged uses, and by the transfer of the element itself where the targets of a case are too many
    pub merged_describes : (merge : List Seen → List Seen) → ((uses : List Seen) (r : Read) → AreCovering uses r → AreCovering (merge uses) r) → (whole o : Outcome E W)
        → Describes A M whole step → DescribesUnlessMany o step → Describes A M (unless_many whole (merged merge o)) step
    merged_describes merge covers whole o d h = by o step d h
      where
        by : (o : Outcome E W) (step : Step S) → Describes A M whole step → DescribesUnlessMany o step → Describes A M (unless_many whole (merged merge o)) step
        by (undecodable word) step d h = tt
        by (too_many shown us) step d h = d
        by (moves targets post us) (stops deep) d h = tt
        by (moves targets post us) (stops left) d h = h
        by (moves targets post us) (stops (no_decoding word)) d h = h
        by (moves targets post us) (goes next reads) d h = (h.0, h.1, seen_on us (merge us) reads (covers us) h.2)
        by (sends xs us) (stops deep) d h = tt
        by (sends xs us) (stops left) d h = h
        by (sends xs us) (stops (no_decoding word)) d h = h
        by (sends xs us) (goes next reads) d h = (h.0, seen_on us (merge us) reads (covers us) h.1)
