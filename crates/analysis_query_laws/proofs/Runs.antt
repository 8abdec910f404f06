-- The run with the numbers of its steps for stamps is the run of the meaning, but for stamps.
use Rattle.std.proofs.Common.{◌≡◌, ◌∙◌, ℕ, zero, suc, ◌+◌, ◌-◌, ◌≤◌, Bool, true, false, arith, List, [], ◌∷◌, Option, Some, None, map as map_of, refl, sym, ap, subst}
use Rattle.std.specs.Prelude.{IsSomeAnd, nat_le, option_and_then, if◌then◌else◌}
use Rattle.std.proofs.lemmas.Bool.Decides.{nat_tests}
use Rattle.base_trait.specs.Lists.{Each}
use Rattle.base_trait.specs.Uses.{Read}
use Rattle.base_trait.specs.declared.uses.Stamp.{Stamp}
use Rattle.base_trait.specs.declared.uses.Stamp.TheVariants.{Entry, At}
use Rattle.spec_ir.specs.declared.spec.Machine.{Machine}
use Rattle.spec_ir.specs.Specification.{Spec}
use Rattle.semantics_values.specs.States.{State}
use Rattle.semantics.specs.Runs as r
use Rattle.semantics.specs.Runs.{Ended, Stepped, after, goes_on, run_from, step, steps_to}
use Rattle.analysis_query_laws.specs.Chains.{IsNoLater, addressed, before, next_of, reads_of, stamp_at, step_as}
use Rattle.analysis_query_laws.specs.Restamped.{restamped_read, restamped_state, restamped_step}
use Rattle.analysis_query_laws.proofs.Steps.{step_changed, to_other}

module _ (spec : Spec) (machine : Machine) (code : ℕ → Option ℕ) (d : ℕ) where
  abbrev run : ℕ → ℕ → State → Ended
  run = run_from spec machine code d

  abbrev onward : (State → Ended) → ℕ → State → Stepped → Ended
  onward = goes_on spec machine code d

  abbrev a_step : State → Stepped
  a_step = step spec machine code d

  -- one more step
  pub one_more : (n done : ℕ) (s next : State) (reads : List Read) → (run n done s).stop ≡ r.Stop.bound → a_step (run n done s).state ≡ steps_to next reads
      → ((run (suc n) done s).stop ≡ r.Stop.bound) × ((run (suc n) done s).state ≡ next)
  one_more zero done s next reads stop is = subst (λ x. ((onward (run zero (suc done)) done s x).stop ≡ r.Stop.bound) × ((onward (run zero (suc done)) done s x).state ≡ next)) (sym is) (refl, refl)
  one_more (suc n) done s next reads stop is = by_step (a_step s) stop is (λ mid. one_more n (suc done) mid next reads)
    where
      by_step : (x : Stepped) → (onward (run n (suc done)) done s x).stop ≡ r.Stop.bound → a_step (onward (run n (suc done)) done s x).state ≡ steps_to next reads
          → ((mid : State) → (run n (suc done) mid).stop ≡ r.Stop.bound → a_step (run n (suc done) mid).state ≡ steps_to next reads
          → ((run (suc n) (suc done) mid).stop ≡ r.Stop.bound) × ((run (suc n) (suc done) mid).state ≡ next))
          → ((onward (run (suc n) (suc done)) done s x).stop ≡ r.Stop.bound) × ((onward (run (suc n) (suc done)) done s x).state ≡ next)
      by_step (r.steps_to mid seen) stop is more = more mid stop is
      by_step r.left stop is more = cc
      by_step (r.undecodable code_word) stop is more = cc
      by_step r.deep stop is more = cc
      by_step r.wrong stop is more = cc

  -- one step less
  pub one_less : (n done : ℕ) (s : State) → (run (suc n) done s).stop ≡ r.Stop.bound
      → ((run n done s).stop ≡ r.Stop.bound) × ((next : State) × (reads : List Read) × (a_step (run n done s).state ≡ steps_to next reads))
  one_less zero done s stop = by_step (a_step s) refl stop
    where
      by_step : (x : Stepped) → a_step s ≡ x → (onward (run zero (suc done)) done s x).stop ≡ r.Stop.bound
          → (r.Stop.bound ≡ r.Stop.bound) × ((next : State) × (reads : List Read) × (a_step s ≡ steps_to next reads))
      by_step (r.steps_to next reads) is stop = (refl, (next, reads, is))
      by_step r.left is stop = cc
      by_step (r.undecodable code_word) is stop = cc
      by_step r.deep is stop = cc
      by_step r.wrong is stop = cc
  one_less (suc n) done s stop = by_step (a_step s) stop (λ mid. one_less n (suc done) mid)
    where
      by_step : (x : Stepped) → (onward (run (suc n) (suc done)) done s x).stop ≡ r.Stop.bound
          → ((mid : State) → (run (suc n) (suc done) mid).stop ≡ r.Stop.bound
          → ((run n (suc done) mid).stop ≡ r.Stop.bound) × ((next : State) × (reads : List Read) × (a_step (run n (suc done) mid).state ≡ steps_to next reads)))
          → ((onward (run n (suc done)) done s x).stop ≡ r.Stop.bound) × ((next : State) × (reads : List Read) × (a_step (onward (run n (suc done)) done s x).state ≡ steps_to next reads))
      by_step (r.steps_to mid seen) stop more = more mid stop
      by_step r.left stop more = cc
      by_step (r.undecodable code_word) stop more = cc
      by_step r.deep stop more = cc
      by_step r.wrong stop more = cc

  -- ---- the run from a state that has the entry's stamps alone
  module _ (first : State) (entry : (f : Stamp → Stamp) → f Entry ≡ Entry → restamped_state f first ≡ first) where
    abbrev at : ℕ → Option State
    at = before spec machine code d first

    abbrev to : Stamp → Stamp
    to = addressed spec machine code d first

    abbrev numbered : ℕ → State → Stepped
    numbered = step_as spec machine code d

    -- a step from a state of the run
    pub step_at : (n : ℕ) (s : State) → at n ≡ Some s → a_step (restamped_state to s) ≡ restamped_step to (numbered n s)
    step_at n s is = step_changed spec machine code d to n s (ap (stamp_at spec machine code d first) is)

    pub states_at : (n : ℕ) (s : State) → at n ≡ Some s → ((run n 0 first).stop ≡ r.Stop.bound) × ((run n 0 first).state ≡ restamped_state to s)
    states_at zero s is = let same : first ≡ s = cc in (refl, sym (entry to refl) ∙ ap (restamped_state to) same)
    states_at (suc n) s is = by_state (at n) refl (states_at n) is
      where
        by_step : (prev : State) → at n ≡ Some prev → ((run n 0 first).stop ≡ r.Stop.bound) × ((run n 0 first).state ≡ restamped_state to prev) → (x : Stepped) → numbered n prev ≡ x → next_of x ≡ Some s
            → ((run (suc n) 0 first).stop ≡ r.Stop.bound) × ((run (suc n) 0 first).state ≡ restamped_state to s)
        by_step prev is so_far (r.steps_to next reads) e n_is =
            let same : next ≡ s = cc in
            let goes = ap a_step so_far.1 ∙ step_at n prev is ∙ ap (restamped_step to) e in
            let more = one_more n 0 first (restamped_state to next) (map_of (restamped_read to) reads) so_far.0 goes in
            (more.0, more.1 ∙ ap (restamped_state to) same)
        by_step prev is so_far r.left e n_is = cc
        by_step prev is so_far (r.undecodable code_word) e n_is = cc
        by_step prev is so_far r.deep e n_is = cc
        by_step prev is so_far r.wrong e n_is = cc

        by_state : (o : Option State) → at n ≡ o → ((prev : State) → at n ≡ Some prev → ((run n 0 first).stop ≡ r.Stop.bound) × ((run n 0 first).state ≡ restamped_state to prev))
            → option_and_then (λ s. next_of (numbered n s)) o ≡ Some s → ((run (suc n) 0 first).stop ≡ r.Stop.bound) × ((run (suc n) 0 first).state ≡ restamped_state to s)
        by_state None is so_far h = cc
        by_state (Some prev) is so_far h = by_step prev is (so_far prev is) (numbered n prev) refl h

    -- the numbered run comes as far as the run of the meaning
    pub comes : (n : ℕ) → (run n 0 first).stop ≡ r.Stop.bound → (s : State) × (at n ≡ Some s)
    comes zero stop = (first, refl)
    comes (suc n) stop = let before_it = one_less n 0 first stop in from (comes n before_it.0) before_it.1
      where
        by_step : (x : Stepped) → (prev next : State) (reads : List Read) → at n ≡ Some prev → numbered n prev ≡ x → restamped_step to x ≡ steps_to next reads → (s : State) × (at (suc n) ≡ Some s)
        by_step (r.steps_to after_it seen) prev next reads is e h = (after_it, ap (option_and_then (λ s. next_of (numbered n s))) is ∙ ap next_of e)
        by_step r.left prev next reads is e h = cc
        by_step (r.undecodable code_word) prev next reads is e h = cc
        by_step r.deep prev next reads is e h = cc
        by_step r.wrong prev next reads is e h = cc

        from : (prev : State) × (at n ≡ Some prev) → (next : State) × (reads : List Read) × (a_step (run n 0 first).state ≡ steps_to next reads) → (s : State) × (at (suc n) ≡ Some s)
        from p q =
            let so_far = states_at n p.0 p.1 in
            by_step (numbered n p.0) p.0 q.0 q.1 p.1 refl (sym (step_at n p.0 p.1) ∙ ap a_step (sym so_far.1) ∙ q.2)

    -- ---- stamps are those of steps of the run
    -- what f leaves alone where it leaves the stamps of the steps up to a number alone
    module _ (f : Stamp → Stamp) (last : ℕ) (own_entry : f Entry ≡ Entry) (own : (i : ℕ) → i ≤ last → f (At i) ≡ At i) where
      step_stays : (n : ℕ) (s : State) → n ≤ last → restamped_state f s ≡ s → numbered n s ≡ restamped_step f (numbered n s)
      step_stays n s le stays = ap (numbered n) (sym stays) ∙ to_other spec machine code d f n n s (own n le)

      state_stays : (n : ℕ) (s : State) → n ≤ last → at n ≡ Some s → restamped_state f s ≡ s
      state_stays zero s le is = let same : first ≡ s = cc in subst (λ z. restamped_state f z ≡ z) same (entry f own_entry)
      state_stays (suc n) s le is = by_state (at n) refl (λ prev is. state_stays n prev (omega (arith, le)) is) (omega (arith, le)) is
        where
          by_step : (x : Stepped) → x ≡ restamped_step f x → next_of x ≡ Some s → restamped_state f s ≡ s
          by_step (r.steps_to next reads) stays is =
              let same : next ≡ s = cc in
              let kept : next ≡ restamped_state f next = cc in
              subst (λ z. restamped_state f z ≡ z) same (sym kept)
          by_step r.left stays is = cc
          by_step (r.undecodable code_word) stays is = cc
          by_step r.deep stays is = cc
          by_step r.wrong stays is = cc

          by_state : (o : Option State) → at n ≡ o → ((prev : State) → at n ≡ Some prev → restamped_state f prev ≡ prev) → n ≤ last → option_and_then (λ s. next_of (numbered n s)) o ≡ Some s
              → restamped_state f s ≡ s
          by_state None is kept le h = cc
          by_state (Some prev) is kept le h = by_step (numbered n prev) (step_stays n prev le (kept prev is)) h

    -- a later number becomes the entry
    abbrev up_to : ℕ → Stamp → Stamp
    up_to last Entry = Entry
    up_to last (At i) = if nat_le i last then At i else Entry

    up_to_own : (last i : ℕ) → i ≤ last → up_to last (At i) ≡ At i
    up_to_own last i le = let test : nat_le i last ≡ true = grind (arith, nat_tests) in ap (λ b. if b then At i else Entry) test

    no_later : (last : ℕ) (s : Stamp) → s ≡ up_to last s → IsNoLater last s
    no_later last Entry e = tt
    no_later last (At i) e = by_test (nat_le i last) refl e
      where
        by_test : (b : Bool) → nat_le i last ≡ b → At i ≡ (if b then At i else Entry) → i ≤ last
        by_test true test e = grind (arith, nat_tests)
        by_test false test e = cc

    all_no_later : (last : ℕ) (reads : List Read) → reads ≡ map_of (restamped_read (up_to last)) reads → Each (λ x. IsNoLater last x.stamp) reads
    all_no_later last [] e = tt
    all_no_later last (x ∷ reads) e =
        let here : x ≡ restamped_read (up_to last) x = cc in
        let later : reads ≡ map_of (restamped_read (up_to last)) reads = cc in
        (no_later last x.stamp (ap (λ (z : Read). z.stamp) here), all_no_later last reads later)

    -- what a step reads was put by it or by a step before it, or is of the entry
    pub reads_earlier : (n : ℕ) (s : State) → at n ≡ Some s → Each (λ x. IsNoLater n x.stamp) (reads_of (numbered n s))
    reads_earlier n s is =
        let le : n ≤ n = omega arith in
        by_step (numbered n s) (step_stays (up_to n) n refl (up_to_own n) n s le (state_stays (up_to n) n refl (up_to_own n) n s le is))
      where
        by_step : (x : Stepped) → x ≡ restamped_step (up_to n) x → Each (λ x. IsNoLater n x.stamp) (reads_of x)
        by_step (r.steps_to next reads) e = let same : reads ≡ map_of (restamped_read (up_to n)) reads = cc in all_no_later n reads same
        by_step r.left e = tt
        by_step (r.undecodable code_word) e = tt
        by_step r.deep e = tt
        by_step r.wrong e = tt

    -- ---- earlier steps
    one_earlier : (n : ℕ) (s : State) → at (suc n) ≡ Some s → (prev : State) × (at n ≡ Some prev)
    one_earlier n s is = by_state (at n) refl is
      where
        by_state : (o : Option State) → at n ≡ o → option_and_then (λ s. next_of (numbered n s)) o ≡ Some s → (prev : State) × (at n ≡ Some prev)
        by_state None e h = cc
        by_state (Some prev) e h = (prev, e)

    earlier : (n i : ℕ) (s : State) → at n ≡ Some s → i ≤ n → (prev : State) × (at i ≡ Some prev)
    earlier n i s is le = down n s is (n - i) (omega (arith, le))
      where
        down : (m : ℕ) (s : State) → at m ≡ Some s → (k : ℕ) → i + k ≡ m → (prev : State) × (at i ≡ Some prev)
        down m s is zero e = let same : m ≡ i = omega (arith, e) in (s, subst (λ z. at z ≡ Some s) same is)
        down m s is (suc k) e = let next : m ≡ suc (i + k) = omega (arith, e) in let before_it = one_earlier (i + k) s (subst (λ z. at z ≡ Some s) next is) in down (i + k) before_it.0 before_it.1 k refl

    abbrev pub IsKnown : Stamp → Type 0
    IsKnown Entry = Unit {0}
    IsKnown (At i) = IsSomeAnd (at i) (λ s. Unit {0})

    stamp_known : (n : ℕ) (s : State) → at n ≡ Some s → (x : Stamp) → IsNoLater n x → IsKnown x
    stamp_known n s is Entry h = tt
    stamp_known n s is (At i) h = let found = earlier n i s is h in subst (λ o. IsSomeAnd o (λ s. Unit {0})) (sym found.1) tt

    all_known : (n : ℕ) (s : State) → at n ≡ Some s → (reads : List Read) → Each (λ x. IsNoLater n x.stamp) reads → Each (λ x. IsKnown x.stamp) reads
    all_known n s is [] h = tt
    all_known n s is (x ∷ reads) h = (stamp_known n s is x.stamp h.0, all_known n s is reads h.1)

    -- so it was put by a step of the run
    pub reads_known : (n : ℕ) (s : State) → at n ≡ Some s → Each (λ x. IsKnown x.stamp) (reads_of (numbered n s))
    reads_known n s is = all_known n s is (reads_of (numbered n s)) (reads_earlier n s is)
