-- Slices of tables hold chains: of those that are true of every run each chain, and of others those up to which their uses cover the reads of steps.
use Rattle.std.proofs.Common.{◌≡◌, ◌∙◌, ℕ, ◌≤◌, Bool, true, false, cond, List, [], ◌∷◌, Option, Some, None, map as map_of, inl, inr, refl, sym, ap, subst, arith}
use Rattle.std.specs.Prelude.{◌==◌, IsSome, IsSomeAnd}
use Rattle.std.specs.List.{filter}
use Rattle.std.proofs.lemmas.Bool.Decides.{nat_tests}
use Rattle.base_trait.specs.Algebra.{Algebra}
use Rattle.base_trait.specs.Lists.{Each, IsAmong}
use Rattle.base_trait.specs.Uses.{AreCovering, IsKey, Read, Seen}
use Rattle.base_trait.specs.declared.uses.Stamp.{Stamp}
use Rattle.base_trait.specs.declared.uses.Stamp.TheVariants.{Entry}
use Rattle.base_trait.proofs.Lists.{each_at}
use Rattle.base_trait.proofs.Tests.{and_both}
use Rattle.semantics_values.specs.States.{State}
use Rattle.semantics_values.specs.Types.{environment_of}
use Rattle.semantics.specs.Runs as r
use Rattle.semantics.specs.Runs.{Stepped, step}
use Rattle.fixpoint_theory.specs.Elements.{Elements}
use Rattle.fixpoint_theory.specs.Table.{Listing, Listings}
use Rattle.domain_laws.specs.States.{state_types}
use Rattle.analysis_transfer_laws.specs.Problem.{Problem}
use Rattle.analysis_transfer_laws.specs.Runs.{Begins, IsListed, run_of}
use Rattle.analysis_query_laws.specs.Chains.{IsChain, addressed, before, reads_from, reads_of, step_as}
use Rattle.analysis_query_laws.specs.SliceLaws.{HoldsChain, IsReadAt, IsRunOf, NumberedRunsAreRuns, SlicesHoldChains}
use Rattle.analysis_query_laws.specs.Restamped.{restamped_read, restamped_state, restamped_step}
use Rattle.analysis_query_laws.specs.Slices.{IsReached, IsSlice, asked_uses, is_asked, listed_uses, may_meet, uses_in}
use Rattle.analysis_query_laws.proofs.Begins.{entry_stays}
use Rattle.analysis_query_laws.proofs.Chains.{IsFollowed, chain_met, covering_from}
use Rattle.analysis_query_laws.proofs.Runs.{comes, reads_earlier, reads_known, states_at, step_at}

-- ---- the uses that are asked for cover the reads that are
key_meets : (key own : Option ℕ) (k : ℕ) → IsKey own k → IsKey key k → may_meet key own ≡ true
key_meets None own k h g = refl
key_meets (Some j) None k h g = refl
key_meets (Some j) (Some i) k h g = grind (arith, nat_tests)

covering_asked : (us : List Seen) (m : ℕ) (key : Option ℕ) (x : Read) → AreCovering us x → x.of_map ≡ m → IsKey key x.key → AreCovering (filter (is_asked m key) us) x
covering_asked [] m key x h e k = absurd h
covering_asked (u ∷ us) m key x (inl c) e k =
    let same : (u.of_map == m) ≡ true = same_map u.of_map x.of_map m c.of_map e in
    let asked : is_asked m key u ≡ true = and_both (u.of_map == m) (may_meet key u.key) same (key_meets key u.key x.key c.key k) in
    subst (λ b. AreCovering (cond b (u ∷ filter (is_asked m key) us) (filter (is_asked m key) us)) x) (sym asked) (inl c)
  where
    same_map : (i j m : ℕ) → i ≡ j → j ≡ m → (i == m) ≡ true
    same_map i j m e f = grind (arith, nat_tests)
covering_asked (u ∷ us) m key x (inr h) e k = either (is_asked m key u) (covering_asked us m key x h e k)
  where
    either : (b : Bool) → AreCovering (filter (is_asked m key) us) x → AreCovering (cond b (u ∷ filter (is_asked m key) us) (filter (is_asked m key) us)) x
    either true h = inr h
    either false h = h

-- ---- runs
module _ (p : Problem) (d : ℕ) (first : State) (begins : Begins p first) where
  abbrev pub starts : (f : Stamp → Stamp) → f Entry ≡ Entry → restamped_state f first ≡ first
  starts f e = entry_stays f e (environment_of p.spec) p.lines (state_types p.spec) p.pc first begins

pub numbered_runs_are_runs : NumberedRunsAreRuns
numbered_runs_are_runs p d first begins = record {
  comes = λ n stop. let found = comes p.spec p.machine p.word_at d first (starts p d first begins) n stop in subst IsSome (sym found.1) refl;
  states = states_at p.spec p.machine p.word_at d first (starts p d first begins);
  steps = step_at p.spec p.machine p.word_at d first (starts p d first begins);
  earlier = reads_earlier p.spec p.machine p.word_at d first (starts p d first begins);
}

-- ---- the slice of a table whose uses cover the reads of each step up to some number
module _ {E : Type 0} (p : Problem) (t : Listings E) (d : ℕ) (first : State) (begins : Begins p first) (Upto : ℕ → Type 0) (sooner : (i n : ℕ) → i ≤ n → Upto n → Upto i)
    (covers : (n : ℕ) (next : State) (reads : List Read) → Upto n → (run_of p d n first).stop ≡ r.Stop.bound → step p.spec p.machine p.word_at d (run_of p d n first).state ≡ r.steps_to next reads
    → IsSomeAnd (t (run_of p d n first).state.pc) (λ b. Each (AreCovering b.uses) reads)) where
  abbrev at : ℕ → Option State
  at = before p.spec p.machine p.word_at d first

  abbrev to : Stamp → Stamp
  to = addressed p.spec p.machine p.word_at d first

  abbrev numbered : ℕ → State → Stepped
  numbered = step_as p.spec p.machine p.word_at d

  abbrev seen_at : ℕ → List Seen
  seen_at = listed_uses t

  of_run : IsRunOf p d first
  of_run = numbered_runs_are_runs p d first begins

  block_covers : (o : Option (Listing E)) (reads : List Read) → IsSomeAnd o (λ b. Each (AreCovering b.uses) reads) → Each (AreCovering (uses_in o)) reads
  block_covers None reads h = absurd h
  block_covers (Some b) reads h = h

  each_back : (us : List Seen) (reads : List Read) → Each (AreCovering us) (map_of (restamped_read to) reads) → Each (λ x. AreCovering us (restamped_read to x)) reads
  each_back us [] h = tt
  each_back us (x ∷ reads) h = (h.0, each_back us reads h.1)

  covered : (n : ℕ) (s : State) → Upto n → at n ≡ Some s → Each (λ x. AreCovering (seen_at s.pc) (restamped_read to x)) (reads_of (numbered n s))
  covered n s upto here = by_step (numbered n s) (of_run.steps n s here)
    where
      so_far : ((run_of p d n first).stop ≡ r.Stop.bound) × ((run_of p d n first).state ≡ restamped_state to s)
      so_far = of_run.states n s here

      by_step : (x : Stepped) → step p.spec p.machine p.word_at d (restamped_state to s) ≡ restamped_step to x → Each (λ x. AreCovering (seen_at s.pc) (restamped_read to x)) (reads_of x)
      by_step (r.steps_to next reads) e =
          let goes = ap (step p.spec p.machine p.word_at d) so_far.1 ∙ e in
          let told = covers n (restamped_state to next) (map_of (restamped_read to) reads) upto so_far.0 goes in
          let covering = block_covers (t (run_of p d n first).state.pc) (map_of (restamped_read to) reads) told in
          each_back (seen_at s.pc) reads (subst (λ (z : State). Each (AreCovering (seen_at z.pc)) (map_of (restamped_read to) reads)) so_far.1 covering)
      by_step r.left e = tt
      by_step (r.undecodable code_word) e = tt
      by_step r.deep e = tt
      by_step r.wrong e = tt

  -- the uses that are asked for are those from which the read is
  asked_followed : (here m : ℕ) (key : Option ℕ) (n : ℕ) (x : Read) → Upto n → IsReadAt p d first here m key n x
      → IsFollowed seen_at p.spec p.machine p.word_at d first (starts p d first begins) n (asked_uses seen_at here m key) x
  asked_followed here m key n x upto of_read =
      let s = of_read.state in
      let all = reads_of (numbered n s) in
      let reads = subst (λ o. IsAmong x (reads_from p.spec p.machine p.word_at d first n o)) of_read.stands of_read.read in
      let covering = each_at (λ x. AreCovering (seen_at s.pc) (restamped_read to x)) all x (covered n s upto of_read.stands) reads in
      let own = subst (λ a. AreCovering (seen_at a) (restamped_read to x)) of_read.address covering in
      let asked = covering_asked (seen_at here) m key (restamped_read to x) own of_read.of_map of_read.of_key in
      let known = each_at _ all x (reads_known p.spec p.machine p.word_at d first (starts p d first begins) n s of_read.stands) reads in
      let earlier = each_at _ all x (of_run.earlier n s of_read.stands) reads in
      (covering_from (asked_uses seen_at here m key) (restamped_read to x) asked, known, earlier)

  held : (from : List Seen) (addresses steps : List ℕ) → ((a : ℕ) → IsReached seen_at from a → IsAmong a addresses) → Each (λ i. IsSomeAnd (at i) (λ s. IsReached seen_at from s.pc)) steps
      → Each (λ i. IsSomeAnd (at i) (λ s. IsAmong s.pc addresses)) steps
  held from addresses [] all h = tt
  held from addresses (i ∷ steps) all h = (by_state (at i) h.0, held from addresses steps all h.1)
    where
      by_state : (o : Option State) → IsSomeAnd o (λ s. IsReached seen_at from s.pc) → IsSomeAnd o (λ s. IsAmong s.pc addresses)
      by_state None h = absurd h
      by_state (Some s) h = all s.pc h

  pub holds_chain : (here m : ℕ) (key : Option ℕ) (told : Bool) (addresses : List ℕ) → IsSlice t here m key told addresses → (n : ℕ) (x : Read) (steps : List ℕ) → Upto n → IsReadAt p d first here m key n x
      → IsChain p.spec p.machine p.word_at d first (x ∷ []) steps → HoldsChain p d first told addresses x steps
  holds_chain here m key told addresses slice n x steps upto of_read chain =
      let from = asked_uses seen_at here m key in
      let found = chain_met seen_at p.spec p.machine p.word_at d first (starts p d first begins) Upto sooner covered n from (x ∷ []) steps upto (asked_followed here m key n x upto of_read, tt) chain in
      record { addresses_held = held from addresses steps (λ a h. (slice.members a).1 h) found.reached; entry_held = λ k. slice.entry.1 (found.entry_reached k) }

-- ---- the slice of a table that is true of every run

-- what a block says of the uses of a step, where the base tells stamps
uses_cover : {E S : Type 0} (stamped : S) (o : Option (Listing E)) (P : Listing E → Type 0) (reads : List Read) → IsSomeAnd o (λ b. P b × (S → Each (AreCovering b.uses) reads)) → IsSomeAnd o (λ b. Each (AreCovering b.uses) reads)
uses_cover stamped None P reads h = absurd h
uses_cover stamped (Some b) P reads h = h.1 stamped

pub slices_hold_chains : {E W N C : Type 0} (B : Algebra W N C) (D : Elements E State) → SlicesHoldChains B D
slices_hold_chains B D p t at m key told addresses is stamped slice d n first x steps begins of_read chain =
    holds_chain p t d first begins (λ n. Unit {0}) (λ i n le h. tt)
    (λ n next reads upto stop goes. uses_cover stamped (t (run_of p d n first).state.pc) (λ b. IsListed p b next.pc) reads (is.leads d n first next reads begins stop goes))
    at m key told addresses slice n x steps tt of_read chain
