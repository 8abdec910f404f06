-- Runs in the words of the meaning are those of the machine, and what a table that is left open says of them.
use Rattle.std.proofs.Common.{◌≡◌, ◌∙◌, ℕ, zero, suc, Bool, true, List, Option, Some, None, ◌⊎◌, refl, sym, ap, subst, IsTrue}
use Rattle.std.specs.Prelude.{IsSome, IsSomeAnd}
use Rattle.base_trait.specs.Algebra.{Algebra}
use Rattle.base_trait.specs.Laws.{Laws}
use Rattle.base_trait.specs.Lists.{Each, IsAmong}
use Rattle.base_trait.specs.Uses.{AreCovering, Read}
use Rattle.spec_ir.specs.Specification.{Spec}
use Rattle.spec_ir.specs.declared.spec.Machine.{Machine}
use Rattle.spec_ir.specs.declared.ty.Ty.TheVariants.{Data as DataTy}
use Rattle.semantics_values.specs.States.{State, value_of}
use Rattle.semantics_values.specs.Types.{environment_of, has_type}
use Rattle.semantics_values.specs.Values.{Val}
use Rattle.semantics.specs.Decode.{decoded}
use Rattle.semantics.specs.Runs as r
use Rattle.semantics.specs.Runs.{Ended, Stepped}
use Rattle.semantics_laws.specs.KeptTypes.{IsTypedState}
use Rattle.semantics_laws.proofs.Kept.{runs_keep_types}
use Rattle.abstract_value_laws.specs.Abs.{Abs}
use Rattle.support_tail_fixpoint.specs.Answer.{fails, gives}
use Rattle.abstract_semantics.specs.Answers.{Answer}
use Rattle.fixpoint_theory.specs.Analysis.{Analysis}
use Rattle.fixpoint_theory.specs.Elements.{Elements}
use Rattle.fixpoint_theory.specs.Outcome.{Outcome, moves, sends, too_many, undecodable}
use Rattle.fixpoint_theory.specs.Runs as m
use Rattle.fixpoint_theory.specs.Runs.{After, at, no_decoding, stopped}
use Rattle.fixpoint_theory.specs.Table.{Listing, Listings, Tells}
use Rattle.domain_laws.specs.Domain.{Meaning}
use Rattle.domain_laws.specs.States.{IsState, number_in}
use Rattle.fixpoint_open_tables.specs.Endings.{Endings, IsClosedButOpen, IsDecodable, IsNowhereOpen, ending_at}
use Rattle.fixpoint_open_tables.specs.LeftOpen.{ending_of, left_open}
use Rattle.fixpoint_open_tables.specs.Runs.{IsSoundUntilOpen, IsUntilOpen}
use Rattle.analysis_transfer_laws.specs.Analysis.{analysis_of, machine_of, step_of}
use Rattle.analysis_transfer_laws.specs.Laws.{IsAnalysed}
use Rattle.analysis_transfer_laws.specs.Problem.{Problem}
use Rattle.analysis_transfer_laws.specs.Transfer.{arguments, counter_of, executed, fetched, moved, moved_to, outcome_of, transfer_of}
use Rattle.analysis_transfer_laws.specs.Runs.{Begins, IsListed, IsTrueOfRuns, run_of}
use Rattle.analysis_transfer_laws.proofs.Runs.{listed_by}
use Rattle.analysis_transfer_laws.proofs.Sound.{transfers_are_sound}
use Rattle.analysis_transfer_laws.specs.OpenRuns.{IsClosedBefore, IsTrueUntilOpen, OpenTruthIsTruth}

module _ (p : Problem) (d : ℕ) where
  -- the run of the machine that ends as this one
  abbrev as_after : r.Stop → Ended → After State
  as_after r.Stop.bound e = at e.state
  as_after r.Stop.left e = stopped m.left e.state e.done
  as_after (r.Stop.undecodable code_word) e = stopped (no_decoding code_word) e.state e.done
  as_after r.Stop.turns e = stopped m.deep e.state e.done
  as_after r.Stop.wrong e = stopped (no_decoding 0) e.state e.done

  runs_alike : (n done : ℕ) (s : State) → m.run_from ((machine_of p).step d) n done s
      ≡ as_after (r.run_from p.spec p.machine p.word_at d n done s).stop (r.run_from p.spec p.machine p.word_at d n done s)
  runs_alike zero done s = refl
  runs_alike (suc n) done s = by_step (r.step p.spec p.machine p.word_at d s) (λ next. runs_alike n (suc done) next)
    where
      by_step : (x : Stepped) → ((next : State) → m.run_from ((machine_of p).step d) n (suc done) next
          ≡ as_after (r.run_from p.spec p.machine p.word_at d n (suc done) next).stop (r.run_from p.spec p.machine p.word_at d n (suc done) next))
          → m.goes_on ((machine_of p).step d) (m.run_from ((machine_of p).step d) n (suc done)) done s (step_of x)
          ≡ as_after (r.goes_on p.spec p.machine p.word_at d (r.run_from p.spec p.machine p.word_at d n (suc done)) done s x).stop (r.goes_on p.spec p.machine p.word_at d (r.run_from p.spec p.machine p.word_at d n (suc done)) done s x)
      by_step (r.steps_to next reads) more = more next
      by_step r.left more = refl
      by_step (r.undecodable code_word) more = refl
      by_step r.deep more = refl
      by_step r.wrong more = refl

  -- where the run of the meaning stops so
  run_is : (n : ℕ) (first : State) (stop : r.Stop) → (run_of p d n first).stop ≡ stop → m.after ((machine_of p).step d) n first ≡ as_after stop (run_of p d n first)
  run_is n first stop is = runs_alike n 0 first ∙ ap (λ z. as_after z (run_of p d n first)) is

  -- where that of the machine goes on, it is at the same state
  same_state : (stop : r.Stop) (e : Ended) (s : State) → as_after stop e ≡ at s → e.state ≡ s
  same_state r.Stop.bound e s same = cc
  same_state r.Stop.left e s same = cc
  same_state (r.Stop.undecodable code_word) e s same = cc
  same_state r.Stop.turns e s same = cc
  same_state r.Stop.wrong e s same = cc

  state_is : (n : ℕ) (first s : State) → m.after ((machine_of p).step d) n first ≡ at s → (run_of p d n first).state ≡ s
  state_is n first s same = same_state (run_of p d n first).stop (run_of p d n first) s (sym (runs_alike n 0 first) ∙ same)

  -- so both are until the same open address
  until : {W : Type 0} (ends : Endings W) (n : ℕ) (first : State) → IsClosedBefore p ends d n first → IsUntilOpen (machine_of p) ends d n first
  until ends n first closed k s lt same = subst (λ (z : State). ends z.pc ≡ None) (state_is k first s same) (closed k lt)

typed_state : (spec : Spec) (machine : Machine) (s : State) → spec.machine ≡ Some machine → IsState spec s → IsTypedState (environment_of spec) machine.state s
typed_state spec machine s is typed = subst (λ o. has_type (environment_of spec) (value_of (number_in spec o) s) (DataTy (number_in spec o)) ≡ true) is typed

-- ---- what is listed
element_holds : {E : Type 0} (D : Elements E State) (p : Problem) (s : State) (o : Option (Listing E)) → IsSomeAnd o (λ b. IsState p.spec s × D.holds b.elem s) → IsSomeAnd o (λ b. D.holds b.elem s)
element_holds D p s None h = h
element_holds D p s (Some b) h = h.1

seen_uses : {E : Type 0} (stamped : Bool) (reads : List Read) (o : Option (Listing E)) → IsTrue stamped → IsSomeAnd o (λ b. IsTrue stamped → Each (AreCovering b.uses) reads) → IsSomeAnd o (λ b. Each (AreCovering b.uses) reads)
seen_uses stamped reads None is h = h
seen_uses stamped reads (Some b) is h = h is

listed_next : {E W : Type 0} (A : Analysis E W State) (p : Problem) (t : Listings E) (a to : ℕ) (o : Option (Listing E)) → A.code ≡ p.addresses → ((b : Listing E) → t a ≡ Some b → Tells A b (A.transfer a b.elem)) → t a ≡ o
    → IsSomeAnd o (λ b. IsAmong to b.next ⊎ IsAmong to b.exits) → IsSomeAnd o (λ b. IsListed p b to)
listed_next A p t a to None same tells is h = h
listed_next A p t a to (Some b) same tells is h = listed_by A p b (A.transfer a b.elem) to same (tells b is) h

module _ {E W N C : Type 0} (B : Algebra W N C) (laws : Laws W N C B) (cap : ℕ) (D : Elements E State) (M : Meaning E W N C) (p : Problem) (calls : ℕ → ℕ → List (Abs W N) → Answer (Abs W N))
    (analysed : IsAnalysed B cap D M p calls) (transfer : ℕ → E → Outcome E W)
    (bare : (a : ℕ) (x : E) (w : ℕ) → transfer a x ≡ undecodable w → (y : E) × (v : ℕ) × (transfer_of B cap M p calls a y ≡ undecodable v)) where
  -- the analysis by any transfers that have no decoding only where the instruction has none
  abbrev A : Analysis E W State
  A = record (analysis_of B cap D M p calls) { transfer = transfer }

  never_wrong : (d n : ℕ) (first : State) → Begins p first → (run_of p d n first).stop ≡ r.Stop.wrong → ⊥
  never_wrong d n first begins is =
      let starts = (transfers_are_sound B laws cap D M p calls analysed).entry first begins in
      let posed = analysed.posed in
      (runs_keep_types p.spec p.machine p.word_at d n first posed.accepted posed.machine (typed_state p.spec p.machine first posed.machine starts.1.0)).right is

  -- ---- at an address that is open for want of a decoding there is no step
  never_undecodable : (before : E) (given : Answer (Abs W N)) (w : ℕ) → outcome_of B M p before given ≡ undecodable w → ⊥
  never_undecodable before (fails i) w e = cc
  never_undecodable before (gives None log) w e = cc
  never_undecodable before (gives (Some state) log) w e = moved_never (counter_of state) e
    where
      members_never : (counter : W) (targets : Option (List ℕ)) → moved_to B M p before state log counter targets ≡ undecodable w → ⊥
      members_never counter None e = cc
      members_never counter (Some targets) e = cc

      moved_never : (counter : Option (ℕ × W)) → moved B M p before state log counter ≡ undecodable w → ⊥
      moved_never None e = cc
      moved_never (Some counter) e = members_never counter.1 (B.words.members M.context counter.0 counter.1 p.limit) e

  no_step : (d : ℕ) (s next : State) (reads : List Read) (x : E) (w : ℕ) → A.transfer s.pc x ≡ undecodable w → r.step p.spec p.machine p.word_at d s ≡ r.steps_to next reads → ⊥
  no_step d s next reads x w e steps = let found = bare s.pc x w e in by_word found.0 found.1 (p.word_at s.pc) found.2 steps
    where
      by_row : (y : E) (v : ℕ) (code_word : ℕ) (i : Option Val) → executed B cap M p calls s.pc y code_word i ≡ undecodable v → r.executed p.spec p.machine p.word_at d s code_word i ≡ r.steps_to next reads → ⊥
      by_row y v code_word None e steps = cc
      by_row y v code_word (Some instruction) e steps = never_undecodable y (calls s.pc p.machine.interp (arguments B cap M p s.pc y instruction)) v e

      by_word : (y : E) (v : ℕ) (o : Option ℕ) → fetched B cap M p calls s.pc y o ≡ undecodable v → r.fetched p.spec p.machine p.word_at d s o ≡ r.steps_to next reads → ⊥
      by_word y v None e steps = cc
      by_word y v (Some code_word) e steps = by_row y v code_word (decoded p.machine.instr p.spec.rows code_word) e steps

  with_decoding : (d : ℕ) (s next : State) (reads : List Read) (o : Option (Listing E)) → r.step p.spec p.machine p.word_at d s ≡ r.steps_to next reads → IsDecodable (ending_at A s.pc o)
  with_decoding d s next reads None steps = tt
  with_decoding d s next reads (Some b) steps = by_outcome (A.transfer s.pc b.elem) refl
    where
      by_outcome : (given : Outcome E W) → A.transfer s.pc b.elem ≡ given → IsDecodable (ending_of given)
      by_outcome (undecodable w) is = absurd (no_step d s next reads b.elem w is steps)
      by_outcome (too_many shown uses) is = tt
      by_outcome (moves targets post uses) is = tt
      by_outcome (sends arrivals uses) is = tt

  pub open_true_of_runs : (t : Listings E) (ends : Endings W) → IsClosedButOpen A t ends → IsSoundUntilOpen A (machine_of p) t ends → IsTrueUntilOpen B D p t ends
  open_true_of_runs t ends closed sound = record {
    holds = λ d n first begins is before code. element_holds D p (run_of p d n first).state (t (run_of p d n first).state.pc)
        (sound.holds d n first (run_of p d n first).state begins (run_is p d n first r.Stop.bound is) (until p d ends n first before) code);
    decodes = λ d n code_word first begins is before.
        sound.decodes d n first (run_of p d n first).state code_word (run_of p d n first).done begins (run_is p d n first (r.Stop.undecodable code_word) is) (until p d ends (run_of p d n first).done first before);
    typed = never_wrong;
    leads = λ d n first next reads begins is before none steps.
        let pc = (run_of p d n first).state.pc in
        listed_next (left_open A) p t pc next.pc (t pc) refl (λ b listed. closed.closed.tells pc b listed) refl
        (sound.leads d n first (run_of p d n first).state next reads begins (run_is p d n first r.Stop.bound is) (until p d ends n first before) none (ap step_of steps));
    covers = λ d n first next reads begins is before steps stamped.
        seen_uses B.notes.stamped reads (t (run_of p d n first).state.pc) stamped
        (sound.covers d n first (run_of p d n first).state next reads begins (run_is p d n first r.Stop.bound is) (until p d ends n first before)
        (subst (λ e. IsDecodable e) (sym (closed.endings (run_of p d n first).state.pc)) (with_decoding d (run_of p d n first).state next reads (t (run_of p d n first).state.pc) steps)) (ap step_of steps));
  }

-- by the transfers of the instructions themselves
pub open_is_true : {E W N C : Type 0} (B : Algebra W N C) → Laws W N C B → (cap : ℕ) (D : Elements E State) (M : Meaning E W N C) (p : Problem) (calls : ℕ → ℕ → List (Abs W N) → Answer (Abs W N)) → IsAnalysed B cap D M p calls
    → (t : Listings E) (ends : Endings W) → IsClosedButOpen (analysis_of B cap D M p calls) t ends → IsSoundUntilOpen (analysis_of B cap D M p calls) (machine_of p) t ends → IsTrueUntilOpen B D p t ends
open_is_true B laws cap D M p calls analysed t ends closed sound = open_true_of_runs B laws cap D M p calls analysed (transfer_of B cap M p calls) (λ a x w e. (x, w, e)) t ends closed sound

-- ---- where no address is open

never_some : {X : Type 0} (o : Option X) → o ≡ None → IsSome o → ⊥
never_some None none some = cc
never_some (Some x) none some = cc

both_said : {X : Type 0} (P Q : X → Type 0) (S : Type 0) (o : Option X) → IsSomeAnd o P → (S → IsSomeAnd o Q) → IsSomeAnd o (λ b. P b × (S → Q b))
both_said P Q S None p q = p
both_said P Q S (Some b) p q = (p, q)

first_said : {X : Type 0} (P Q : X → Type 0) (S : Type 0) (o : Option X) → IsSomeAnd o (λ b. P b × (S → Q b)) → IsSomeAnd o P
first_said P Q S None h = h
first_said P Q S (Some b) h = h.0

second_said : {X : Type 0} (P Q : X → Type 0) (S : Type 0) (o : Option X) → S → IsSomeAnd o (λ b. P b × (S → Q b)) → IsSomeAnd o Q
second_said P Q S None s h = h
second_said P Q S (Some b) s h = h.1 s

module _ {E W N C : Type 0} (B : Algebra W N C) (D : Elements E State) (p : Problem) (t : Listings E) (ends : Endings W) (nowhere : IsNowhereOpen ends) where
  is_true_of_runs : IsTrueUntilOpen B D p t ends → IsTrueOfRuns B D p t
  is_true_of_runs h = record {
    holds = λ d n first begins is code. h.holds d n first begins is (λ m less. nowhere (run_of p d m first).state.pc) code;
    decodes = λ d n code_word first begins is. never_some (ends (run_of p d n first).state.pc) (nowhere (run_of p d n first).state.pc) (h.decodes d n code_word first begins is (λ m less. nowhere (run_of p d m first).state.pc));
    typed = h.typed;
    leads = λ d n first next reads begins is steps.
        both_said (λ b. IsListed p b next.pc) (λ b. Each (AreCovering b.uses) reads) (IsTrue B.notes.stamped) (t (run_of p d n first).state.pc)
        (h.leads d n first next reads begins is (λ m less. nowhere (run_of p d m first).state.pc) (nowhere (run_of p d n first).state.pc) steps)
        (λ stamped. h.covers d n first next reads begins is (λ m less. nowhere (run_of p d m first).state.pc) steps stamped);
  }

  is_true_until_open : IsTrueOfRuns B D p t → IsTrueUntilOpen B D p t ends
  is_true_until_open h = record {
    holds = λ d n first begins is before code. h.holds d n first begins is code;
    decodes = λ d n code_word first begins is before. absurd (h.decodes d n code_word first begins is);
    typed = h.typed;
    leads = λ d n first next reads begins is before none steps.
        first_said (λ b. IsListed p b next.pc) (λ b. Each (AreCovering b.uses) reads) (IsTrue B.notes.stamped) (t (run_of p d n first).state.pc) (h.leads d n first next reads begins is steps);
    covers = λ d n first next reads begins is before steps stamped.
        second_said (λ b. IsListed p b next.pc) (λ b. Each (AreCovering b.uses) reads) (IsTrue B.notes.stamped) (t (run_of p d n first).state.pc) stamped (h.leads d n first next reads begins is steps);
  }

pub open_truth_is_truth : {E W N C : Type 0} (B : Algebra W N C) (D : Elements E State) → OpenTruthIsTruth B D
open_truth_is_truth B D p t ends nowhere = (is_true_of_runs B D p t ends nowhere, is_true_until_open B D p t ends nowhere)
