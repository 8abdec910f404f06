-- Runs in the words of the meaning are those of the machine.
use Rattle.std.proofs.Common.{◌≡◌, ℕ, zero, suc, Bool, true, false, List, [], ◌∷◌, Option, Some, None, ◌⊎◌, inl, inr, refl, sym, ap, subst, IsTrue}
use Rattle.std.specs.Prelude.{IsSomeAnd, filter, not}
use Rattle.base_trait.specs.Algebra.{Algebra}
use Rattle.base_trait.specs.Laws.{Laws}
use Rattle.base_trait.specs.Lists.{Each, IsAmong}
use Rattle.base_trait.specs.Uses.{AreCovering, Read}
use Rattle.base_trait.proofs.Tests.{at_choice}
use Rattle.semantics_values.specs.States.{State}
use Rattle.semantics.specs.Runs as r
use Rattle.semantics.specs.Runs.{Ended, Stepped}
use Rattle.fixpoint_theory.specs.Analysis.{Analysis}
use Rattle.fixpoint_theory.specs.Code.{is_code}
use Rattle.fixpoint_theory.specs.Elements.{Elements}
use Rattle.fixpoint_theory.specs.Outcome.{Outcome, addresses, moves, sends, too_many, undecodable}
use Rattle.fixpoint_theory.specs.Runs as m
use Rattle.fixpoint_theory.specs.Runs.{After, IsSoundTable, at, no_decoding, stopped}
use Rattle.fixpoint_theory.specs.Table.{Listing, Listings, Tells}
use Rattle.abstract_value_laws.specs.Abs.{Abs}
use Rattle.abstract_semantics.specs.Answers.{Answer}
use Rattle.domain_laws.specs.Domain.{Meaning}
use Rattle.domain_laws.specs.States.{IsState}
use Rattle.analysis_transfer_laws.specs.Analysis.{analysis_of, machine_of, step_of}
use Rattle.analysis_transfer_laws.specs.Laws.{ClosedTablesAreTrue}
use Rattle.analysis_transfer_laws.specs.Problem.{Problem}
use Rattle.analysis_transfer_laws.specs.Runs.{IsListed, IsTrueOfRuns, run_of}
use Rattle.analysis_transfer_laws.specs.Transfer.{transfer_of}
use Rattle.analysis_transfer_laws.proofs.Sound.{closed_tables_hold}

-- how a run of the machine ends where that of the meaning ends so
abbrev Agrees : Ended → r.Stop → After State → Type 0
Agrees e r.Stop.bound a = a ≡ at e.state
Agrees e (r.Stop.undecodable code_word) a = a ≡ stopped (no_decoding code_word) e.state e.done
Agrees e r.Stop.wrong a = a ≡ stopped (no_decoding 0) e.state e.done
Agrees e r.Stop.left a = Unit {0}
Agrees e r.Stop.turns a = Unit {0}

module _ (p : Problem) (d : ℕ) where
  abbrev onward : (State → Ended) → ℕ → State → Stepped → Ended
  onward go done s x = r.goes_on p.spec p.machine p.word_at d go done s x

  agrees : (n done : ℕ) (s : State) (e : Ended) → r.run_from p.spec p.machine p.word_at d n done s ≡ e → Agrees e e.stop (m.run_from ((machine_of p).step d) n done s)
  agrees zero done s e is = subst (λ e. Agrees e e.stop (at s)) is refl
  agrees (suc n) done s e is = by_step (r.step p.spec p.machine p.word_at d s) is (λ next is. agrees n (suc done) next e is)
    where
      by_step : (x : Stepped) → onward (r.run_from p.spec p.machine p.word_at d n (suc done)) done s x ≡ e
          → ((next : State) → r.run_from p.spec p.machine p.word_at d n (suc done) next ≡ e → Agrees e e.stop (m.run_from ((machine_of p).step d) n (suc done) next))
          → Agrees e e.stop (m.goes_on ((machine_of p).step d) (m.run_from ((machine_of p).step d) n (suc done)) done s (step_of x))
      by_step (r.steps_to next reads) is more = more next is
      by_step r.left is more = subst (λ e. Agrees e e.stop (stopped m.left s done)) is tt
      by_step (r.undecodable code_word) is more = subst (λ e. Agrees e e.stop (stopped (no_decoding code_word) s done)) is refl
      by_step r.deep is more = subst (λ e. Agrees e e.stop (stopped m.deep s done)) is tt
      by_step r.wrong is more = subst (λ e. Agrees e e.stop (stopped (no_decoding 0) s done)) is refl

  -- the run of the machine ends so
  ends : (n : ℕ) (first : State) (stop : r.Stop) → (run_of p d n first).stop ≡ stop → Agrees (run_of p d n first) stop (m.after ((machine_of p).step d) n first)
  ends n first stop is = subst (λ z. Agrees (run_of p d n first) z (m.after ((machine_of p).step d) n first)) is (agrees n 0 first (run_of p d n first) refl)

-- ---- the place of an address in a block
passes : (test : ℕ → Bool) (xs : List ℕ) (x : ℕ) → IsAmong x (filter test xs) → IsTrue (test x)
passes test [] x h = absurd h
passes test (y ∷ xs) x h = at_choice (λ l. IsAmong x l → IsTrue (test x)) (test y) (y ∷ filter test xs) (filter test xs) (λ e k. first e k (λ k. passes test xs x k)) (λ e k. passes test xs x k) h
  where
    first : IsTrue (test y) → IsAmong x (y ∷ filter test xs) → (IsAmong x (filter test xs) → IsTrue (test x)) → IsTrue (test x)
    first e (inl same) more = subst (λ z. IsTrue (test z)) (sym same) e
    first e (inr k) more = more k

not_both : (b : Bool) → IsTrue b → IsTrue (not b) → ⊥
not_both true h k = cc
not_both false h k = cc

no_other : (b : Bool) → IsTrue b → b ≡ false → ⊥
no_other true h k = cc
no_other false h k = cc

-- a block that tells a transfer lists each address where it belongs
pub listed_by : {E W : Type 0} (A : Analysis E W State) (p : Problem) (b : Listing E) (given : Outcome E W) (to : ℕ) → A.code ≡ p.addresses → Tells A b given → IsAmong to b.next ⊎ IsAmong to b.exits → IsListed p b to
listed_by A p b (undecodable code_word) to same tells h = absurd tells
listed_by A p b (too_many shown uses) to same tells h = absurd tells
listed_by A p b (moves targets post uses) to same tells (inl h) =
    let code = passes (is_code A.code) targets to (subst (IsAmong to) tells.0 h) in
    record { next = λ c. h; exits = λ out. absurd (no_other (is_code A.code to) code (subst (λ code. is_code code to ≡ false) (sym same) out)) }
listed_by A p b (moves targets post uses) to same tells (inr h) =
    let out = passes (λ a. not (is_code A.code a)) targets to (subst (IsAmong to) tells.1 h) in
    record { next = λ c. absurd (not_both (is_code A.code to) (subst (λ code. IsTrue (is_code code to)) (sym same) c) out); exits = λ o. h }
listed_by A p b (sends arrivals uses) to same tells (inl h) =
    let code = passes (is_code A.code) (addresses arrivals) to (subst (IsAmong to) tells.0 h) in
    record { next = λ c. h; exits = λ out. absurd (no_other (is_code A.code to) code (subst (λ code. is_code code to ≡ false) (sym same) out)) }
listed_by A p b (sends arrivals uses) to same tells (inr h) =
    let out = passes (λ a. not (is_code A.code a)) (addresses arrivals) to (subst (IsAmong to) tells.1 h) in
    record { next = λ c. absurd (not_both (is_code A.code to) (subst (λ code. IsTrue (is_code code to)) (sym same) c) out); exits = λ o. h }

module _ {E W N C : Type 0} (B : Algebra W N C) (laws : Laws W N C B) (cap : ℕ) (D : Elements E State) (M : Meaning E W N C) where
  own : (p : Problem) (s : State) (o : Option (Listing E)) → IsSomeAnd o (λ b. IsState p.spec s × D.holds b.elem s) → IsSomeAnd o (λ b. D.holds b.elem s)
  own p s None h = h
  own p s (Some b) h = h.1

  led : (p : Problem) (A : Analysis E W State) (t : Listings E) (a to : ℕ) (reads : List Read) (o : Option (Listing E)) → A.code ≡ p.addresses
      → ((b : Listing E) → t a ≡ Some b → Tells A b (A.transfer a b.elem)) → t a ≡ o
      → IsSomeAnd o (λ b. (IsAmong to b.next ⊎ IsAmong to b.exits) × (IsTrue B.notes.stamped → Each (AreCovering b.uses) reads))
      → IsSomeAnd o (λ b. IsListed p b to × (IsTrue B.notes.stamped → Each (AreCovering b.uses) reads))
  led p A t a to reads None same tells is h = h
  led p A t a to reads (Some b) same tells is h = (listed_by A p b (A.transfer a b.elem) to same (tells b is) h.0, h.1)

  -- what a table lists that is sound, and tells the outcomes of these transfers, is true of every run
  pub true_of_runs : (p : Problem) (calls : ℕ → ℕ → List (Abs W N) → Answer (Abs W N)) (transfer : ℕ → E → Outcome E W) (t : Listings E)
      → IsSoundTable (record (analysis_of B cap D M p calls) { transfer = transfer }) (machine_of p) t
      → ((a : ℕ) (b : Listing E) → t a ≡ Some b → Tells (record (analysis_of B cap D M p calls) { transfer = transfer }) b (transfer a b.elem)) → IsTrueOfRuns B D p t
  true_of_runs p calls transfer t sound tells =
      let A = record (analysis_of B cap D M p calls) { transfer = transfer } in
      record {
        holds = λ d n first begins is code. own p (run_of p d n first).state (t (run_of p d n first).state.pc)
            (sound.holds d n first (run_of p d n first).state begins (ends p d n first r.Stop.bound is) code);
        decodes = λ d n code_word first begins is. sound.decodes d n first (run_of p d n first).state code_word (run_of p d n first).done begins (ends p d n first (r.Stop.undecodable code_word) is);
        typed = λ d n first begins is. sound.decodes d n first (run_of p d n first).state 0 (run_of p d n first).done begins (ends p d n first r.Stop.wrong is);
        leads = λ d n first next reads begins is steps.
            let pc = (run_of p d n first).state.pc in
            led p A t pc next.pc reads (t pc) refl (λ b listed. tells pc b listed) refl
            (sound.leads d n first (run_of p d n first).state next reads begins (ends p d n first r.Stop.bound is) (ap step_of steps));
      }

  pub closed_tables_are_true : ClosedTablesAreTrue B cap D M
  closed_tables_are_true p calls t h fits closed =
      true_of_runs p calls (transfer_of B cap M p calls) t (closed_tables_hold B laws cap D M p calls t h fits closed) closed.tells
