-- What a table that is left open says of the runs of a machine, in the words of the meaning.
use Rattle.std.specs.Prelude.{◌≡◌, ◌↔◌, ℕ, ◌<◌, IsSome, IsSomeAnd, IsTrue, List, Option, None}
use Rattle.base_trait.specs.Algebra.{Algebra}
use Rattle.base_trait.specs.Lists.{Each}
use Rattle.base_trait.specs.Uses.{AreCovering, Read}
use Rattle.semantics_values.specs.States.{State}
use Rattle.semantics.specs.Runs.{step, steps_to}
use Rattle.semantics.specs.Runs as r
use Rattle.fixpoint_theory.specs.Code.{is_code}
use Rattle.fixpoint_theory.specs.Elements.{Elements}
use Rattle.fixpoint_theory.specs.Table.{Listings}
use Rattle.fixpoint_open_tables.specs.Endings.{Endings, IsNowhereOpen}
use Rattle.analysis_transfer_laws.specs.Problem.{Problem}
use Rattle.analysis_transfer_laws.specs.Runs.{Begins, IsListed, IsTrueOfRuns, run_of}

-- An address is open where something is said of how its block ends.
module _ {M : Type 0} (p : Problem) (ends : ℕ → Option M) where
  -- None of the first n states of a run, which are those before its n-th step, is at an open address.
  abbrev pub IsClosedBefore : (d n : ℕ) → State → Type 0
  IsClosedBefore d n first = (m : ℕ) → m < n → ends (run_of p d m first).state.pc ≡ None

-- Up to and with the first state that is at an open address, from every state that the entry describes, after any number of steps, under every
-- bound on turns:
pub record IsTrueUntilOpen {E W N C M : Type 0} (B : Algebra W N C) (D : Elements E State) (p : Problem) (t : Listings E) (ends : ℕ → Option M) : Type 0 where
  -- where all n steps were done, and the counter is a code address, the table lists it with an element that holds of the state
  pub holds : (d n : ℕ) (first : State) → Begins p first → (run_of p d n first).stop ≡ r.Stop.bound → IsClosedBefore p ends d n first
      → IsTrue (is_code p.addresses (run_of p d n first).state.pc) → IsSomeAnd (t (run_of p d n first).state.pc) (λ b. D.holds b.elem (run_of p d n first).state)
  -- a code word without decoding is met at an open address alone, and no step without a type
  pub decodes : (d n code_word : ℕ) (first : State) → Begins p first → (run_of p d n first).stop ≡ r.Stop.undecodable code_word → IsClosedBefore p ends d (run_of p d n first).done first
      → IsSome (ends (run_of p d n first).state.pc)
  pub typed : (d n : ℕ) (first : State) → Begins p first → (run_of p d n first).stop ≡ r.Stop.wrong → ⊥
  -- from an address that is not open the next step goes to an address that the block of the counter lists, a code address as next and any other as an exit
  pub leads : (d n : ℕ) (first next : State) (reads : List Read) → Begins p first → (run_of p d n first).stop ≡ r.Stop.bound → IsClosedBefore p ends d n first
      → ends (run_of p d n first).state.pc ≡ None → step p.spec p.machine p.word_at d (run_of p d n first).state ≡ steps_to next reads
      → IsSomeAnd (t (run_of p d n first).state.pc) (λ b. IsListed p b next.pc)
  -- where the base tells stamps, the block's uses cover each read of the next step, also at an open address
  pub covers : (d n : ℕ) (first next : State) (reads : List Read) → Begins p first → (run_of p d n first).stop ≡ r.Stop.bound → IsClosedBefore p ends d n first
      → step p.spec p.machine p.word_at d (run_of p d n first).state ≡ steps_to next reads → IsTrue B.notes.stamped
      → IsSomeAnd (t (run_of p d n first).state.pc) (λ b. Each (AreCovering b.uses) reads)

-- Where no address is open, a table is true until then exactly if it is true of every run.
module _ {E W N C : Type 0} (B : Algebra W N C) (D : Elements E State) where
  abbrev pub OpenTruthIsTruth : Type 0
  OpenTruthIsTruth = (p : Problem) (t : Listings E) (ends : Endings W) → IsNowhereOpen ends → IsTrueUntilOpen B D p t ends ↔ IsTrueOfRuns B D p t
