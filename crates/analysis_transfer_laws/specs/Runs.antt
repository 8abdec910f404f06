-- What a table says of the runs of a machine, in the words of the meaning.
use Rattle.std.specs.Prelude.{◌≡◌, ℕ, false, List, IsSomeAnd, IsTrue}
use Rattle.base_trait.specs.Algebra.{Algebra}
use Rattle.base_trait.specs.Lists.{Each, IsAmong}
use Rattle.base_trait.specs.Uses.{AreCovering, Read}
use Rattle.semantics_values.specs.States.{State}
use Rattle.semantics_values.specs.Types.{environment_of}
use Rattle.semantics.specs.Entries.{IsEntryState}
use Rattle.semantics.specs.Runs.{Ended, Stop, after, step, steps_to}
use Rattle.semantics.specs.Runs as r
use Rattle.fixpoint_theory.specs.Code.{is_code}
use Rattle.fixpoint_theory.specs.Elements.{Elements}
use Rattle.fixpoint_theory.specs.Table.{Listing, Listings}
use Rattle.domain_laws.specs.States.{state_types}
use Rattle.analysis_transfer_laws.specs.Problem.{Problem}

-- what a run from a state comes to, after at most n steps, under a bound d on the turns of each activation
abbrev pub run_of : Problem → ℕ → ℕ → State → Ended
run_of p d n first = after p.spec p.machine p.word_at d n first

-- The state is one that the entry describes.
abbrev pub Begins : Problem → State → Type 0
Begins p s = IsEntryState (environment_of p.spec) (state_types p.spec) p.pc p.lines s

-- The block lists an address: as next, where it is that of a code word, and as an exit, where it is none.
pub record IsListed {E : Type 0} (p : Problem) (b : Listing E) (to : ℕ) : Type 0 where
  pub next : IsTrue (is_code p.addresses to) → IsAmong to b.next
  pub exits : is_code p.addresses to ≡ false → IsAmong to b.exits

-- From every state that the entry describes, after any number of steps, under every bound on turns:
pub record IsTrueOfRuns {E W N C : Type 0} (B : Algebra W N C) (D : Elements E State) (p : Problem) (t : Listings E) : Type 0 where
  -- where all n steps were done, and the counter is a code address, the table lists it with an element that holds of the state
  pub holds : (d n : ℕ) (first : State) → Begins p first → (run_of p d n first).stop ≡ r.Stop.bound → IsTrue (is_code p.addresses (run_of p d n first).state.pc)
      → IsSomeAnd (t (run_of p d n first).state.pc) (λ b. D.holds b.elem (run_of p d n first).state)
  -- no run meets a code word without decoding, nor a step without a type
  pub decodes : (d n code_word : ℕ) (first : State) → Begins p first → (run_of p d n first).stop ≡ r.Stop.undecodable code_word → ⊥
  pub typed : (d n : ℕ) (first : State) → Begins p first → (run_of p d n first).stop ≡ r.Stop.wrong → ⊥
  -- the next step goes to an address that the block of the counter lists, a code address as next and any other as an exit; and where
  -- the base tells stamps, the block's uses cover each read of the step
  pub leads : (d n : ℕ) (first next : State) (reads : List Read) → Begins p first → (run_of p d n first).stop ≡ r.Stop.bound
      → step p.spec p.machine p.word_at d (run_of p d n first).state ≡ steps_to next reads
      → IsSomeAnd (t (run_of p d n first).state.pc) (λ b. IsListed p b next.pc × (IsTrue B.notes.stamped → Each (AreCovering b.uses) reads))
