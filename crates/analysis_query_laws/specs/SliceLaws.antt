-- What holds of slices.
use Rattle.std.specs.Prelude.{◌≡◌, ℕ, Bool, List, [], ◌∷◌, Option, Some, IsSome, IsSomeAnd, IsTrue}
use Rattle.base_trait.specs.Algebra.{Algebra}
use Rattle.base_trait.specs.Lists.{Each, IsAmong}
use Rattle.base_trait.specs.Uses.{IsKey, Read, Seen}
use Rattle.base_trait.specs.declared.uses.Stamp.{Stamp}
use Rattle.base_trait.specs.declared.uses.Stamp.TheVariants.{Entry}
use Rattle.semantics_values.specs.States.{State}
use Rattle.semantics.specs.Runs.{step}
use Rattle.semantics.specs.Runs as r
use Rattle.fixpoint_theory.specs.Elements.{Elements}
use Rattle.fixpoint_theory.specs.Table.{Listings}
use Rattle.fixpoint_theory.specs.Views.{listings}
use Rattle.fixpoint_theory.specs.declared.table.Table.{Table}
use Rattle.analysis_transfer_laws.specs.Problem.{Problem}
use Rattle.analysis_transfer_laws.specs.Runs.{Begins, IsTrueOfRuns, run_of}
use Rattle.analysis_query_laws.specs.Chains.{IsChain, IsNoLater, IsRead, addressed, before, last_reads, reads_at, reads_of, step_as}
use Rattle.analysis_query_laws.specs.Restamped.{restamped_state, restamped_step}
use Rattle.analysis_query_laws.specs.Slices.{IsSlice, IsSliceFrom, is_from}

-- There is one slice from uses at most.
abbrev pub SlicesAreOne : Type 0
SlicesAreOne =
    (uses : ℕ → List Seen) (from : List Seen) (told other : Bool) (addresses others : List ℕ) → IsSliceFrom uses from told addresses → IsSliceFrom uses from other others → (told ≡ other) × (addresses ≡ others)

-- There is one, where only the addresses of a list have uses.
abbrev pub SlicesAreThere : Type 0
SlicesAreThere =
    (uses : ℕ → List Seen) (from : List Seen) (all : List ℕ) → ((a : ℕ) (s : Stamp) → IsTrue (is_from (uses a) s) → IsAmong a all) → (told : Bool) × (addresses : List ℕ) × IsSliceFrom uses from told addresses

-- A slice does not depend on how elements are seen.
abbrev pub SlicesAreOfUses : {E P : Type 0} → (E → P) → Type 0
SlicesAreOfUses {E} view =
    (t : Table E) (at m : ℕ) (key : Option ℕ) (told : Bool) (addresses : List ℕ) → IsSlice (listings (λ e. e) t) at m key told addresses → IsSlice (listings view t) at m key told addresses

-- The run of a problem from a state, with the numbers of its steps for stamps, is the run of the meaning but for stamps. Each step reads cells that
-- it or a step before it put, or that are of the entry.
pub record IsRunOf (p : Problem) (d : ℕ) (first : State) : Type 0 where
  -- it comes as far
  pub comes : (n : ℕ) → (run_of p d n first).stop ≡ r.Stop.bound → IsSome (before p.spec p.machine p.word_at d first n)
  -- where the stamp of a step's number becomes that of its address, its states and steps are those of the run
  pub states : (n : ℕ) (s : State) → before p.spec p.machine p.word_at d first n ≡ Some s
      → ((run_of p d n first).stop ≡ r.Stop.bound) × ((run_of p d n first).state ≡ restamped_state (addressed p.spec p.machine p.word_at d first) s)
  pub steps : (n : ℕ) (s : State) → before p.spec p.machine p.word_at d first n ≡ Some s
      → step p.spec p.machine p.word_at d (restamped_state (addressed p.spec p.machine p.word_at d first) s)
      ≡ restamped_step (addressed p.spec p.machine p.word_at d first) (step_as p.spec p.machine p.word_at d n s)
  pub earlier : (n : ℕ) (s : State) → before p.spec p.machine p.word_at d first n ≡ Some s → Each (λ x. IsNoLater n x.stamp) (reads_of (step_as p.spec p.machine p.word_at d n s))

abbrev pub NumberedRunsAreRuns : Type 0
NumberedRunsAreRuns = (p : Problem) (d : ℕ) (first : State) → Begins p first → IsRunOf p d first

-- Step number n of a run, at an address, reads a cell of a map, at a key or at any.
pub record IsReadAt (p : Problem) (d : ℕ) (first : State) (at m : ℕ) (key : Option ℕ) (n : ℕ) (x : Read) : Type 0 where
  pub state : State
  pub stands : before p.spec p.machine p.word_at d first n ≡ Some state
  pub address : state.pc ≡ at
  pub read : IsAmong x (reads_at p.spec p.machine p.word_at d first n)
  pub of_map : x.of_map ≡ m
  pub of_key : IsKey key x.key

-- What a slice says of a chain of a read, of a run from a state that the entry describes: it has the address of each of its steps; and where the last of
-- them, or the read itself, is of a cell that no step put, it has the entry.
pub record HoldsChain (p : Problem) (d : ℕ) (first : State) (told : Bool) (addresses : List ℕ) (x : Read) (steps : List ℕ) : Type 0 where
  pub addresses_held : Each (λ i. IsSomeAnd (before p.spec p.machine p.word_at d first i) (λ s. IsAmong s.pc addresses)) steps
  pub entry_held : IsRead Entry (last_reads p.spec p.machine p.word_at d first (x ∷ []) steps) → IsTrue told

-- A slice of a table that is true of every run, over a base that tells stamps, holds each chain of each read that it is of: under every bound on turns,
-- after any number of steps, from every state of the entry.
abbrev pub SlicesHoldChains : {E W N C : Type 0} → Algebra W N C → Elements E State → Type 0
SlicesHoldChains {E} B D =
    (p : Problem) (t : Listings E) (at m : ℕ) (key : Option ℕ) (told : Bool) (addresses : List ℕ) → IsTrueOfRuns B D p t → IsTrue B.notes.stamped → IsSlice t at m key told addresses
    → (d n : ℕ) (first : State) (x : Read) (steps : List ℕ) → Begins p first → IsReadAt p d first at m key n x → IsChain p.spec p.machine p.word_at d first (x ∷ []) steps
    → HoldsChain p d first told addresses x steps
