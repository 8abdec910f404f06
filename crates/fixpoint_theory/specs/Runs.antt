-- Runs of a machine, and what a table says of them.
use Rattle.std.specs.Prelude.{◌≡◌, ℕ, zero, suc, false, List, IsSomeAnd, IsTrue, ◌⊎◌}
use Rattle.base_trait.specs.Lists.{Each, IsAmong}
use Rattle.base_trait.specs.Uses.{AreCovering, Read, Seen}
use Rattle.fixpoint_theory.specs.Analysis.{Analysis}
use Rattle.fixpoint_theory.specs.Code.{is_code}
use Rattle.fixpoint_theory.specs.Outcome.{Outcome, moves, sends, too_many, undecodable}
use Rattle.fixpoint_theory.specs.Table.{Listings}

-- Why a run stops: its counter is no code address, the code word has no decoding, or an activation had no turn left.
pub data Stop : Type 0 where
  left : Stop
  no_decoding : ℕ → Stop
  deep : Stop

-- A step of one instruction: the next state and its reads, or a stop.
pub data Step (S : Type 0) : Type 0 where
  stops : Stop → Step S
  goes : S → List Read → Step S

-- The state after some steps, or the first stop with the state before it and the number of steps done.
pub data After (S : Type 0) : Type 0 where
  at : S → After S
  stopped : Stop → S → ℕ → After S

-- A machine with states S.
pub record Machine (S : Type 0) : Type 1 where
  pub counter : S → ℕ
  -- under a bound on the turns of an activation
  pub step : ℕ → S → Step S
  -- the states that an entry describes
  pub starts : S → Type 0

module _ {S : Type 0} (step : S → Step S) where
  -- what a step comes to after `done` steps: the run goes on, or it stops with the state before the step
  abbrev pub goes_on : (S → After S) → ℕ → S → Step S → After S
  goes_on go_on done s (stops why) = stopped why s done
  goes_on go_on done s (goes next reads) = go_on next

  -- the run of n further steps from a state, after `done` steps
  abbrev pub run_from : ℕ → ℕ → S → After S
  run_from zero done s = at s
  run_from (suc n) done s = goes_on (run_from n (suc done)) done s (step s)

  -- the state after n steps
  abbrev pub after : ℕ → S → After S
  after n s = run_from n 0 s

module _ {E W S : Type 0} (A : Analysis E W S) (M : Machine S) where
  -- where uses tell stamps, they cover the reads
  abbrev pub AreSeen : List Seen → List Read → Type 0
  AreSeen uses reads = IsTrue A.stamped → Each (AreCovering uses) reads

  -- What a transfer gives describes a step: the next counter is a target, the element behind the instruction holds
  -- of the next state, and the uses cover the reads. Of cases an element that arrives at the next counter holds of it.
  -- Where the targets are too many the uses do alone. Of a step without a turn left nothing is said.
  abbrev pub Describes : Outcome E W → Step S → Type 0
  Describes (undecodable word) step = Unit {0}
  Describes (too_many shown uses) (stops _) = Unit {0}
  Describes (too_many shown uses) (goes next reads) = AreSeen uses reads
  Describes (moves targets post uses) (stops deep) = Unit {0}
  Describes (moves targets post uses) (stops _) = ⊥
  Describes (moves targets post uses) (goes next reads) =
      IsAmong (M.counter next) targets × IsSomeAnd post (λ x. A.elements.holds x next) × AreSeen uses reads
  Describes (sends arrivals uses) (stops deep) = Unit {0}
  Describes (sends arrivals uses) (stops _) = ⊥
  Describes (sends arrivals uses) (goes next reads) =
      ((x : E) × IsAmong (M.counter next, x) arrivals × A.elements.holds x next) × AreSeen uses reads

  -- The analysis is sound for the machine.
  pub record IsSound : Type 0 where
    -- the entry's element holds of each state of the entry
    pub entry : (s : S) → M.starts s → (M.counter s ≡ A.start) × A.elements.holds A.entry s
    -- transfers describe steps, under every bound on turns
    pub transfer : (d : ℕ) (x : E) (s : S) → A.elements.fits x → IsTrue (is_code A.code (M.counter s)) → A.elements.holds x s
        → Describes (A.transfer (M.counter s) x) (M.step d s)
    -- past the code a run stops
    pub leaves : (d : ℕ) (s : S) → is_code A.code (M.counter s) ≡ false → M.step d s ≡ stops left

  -- What a table says holds of every run, from every state of the entry, after any number of steps, under every bound
  -- on turns.
  pub record IsSoundTable (t : Listings E) : Type 0 where
    -- where a run's counter is a code address, the table lists it, with an element that holds of the state
    pub holds : (d n : ℕ) (first s : S) → M.starts first → after (M.step d) n first ≡ at s
        → IsTrue (is_code A.code (M.counter s)) → IsSomeAnd (t (M.counter s)) (λ b. A.elements.holds b.elem s)
    -- no run meets a code word without decoding
    pub decodes : (d n : ℕ) (first s : S) (word done : ℕ) → M.starts first → after (M.step d) n first ≡ stopped (no_decoding word) s done → ⊥
    -- each step leads to an address that its block lists, as next or as an exit, and its reads are covered by the block's uses
    pub leads : (d n : ℕ) (first s next : S) (reads : List Read) → M.starts first → after (M.step d) n first ≡ at s
        → M.step d s ≡ goes next reads
        → IsSomeAnd (t (M.counter s)) (λ b.
        (IsAmong (M.counter next) b.next ⊎ IsAmong (M.counter next) b.exits) × AreSeen b.uses reads)
