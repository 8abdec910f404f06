-- Which step of a run put a cell that a step reads, and chains of such steps.
--
-- The meaning stamps a cell with the address of the instruction that puts it. Where a run meets an address twice, the stamp does not tell which
-- of the two steps it was. So a run is told here once more, with the number of a step in place of its address: step number n stamps the cells
-- that it puts with n. The stamp of a cell that is read is then the number of the step that last put it, or the entry.
use Rattle.std.specs.Prelude.{◌≡◌, ℕ, zero, suc, ◌≤◌, List, [], ◌∷◌, Option, Some, None, ◌⊎◌, ⊤, option_and_then}
use Rattle.base_trait.specs.Uses.{Read}
use Rattle.base_trait.specs.declared.uses.Stamp.{Stamp}
use Rattle.base_trait.specs.declared.uses.Stamp.TheVariants.{Entry, At}
use Rattle.spec_ir.specs.declared.spec.Machine.{Machine}
use Rattle.spec_ir.specs.Specification.{Spec}
use Rattle.semantics_values.specs.Values.{Val}
use Rattle.semantics_values.specs.States.{State, value_of}
use Rattle.semantics.specs.Runs as r
use Rattle.semantics.specs.Runs.{Stepped, meaning, stepped_of}
use Rattle.semantics.specs.Decode.{decoded}

abbrev pub next_of : Stepped → Option State
next_of (r.steps_to next reads) = Some next
next_of _ = None

abbrev pub reads_of : Stepped → List Read
reads_of (r.steps_to next reads) = reads
reads_of _ = []

-- one of the reads is of a cell with the stamp
abbrev pub IsRead : Stamp → List Read → Type 0
IsRead s [] = ⊥
IsRead s (x ∷ reads) = (x.stamp ≡ s) ⊎ IsRead s reads

-- the stamp is of a step no later than number n, or of the entry
abbrev pub IsNoLater : ℕ → Stamp → Type 0
IsNoLater n Entry = ⊤
IsNoLater n (At i) = i ≤ n

-- `code` is the code word at an address, where there is one, and each activation has d turns
module _ (spec : Spec) (machine : Machine) (code : ℕ → Option ℕ) (d : ℕ) where
  abbrev pub executed_as : ℕ → State → ℕ → Option Val → Stepped
  executed_as n s code_word None = r.undecodable code_word
  executed_as n s code_word (Some instruction) = stepped_of (meaning spec n d machine.interp (instruction ∷ value_of machine.state s ∷ []) [])

  abbrev pub fetched_as : ℕ → State → Option ℕ → Stepped
  fetched_as n s None = r.left
  fetched_as n s (Some code_word) = executed_as n s code_word (decoded machine.instr spec.rows code_word)

  -- a step from a state, with n for the address that it stamps cells with
  abbrev pub step_as : ℕ → State → Stepped
  step_as n s = fetched_as n s (code s.pc)

  -- ---- the run from a state
  module _ (first : State) where
    -- the state before step number n, counted from 0, where the run comes so far
    abbrev pub before : ℕ → Option State
    before zero = Some first
    before (suc n) = option_and_then (λ s. next_of (step_as n s)) (before n)

    abbrev pub reads_from : ℕ → Option State → List Read
    reads_from n None = []
    reads_from n (Some s) = reads_of (step_as n s)

    -- the reads of step number n
    abbrev pub reads_at : ℕ → List Read
    reads_at n = reads_from n (before n)

    -- A chain of reads: the first step last put a cell of one of the reads, and each next one a cell that the step before it reads.
    abbrev pub IsChain : List Read → List ℕ → Type 0
    IsChain reads [] = ⊤
    IsChain reads (n ∷ steps) = IsRead (At n) reads × IsChain (reads_at n) steps

    -- the reads of the last step of a chain
    abbrev pub last_reads : List Read → List ℕ → List Read
    last_reads reads [] = reads
    last_reads reads (n ∷ steps) = last_reads (reads_at n) steps

    -- ---- the stamp of a step's address in place of that of its number
    abbrev pub stamp_at : Option State → Stamp
    stamp_at None = Entry
    stamp_at (Some s) = At s.pc

    abbrev pub addressed : Stamp → Stamp
    addressed Entry = Entry
    addressed (At n) = stamp_at (before n)
