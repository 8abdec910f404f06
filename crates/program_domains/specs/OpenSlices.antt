-- What a slice of a table comes to, in a domain, where blocks may be left open.
use Rattle.std.specs.Prelude.{ℕ, Bool, List, [], ◌∷◌, Err}
use Rattle.base_trait.specs.Uses.{Read}
use Rattle.semantics_values.specs.States.{State}
use Rattle.code_image.specs.Image.{Image}
use Rattle.fixpoint_theory.specs.Table.{Listings}
use Rattle.fixpoint_theory.specs.declared.verdict.Verdict.{Verdict}
use Rattle.fixpoint_open_tables.specs.Endings.{Endings}
use Rattle.text_faults.specs.declared.table_error.TableError.{TableError}
use Rattle.text_table_reader.specs.Tables.{IsErrorIn}
use Rattle.analysis_transfer_laws.specs.OpenRuns.{IsClosedBefore}
use Rattle.analysis_transfer_laws.specs.Problem.{Problem}
use Rattle.analysis_transfer_laws.specs.Runs.{Begins}
use Rattle.analysis_query_laws.specs.Chains.{IsChain}
use Rattle.analysis_query_laws.specs.SliceLaws.{HoldsChain, IsReadAt}
use Rattle.analysis_query_laws.specs.Slices.{IsSlice}
use Rattle.text_slices.specs.declared.slice_cell.SliceCell.{SliceCell}
use Rattle.text_slices.specs.Writing.{slice_text}
use Rattle.program_common.specs.Outcome.{Outcome, table_refused}
use Rattle.program_domains.specs.Closed.{ByVerdict}
use Rattle.program_domains.specs.Domains.{DomainOf}
use Rattle.program_domains.specs.OpenChecks.{IsOpenAccepted, IsOpenJudged}
use Rattle.program_domains.specs.Slices.{IsSliceText}
use Rattle.program_domains.specs.Until.{IsMarked, Marked}

module _ {E W N C : Type 0} (domain : DomainOf E W N C) (p : Problem) where
  -- The outcome for the text of a table: its first fault; where the table is not accepted with its endings, what its check comes to; else the text of the slice,
  -- behind the line `until open` where some address is left open.
  pub data SlicesOpen (image : Image) (base bytes : List ℕ) (at : ℕ) (asked : SliceCell) : Outcome → Type 0 where
    refused : {error : TableError} → IsErrorIn domain.Reads domain.word_in p.spec base image bytes error → SlicesOpen image base bytes at asked (Err (table_refused error))
    judged : {outcome : Outcome} (table : Listings E) (ends : Endings W) (verdict : Verdict W) → IsOpenJudged domain p image base bytes table ends verdict
        → ByVerdict domain.word_text (Marked ends (IsSliceText p.spec table at asked)) verdict outcome → SlicesOpen image base bytes at asked outcome

  -- The text is that of the slice of a table that is accepted with its endings: it is true of the runs of the machine from every state that the entry describes, up
  -- to and with the first state at an address that is left open. So the slice holds every chain of every read of the cell at the address, be it left open or not, by
  -- a step before which no state of the run is at such an address, in every run, under every bound on turns: the address of each step of the chain is written, and
  -- where the last of the steps, or the read itself, is of a cell that no step put, the line `entry` is.
  pub record HoldsOpenChains (image : Image) (base bytes : List ℕ) (at : ℕ) (asked : SliceCell) (text : List ℕ) : Type 0 where
    pub accepted : IsOpenAccepted domain p image base bytes
    pub told : Bool
    pub addresses : List ℕ
    pub slice : IsSlice accepted.table at asked.map asked.key told addresses
    pub written : IsMarked accepted.ends (slice_text p.spec at asked told addresses) text
    pub chains : (d n : ℕ) (first : State) (x : Read) (steps : List ℕ) → Begins p first → IsClosedBefore p accepted.ends d n first → IsReadAt p d first at asked.map asked.key n x
        → IsChain p.spec p.machine p.word_at d first (x ∷ []) steps → HoldsChain p d first told addresses x steps
