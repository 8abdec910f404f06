-- What a slice of a table comes to, in a domain.
use Rattle.std.specs.Prelude.{◌≡◌, ℕ, Bool, List, [], ◌∷◌, Err}
use Rattle.base_trait.specs.Uses.{Read}
use Rattle.semantics_values.specs.States.{State}
use Rattle.code_image.specs.Image.{Image}
use Rattle.spec_ir.specs.Specification.{Spec}
use Rattle.fixpoint_theory.specs.Table.{Listings}
use Rattle.fixpoint_theory.specs.Verdicts.{verdict_of}
use Rattle.analysis_transfer_laws.specs.Problem.{Problem}
use Rattle.analysis_transfer_laws.specs.Runs.{Begins}
use Rattle.analysis_query_laws.specs.Chains.{IsChain}
use Rattle.analysis_query_laws.specs.SliceLaws.{HoldsChain, IsReadAt}
use Rattle.analysis_query_laws.specs.Slices.{IsSlice}
use Rattle.text_slices.specs.declared.slice_cell.SliceCell.{SliceCell}
use Rattle.text_slices.specs.Writing.{slice_text}
use Rattle.program_common.specs.Outcome.{Outcome, Refusal}
use Rattle.program_domains.specs.Analyses.{analysis}
use Rattle.program_domains.specs.Checks.{IsAccepted, IsJudged}
use Rattle.program_domains.specs.Closed.{ByVerdict}
use Rattle.program_domains.specs.Domains.{DomainOf}
use Rattle.program_domains.specs.Refusals.{IsRefused}

-- The bytes are the text of the slice of a table, for the reads of a cell by the instruction at an address.
pub record IsSliceText {E : Type 0} (spec : Spec) (table : Listings E) (at : ℕ) (asked : SliceCell) (bytes : List ℕ) : Type 0 where
  pub told : Bool
  pub addresses : List ℕ
  pub slice : IsSlice table at asked.map asked.key told addresses
  pub written : bytes ≡ slice_text spec at asked told addresses

module _ {E W N C : Type 0} (domain : DomainOf E W N C) (p : Problem) where
  -- The outcome for the text of a table: its first fault, or its first block that is left open; where the table is not closed, what its check comes to; else the text of the slice.
  pub data Slices (image : Image) (base bytes : List ℕ) (at : ℕ) (asked : SliceCell) : Outcome → Type 0 where
    refused : {refusal : Refusal} → IsRefused domain p.spec image base bytes refusal → Slices image base bytes at asked (Err refusal)
    judged : {outcome : Outcome} (table : Listings E) → IsJudged domain p image base bytes table
        → ByVerdict domain.word_text (IsSliceText p.spec table at asked) (verdict_of (analysis domain p) table) outcome → Slices image base bytes at asked outcome

  -- The text is that of the slice of a table that is accepted: it is closed, and true of the runs of the machine from every state that the entry
  -- describes. So the slice holds every chain of every read of the cell at the address, in every such run, under every bound on turns: the address of
  -- each step of the chain is written, and where the last of the steps, or the read itself, is of a cell that no step put, the line `entry` is.
  pub record HoldsChains (image : Image) (base bytes : List ℕ) (at : ℕ) (asked : SliceCell) (text : List ℕ) : Type 0 where
    pub accepted : IsAccepted domain p image base bytes
    pub told : Bool
    pub addresses : List ℕ
    pub slice : IsSlice accepted.table at asked.map asked.key told addresses
    pub written : text ≡ slice_text p.spec at asked told addresses
    pub chains : (d n : ℕ) (first : State) (x : Read) (steps : List ℕ) → Begins p first → IsReadAt p d first at asked.map asked.key n x
        → IsChain p.spec p.machine p.word_at d first (x ∷ []) steps → HoldsChain p d first told addresses x steps
