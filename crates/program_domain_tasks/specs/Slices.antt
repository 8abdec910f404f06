-- What a slice comes to with the elements of the code.
use Rattle.std.specs.Prelude.{ℕ, List, Err}
use Rattle.code_image.specs.Image.{Image}
use Rattle.fixpoint_theory.specs.Verdicts.{verdict_of}
use Rattle.fixpoint_theory.specs.Views.{listings}
use Rattle.fixpoint_theory.specs.declared.table.Table.{Table}
use Rattle.text_slices.specs.declared.slice_cell.SliceCell.{SliceCell}
use Rattle.analysis_transfer_laws.specs.Problem.{Problem}
use Rattle.program_common.specs.Outcome.{Outcome, Refusal}
use Rattle.program_domains.specs.Analyses.{analysis}
use Rattle.program_domains.specs.Closed.{ByVerdict}
use Rattle.program_domains.specs.Slices.{IsSliceText}
use Rattle.program_domain_tasks.specs.Own.{IsOwnJudged, IsOwnRefused, Own, as_defined}

module _ {X E W N C : Type 0} (own : Own X E W N C) (p : Problem) where
  pub data OwnSlices (image : Image) (base bytes : List ℕ) (at : ℕ) (cell : SliceCell) : Outcome → Type 0 where
    refused : {refusal : Refusal} → IsOwnRefused own p.spec image base bytes refusal → OwnSlices image base bytes at cell (Err refusal)
    judged : {outcome : Outcome} (table : Table X) → IsOwnJudged own p image base bytes table
        → ByVerdict own.word_text (IsSliceText p.spec (listings (λ x. x) table) at cell) (verdict_of (analysis (as_defined own) p) (listings own.view table)) outcome → OwnSlices image base bytes at cell outcome
