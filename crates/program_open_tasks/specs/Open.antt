-- What an analysis that is left open comes to with the elements of the code.
use Rattle.std.specs.Prelude.{◌≡◌, ℕ, List, Ok, Err}
use Rattle.code_image.specs.Image.{Image}
use Rattle.fixpoint_theory.specs.WorklistState.{IsComplete, IsLegal, worklist_state}
use Rattle.fixpoint_theory.specs.Table.{IsTableOf, TableFits}
use Rattle.fixpoint_theory.specs.Views.{listings}
use Rattle.fixpoint_theory.specs.declared.table.Table.{Table}
use Rattle.fixpoint_open_tables.specs.Endings.{Endings}
use Rattle.analysis_transfer_laws.specs.OpenRuns.{IsTrueUntilOpen}
use Rattle.analysis_transfer_laws.specs.Problem.{Problem}
use Rattle.text_tables.specs.Open.{IsOpenTableText}
use Rattle.program_common.specs.Outcome as o
use Rattle.program_common.specs.Outcome.{Outcome, text}
use Rattle.program_domains.specs.Analyses.{IsShort, analysis}
use Rattle.program_domains.specs.OpenAnalyses.{open_analysis, open_endings}
use Rattle.program_domain_tasks.specs.Own.{Own, as_defined}

module _ {X E W N C : Type 0} (own : Own X E W N C) (p : Problem) where
  -- A table of the code is that of the analysis, true of the runs until they are at an open address, and the bytes are its text, with these endings.
  pub record IsOwnOpenTable (image : Image) (base bytes : List ℕ) : Type 0 where
    pub trace : List ℕ
    pub table : Table X
    pub ends : Endings W
    pub legal : IsLegal (open_analysis (as_defined own) p) trace
    pub complete : IsComplete (worklist_state (open_analysis (as_defined own) p) trace)
    pub few : IsShort (as_defined own) p trace
    pub is_table : IsTableOf (open_analysis (as_defined own) p) (listings own.view table) (worklist_state (open_analysis (as_defined own) p) trace)
    pub fits : TableFits (analysis (as_defined own) p) (listings own.view table)
    pub endings : (a : ℕ) → ends a ≡ open_endings (as_defined own) p (listings own.view table) a
    pub is_true : IsTrueUntilOpen own.base own.elements p (listings own.view table) ends
    pub text : IsOpenTableText own.word_text (own.IsText p.spec) p.spec image base (listings (λ x. x) table) ends bytes

  abbrev pub OwnComesOpen : Image → List ℕ → Outcome → Type 0
  OwnComesOpen image base (Ok (text bytes)) = IsOwnOpenTable image base bytes
  OwnComesOpen image base (Ok (o.undecodable bytes)) = ⊥
  OwnComesOpen image base (Ok (o.calls_ended bytes)) = ⊥
  OwnComesOpen image base (Err refusal) = ⊥
