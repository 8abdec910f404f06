-- What the code's analyses that are left open come to.
use Rattle.std.proofs.Common.{ℕ, List}
use Rattle.std.specs.Prelude.{Ok}
use Rattle.code_image.specs.Image.{Image}
use Rattle.fixpoint_theory.specs.Analysis.{AnalysisLaws}
use Rattle.fixpoint_theory.specs.Table.{TableFits}
use Rattle.fixpoint_theory.specs.Views.{listings}
use Rattle.fixpoint_theory.proofs.Potential.{legal_traces_are_short}
use Rattle.fixpoint_open_tables.specs.Endings.{IsClosedButOpen, ends_in}
use Rattle.fixpoint_open_tables.specs.Instance.{left_open_laws}
use Rattle.fixpoint_open_tables.specs.declared.analysis.OpenReport.{OpenReport}
use Rattle.analysis_transfer_laws.specs.OpenRuns.{IsTrueUntilOpen}
use Rattle.analysis_transfer_laws.specs.Problem.{Problem}
use Rattle.fixpoint_worklist.specs.Answers.{IsReportOf}
use Rattle.text_tables.specs.Open.{IsOpenTableText}
use Rattle.program_common.specs.Outcome.{Answer, calls_ended, text, undecodable}
use Rattle.program_domains.specs.Analyses.{analysis}
use Rattle.program_domains.specs.OpenAnalyses.{open_analysis}
use Rattle.program_open_tasks.specs.Open.{OwnComesOpen}
use Rattle.program_domain_tasks.specs.Own.{Own, as_defined}
use Rattle.program_domain_tasks.specs.Read.{IsTextOf}

module _ {X E W N C : Type 0} (own : Own X E W N C) (p : Problem) (image : Image) (base : List ℕ) where
  -- a table that is left open, with its text
  pub own_open_table : (r : OpenReport X W) (answer : Answer) → AnalysisLaws (analysis (as_defined own) p) → IsReportOf (open_analysis (as_defined own) p) own.view r.report
      → IsClosedButOpen (analysis (as_defined own) p) (listings own.view r.report.table) (ends_in r.endings) → TableFits (analysis (as_defined own) p) (listings own.view r.report.table)
      → IsTrueUntilOpen own.base own.elements p (listings own.view r.report.table) (ends_in r.endings)
      → IsTextOf (IsOpenTableText own.word_text (own.IsText p.spec) p.spec image base (listings (λ x. x) r.report.table) (ends_in r.endings)) answer → OwnComesOpen own p image base (Ok answer)
  own_open_table r (text bytes) laws reports closed fits runs told = record {
    trace = r.report.trace.items;
    table = r.report.table;
    ends = ends_in r.endings;
    legal = reports.legal;
    complete = reports.complete;
    few = legal_traces_are_short (open_analysis (as_defined own) p) (left_open_laws (analysis (as_defined own) p) laws) r.report.trace.items reports.legal;
    is_table = reports.table;
    fits = fits;
    endings = closed.endings;
    is_true = runs;
    text = told;
  }
  own_open_table r (undecodable bytes) laws reports closed fits runs told = told
  own_open_table r (calls_ended bytes) laws reports closed fits runs told = told
