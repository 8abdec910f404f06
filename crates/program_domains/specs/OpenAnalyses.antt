-- What the analysis of a problem comes to in a domain, where what has no decoding or too many targets is left open.
use Rattle.std.specs.Prelude.{◌≡◌, ℕ, List, Ok, Err}
use Rattle.semantics_values.specs.States.{State}
use Rattle.code_image.specs.Image.{Image}
use Rattle.fixpoint_theory.specs.Analysis.{Analysis}
use Rattle.fixpoint_theory.specs.WorklistState.{IsComplete, IsLegal, worklist_state}
use Rattle.fixpoint_theory.specs.Table.{IsTableOf, Listings, TableFits}
use Rattle.fixpoint_open_tables.specs.Endings.{Endings, endings_of}
use Rattle.fixpoint_open_tables.specs.LeftOpen.{left_open}
use Rattle.analysis_transfer_laws.specs.OpenRuns.{IsTrueUntilOpen}
use Rattle.analysis_transfer_laws.specs.Problem.{Problem}
use Rattle.text_tables.specs.Open.{IsOpenTableText}
use Rattle.program_common.specs.Outcome as o
use Rattle.program_common.specs.Outcome.{Outcome, text}
use Rattle.program_domains.specs.Analyses.{IsShort, analysis}
use Rattle.program_domains.specs.Domains.{DomainOf}

module _ {E W N C : Type 0} (domain : DomainOf E W N C) (p : Problem) where
  -- the analysis that is left open there
  abbrev pub open_analysis : Analysis E W State
  open_analysis = left_open (analysis domain p)

  -- why each block of a table is left open, where it is
  abbrev pub open_endings : Listings E → Endings W
  open_endings table = endings_of (analysis domain p) table

  -- The text is that of the table of the analysis that is left open: of the one trace that is legal and leaves nothing pending, and of how its blocks
  -- end. The table is true of the runs of the machine from every state that the entry describes, up to and with the first state at an address that is
  -- left open: the element at each address describes every state that the meaning puts there, and where the base tells stamps each use list holds every
  -- definition that a read sees. That it is true follows from the rest, where the domain keeps the laws and the problem is well posed. It stands here
  -- so that what is owed carries it. The image is the problem's.
  pub record IsOpenTable (image : Image) (base bytes : List ℕ) : Type 0 where
    pub trace : List ℕ
    pub table : Listings E
    pub ends : Endings W
    pub legal : IsLegal open_analysis trace
    pub complete : IsComplete (worklist_state open_analysis trace)
    pub few : IsShort domain p trace
    pub is_table : IsTableOf open_analysis table (worklist_state open_analysis trace)
    pub fits : TableFits (analysis domain p) table
    pub endings : (a : ℕ) → ends a ≡ open_endings table a
    pub is_true : IsTrueUntilOpen domain.base domain.elements p table ends
    pub text : IsOpenTableText domain.word_text (domain.IsText p.spec) p.spec image base table ends bytes

  -- The outcome: the text of its table, headed by the name of the base. It has no stop.
  abbrev pub ComesOpen : Image → List ℕ → Outcome → Type 0
  ComesOpen image base (Ok (text bytes)) = IsOpenTable image base bytes
  ComesOpen image base (Ok (o.undecodable bytes)) = ⊥
  ComesOpen image base (Ok (o.calls_ended bytes)) = ⊥
  ComesOpen image base (Err refusal) = ⊥
