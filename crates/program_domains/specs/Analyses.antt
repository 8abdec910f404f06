-- What the analysis of a problem comes to, in a domain.
use Rattle.std.specs.Prelude.{◌≡◌, ◌≤◌, ℕ, ◌+◌, ◌*◌, List, Ok, Err, length}
use Rattle.base_trait.specs.Uses.{Seen}
use Rattle.semantics_values.specs.States.{State}
use Rattle.code_image.specs.Image.{Image}
use Rattle.fixpoint_theory.specs.Analysis.{Analysis, height_of}
use Rattle.fixpoint_theory.specs.Outcome.{too_many, undecodable}
use Rattle.fixpoint_theory.specs.WorklistState.{IsComplete, IsLegal, worklist_state}
use Rattle.fixpoint_theory.specs.Table.{IsTableOf, Listings, TableFits}
use Rattle.analysis_cuts.specs.Analysis.{cut_analysis_of}
use Rattle.analysis_transfer_laws.specs.Problem.{Problem}
use Rattle.analysis_transfer_laws.specs.Runs.{IsTrueOfRuns}
use Rattle.analysis_transfer.specs.Analysis.{calls_of}
use Rattle.fixpoint_worklist.specs.Answers.{IsStopOf}
use Rattle.text_tables.specs.Tables.{IsTableText}
use Rattle.program_common.specs.Outcome as o
use Rattle.program_common.specs.Outcome.{Outcome, Refusal, text, undecodable_at, too_many_targets}
use Rattle.program_domains.specs.Domains.{DomainOf}

module _ {E W N C : Type 0} (domain : DomainOf E W N C) (p : Problem) where
  -- the analysis of the problem in the domain, by cases where elements are split
  abbrev pub analysis : Analysis E W State
  analysis = cut_analysis_of domain.base domain.cap domain.elements domain.meaning domain.pieces p (calls_of domain.base domain.cap domain.meaning p)

  -- The trace is short: of N code words and elements of the height H it has at most N(H + J + 1) transfers, where J changes of an element join.
  abbrev pub IsShort : List ℕ → Type 0
  IsShort trace = length trace ≤ length p.addresses * (height_of analysis + p.joins + 1)

  -- The text is that of the table of the analysis: of the one trace that is legal and leaves nothing pending. The table is true of the runs of
  -- the machine from every state that the entry describes: the element at each address describes every state that the meaning puts
  -- there, and where the base tells stamps each use list holds every definition that a read sees. That it is true follows from the rest, where
  -- the domain keeps the laws and the problem is well posed. It stands here so that what is owed carries it. The image is the problem's.
  pub record IsTable (image : Image) (base bytes : List ℕ) : Type 0 where
    pub trace : List ℕ
    pub table : Listings E
    pub legal : IsLegal analysis trace
    pub complete : IsComplete (worklist_state analysis trace)
    pub few : IsShort trace
    pub is_table : IsTableOf analysis table (worklist_state analysis trace)
    pub fits : TableFits analysis table
    pub is_true : IsTrueOfRuns domain.base domain.elements p table
    pub text : IsTableText (domain.IsText p.spec) p.spec image base table bytes

  -- After a legal trace, which is short, the least pending address has no decoding, or its new counter may be too many addresses.
  abbrev pub IsStop : Refusal → Type 0
  IsStop (undecodable_at at word) = (trace : List ℕ) × IsShort trace × IsStopOf analysis trace at (undecodable word)
  IsStop (too_many_targets at shown) = (trace : List ℕ) × (x : W) × (uses : List Seen) × IsShort trace × IsStopOf analysis trace at (too_many x uses) × (shown ≡ domain.word_text 32 x)
  IsStop _ = ⊥

  -- The outcome of the analysis: the text of its table, headed by the name of the base, or the refusal of its first stop.
  abbrev pub ComesTo : Image → List ℕ → Outcome → Type 0
  ComesTo image base (Ok (text bytes)) = IsTable image base bytes
  ComesTo image base (Ok (o.undecodable bytes)) = ⊥
  ComesTo image base (Ok (o.calls_ended bytes)) = ⊥
  ComesTo image base (Err refusal) = IsStop refusal
