-- What the check of a table comes to, in a domain, where blocks may be left open.
use Rattle.std.specs.Prelude.{◌≡◌, ℕ, List, Err}
use Rattle.code_image.specs.Image.{Image}
use Rattle.fixpoint_theory.specs.Table.{Listings, TableFits}
use Rattle.fixpoint_theory.specs.declared.verdict.Verdict.{Verdict}
use Rattle.fixpoint_theory.specs.declared.verdict.Verdict.TheVariants as v
use Rattle.fixpoint_open_tables.specs.Endings.{Endings}
use Rattle.fixpoint_open_tables.specs.Verdicts.{IsVerdict}
use Rattle.text_faults.specs.declared.table_error.TableError.{TableError}
use Rattle.text_table_reader.specs.Tables.{IsErrorIn, IsOpenTableIn}
use Rattle.analysis_transfer_laws.specs.OpenRuns.{IsTrueUntilOpen}
use Rattle.analysis_transfer_laws.specs.Problem.{Problem}
use Rattle.program_common.specs.Outcome.{Outcome, table_refused}
use Rattle.program_domains.specs.Analyses.{analysis}
use Rattle.program_domains.specs.Checks.{outcome_of}
use Rattle.program_domains.specs.Domains.{DomainOf}

module _ {E W N C : Type 0} (domain : DomainOf E W N C) (p : Problem) where
  -- The text is that of the table with these endings, over the base of this name, and this is the verdict on both: of a text without endings, that on a table
  -- of which no block is left open. Where it is that they are accepted, the table is true of the runs of the machine from every state that the entry describes, up
  -- to and with the first state at an address that is left open, as a table of an analysis that is left open is. That follows from the rest, where the domain
  -- keeps the laws and the problem is well posed. It stands here so that what is owed carries it. The image is the problem's.
  pub record IsOpenJudged (image : Image) (base bytes : List ℕ) (table : Listings E) (ends : Endings W) (verdict : Verdict W) : Type 0 where
    pub is_table : IsOpenTableIn domain.Reads domain.word_in p.spec base image bytes table ends
    pub fits : TableFits (analysis domain p) table
    pub is_verdict : IsVerdict (analysis domain p) table ends verdict
    pub is_true : verdict ≡ v.Accepted → IsTrueUntilOpen domain.base domain.elements p table ends

  -- The text is that of a table with endings which is accepted: it is closed but where it is left open, and true of the runs of the machine from every state that
  -- the entry describes, up to and with the first state at such an address.
  pub record IsOpenAccepted (image : Image) (base bytes : List ℕ) : Type 0 where
    pub table : Listings E
    pub ends : Endings W
    pub is_table : IsOpenTableIn domain.Reads domain.word_in p.spec base image bytes table ends
    pub fits : TableFits (analysis domain p) table
    pub closed : IsVerdict (analysis domain p) table ends v.Accepted
    pub is_true : IsTrueUntilOpen domain.base domain.elements p table ends

  -- The outcome of the check of a text: its first fault, or the verdict on the table that it is, with its endings.
  pub data JudgesOpen (image : Image) (base bytes : List ℕ) : Outcome → Type 0 where
    refused : {error : TableError} → IsErrorIn domain.Reads domain.word_in p.spec base image bytes error → JudgesOpen image base bytes (Err (table_refused error))
    judged : (table : Listings E) (ends : Endings W) (verdict : Verdict W) → IsOpenJudged image base bytes table ends verdict → JudgesOpen image base bytes (outcome_of domain.word_text verdict)
