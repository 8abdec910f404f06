-- What the check of a table comes to, in a domain.
use Rattle.std.specs.Prelude.{◌≡◌, ℕ, List, Ok, Err, codes}
use Rattle.code_image.specs.Image.{Image}
use Rattle.fixpoint_theory.specs.Table.{Listings, TableFits}
use Rattle.fixpoint_theory.specs.Verdicts.{verdict_of}
use Rattle.fixpoint_theory.specs.declared.verdict.Verdict.{Verdict}
use Rattle.fixpoint_theory.specs.declared.verdict.Verdict.TheVariants as v
use Rattle.text_table_reader.specs.Tables.{IsTableIn}
use Rattle.analysis_transfer_laws.specs.Problem.{Problem}
use Rattle.analysis_transfer_laws.specs.Runs.{IsTrueOfRuns}
use Rattle.program_common.specs.Outcome.{Outcome, Refusal, rejected, text, too_many_targets, undecodable_at}
use Rattle.program_common.specs.declared.rejection.Rejection.TheVariants as r
use Rattle.program_domains.specs.Analyses.{analysis}
use Rattle.program_domains.specs.Domains.{DomainOf}
use Rattle.program_domains.specs.Refusals.{IsRefused}

-- what is answered for a table that is closed
abbrev pub accepted_line : List ℕ
accepted_line = codes "accepted\n"

-- what a verdict comes to: that line, or the refusal of the first part that fails; words of the counter have these texts
abbrev pub outcome_of : {W : Type 0} → (ℕ → W → List ℕ) → Verdict W → Outcome
outcome_of word_text v.Accepted = Ok (text accepted_line)
outcome_of word_text v.Entry = Err (rejected r.Entry)
outcome_of word_text (v.Open at to) = Err (rejected (r.Open at to))
outcome_of word_text (v.Undecodable at word) = Err (undecodable_at at word)
outcome_of word_text (v.TooManyTargets at shown) = Err (too_many_targets at (word_text 32 shown))
outcome_of word_text (v.Targets at) = Err (rejected (r.Targets at))
outcome_of word_text (v.Use at) = Err (rejected (r.Use at))

module _ {E W N C : Type 0} (domain : DomainOf E W N C) (p : Problem) where
  -- The text is that of the table, over the base of this name. Where the verdict on it is that it is closed, it is true of the runs of the
  -- machine from every state that the entry describes, as a table of an analysis is. That follows from the rest, where the domain keeps the laws
  -- and the problem is well posed. It stands here so that what is owed carries it. The image is the problem's.
  pub record IsJudged (image : Image) (base bytes : List ℕ) (table : Listings E) : Type 0 where
    pub is_table : IsTableIn domain.Reads domain.word_in p.spec base image bytes table
    pub fits : TableFits (analysis domain p) table
    pub is_true : verdict_of (analysis domain p) table ≡ v.Accepted → IsTrueOfRuns domain.base domain.elements p table

  -- The text is that of a table which is accepted: it is closed, and true of the runs of the machine from every state that the entry describes.
  pub record IsAccepted (image : Image) (base bytes : List ℕ) : Type 0 where
    pub table : Listings E
    pub is_table : IsTableIn domain.Reads domain.word_in p.spec base image bytes table
    pub fits : TableFits (analysis domain p) table
    pub closed : verdict_of (analysis domain p) table ≡ v.Accepted
    pub is_true : IsTrueOfRuns domain.base domain.elements p table

  -- The outcome of the check of a text: its first fault or its first block that is left open, or the verdict on the table that it is.
  pub data Judges (image : Image) (base bytes : List ℕ) : Outcome → Type 0 where
    refused : {refusal : Refusal} → IsRefused domain p.spec image base bytes refusal → Judges image base bytes (Err refusal)
    judged : (table : Listings E) → IsJudged image base bytes table → Judges image base bytes (outcome_of domain.word_text (verdict_of (analysis domain p) table))
