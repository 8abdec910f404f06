-- What a table that is read is written as, in a domain.
use Rattle.std.specs.Prelude.{ℕ, List, Ok, Err}
use Rattle.code_image.specs.Image.{Image}
use Rattle.spec_ir.specs.Specification.{Spec}
use Rattle.fixpoint_theory.specs.Table.{Listings}
use Rattle.fixpoint_open_tables.specs.Endings.{Endings}
use Rattle.text_faults.specs.declared.table_error.TableError.{TableError}
use Rattle.text_table_reader.specs.Tables.{IsErrorIn, IsOpenTableIn}
use Rattle.text_tables.specs.Open.{IsOpenTableText}
use Rattle.program_common.specs.Outcome.{Outcome, table_refused, text}
use Rattle.program_domains.specs.Domains.{DomainOf}

module _ {E W N C : Type 0} (domain : DomainOf E W N C) (spec : Spec) where
  -- The text, written anew in format 2: its first fault, or the text of the table that it is, with the endings of its blocks that are left open.
  pub data Rewrites (image : Image) (base bytes : List ℕ) : Outcome → Type 0 where
    refused : {error : TableError} → IsErrorIn domain.Reads domain.word_in spec base image bytes error → Rewrites image base bytes (Err (table_refused error))
    rewritten : (table : Listings E) (ends : Endings W) (new : List ℕ) → IsOpenTableIn domain.Reads domain.word_in spec base image bytes table ends
        → IsOpenTableText domain.word_text (domain.IsText spec) spec image base table ends new → Rewrites image base bytes (Ok (text new))
