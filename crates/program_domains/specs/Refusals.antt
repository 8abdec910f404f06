-- When a text is refused that is to be of a table of which no block is left open.
use Rattle.std.specs.Prelude.{ℕ, List}
use Rattle.code_image.specs.Image.{Image}
use Rattle.spec_ir.specs.Specification.{Spec}
use Rattle.fixpoint_theory.specs.Table.{Listings}
use Rattle.fixpoint_open_tables.specs.Endings.{Endings}
use Rattle.text_faults.specs.declared.table_error.TableError.{TableError}
use Rattle.text_table_reader.specs.Tables.{IsErrorIn, IsOpenTableIn}
use Rattle.text_table_reader.specs.Readings.{IsFirstOpen}
use Rattle.program_common.specs.Outcome.{Refusal, rejected, table_refused}
use Rattle.program_common.specs.declared.rejection.Rejection.TheVariants as r
use Rattle.program_domains.specs.Domains.{DomainOf}

-- Its first fault; or, of a table, the first address whose block is left open, as if its targets were wrong.
pub data IsRefused {E W N C : Type 0} (domain : DomainOf E W N C) (spec : Spec) (image : Image) (base bytes : List ℕ) : Refusal → Type 0 where
  faulty : {error : TableError} → IsErrorIn domain.Reads domain.word_in spec base image bytes error → IsRefused domain spec image base bytes (table_refused error)
  left_open : {at : ℕ} (table : Listings E) (ends : Endings W) → IsOpenTableIn domain.Reads domain.word_in spec base image bytes table ends → IsFirstOpen ends at
      → IsRefused domain spec image base bytes (rejected (r.Targets at))
