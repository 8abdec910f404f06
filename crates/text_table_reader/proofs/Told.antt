-- No first fault of a table is want of memory.
use Rattle.std.proofs.Common.{◌≢◌, ◌∙◌, ◌+◌, ◌-◌, ℕ, List, length, subst, sym}
use Rattle.spec_ir.specs.Specification.{Spec}
use Rattle.code_image.specs.Image.{Image}
use Rattle.text_faults.specs.declared.table_error.TableError.{TableError}
use Rattle.text_faults.specs.declared.table_error.TableError.TheVariants.{NoMemory}
use Rattle.text_lines.specs.Lines.{lines}
use Rattle.text_element_readers.specs.Reading.{ElementReading}
use Rattle.text_element_readers.specs.Words.{WordReading}
use Rattle.text_table_reader.specs.declared.head.Rule.{Rule}
use Rattle.text_table_reader.specs.declared.head.Rule.TheVariants as rule
use Rattle.text_table_reader.specs.Tables.{IsErrorIn, error_at}

-- The error has a line.
abbrev IsTold : TableError → Type 0
IsTold NoMemory = ⊥
IsTold _ = Unit {0}

rule_told : (n : ℕ) (broken : Rule) → IsTold (error_at n broken)
rule_told n rule.Form = tt
rule_told n rule.Base = tt
rule_told n rule.Code = tt

module _ {E W : Type 0} (Reads : ElementReading E) (word_in : WordReading W) (spec : Spec) (name : List ℕ) (image : Image) where
  pub table_told : (bytes : List ℕ) (error : TableError) → IsErrorIn Reads word_in spec name image bytes error → error ≢ NoMemory
  table_told bytes error h none = subst IsTold (sym h.is ∙ none) (rule_told (1 + (length (lines bytes) - length h.fault.left)) h.fault.rule)
