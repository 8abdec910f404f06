-- The first faulty line of a text.
use Rattle.std.proofs.Common.{◌≡◌, ◌+◌, ◌-◌, ℕ, List, length, Ok, Err, refl, ap, ◌∙◌, inl, inr}
use Rattle.spec_ir.specs.Specification.{Spec}
use Rattle.code_image.specs.Image.{Image}
use Rattle.text_faults.specs.declared.table_error.TableError.{TableError}
use Rattle.text_lines.specs.Lines.{Lines, lines}
use Rattle.text_element_readers.specs.Reading.{ElementReading}
use Rattle.text_element_readers.specs.Words.{WordReading}
use Rattle.text_table_reader.specs.declared.head.Rule.{Rule}
use Rattle.text_table_reader.specs.declared.head.Rule.TheVariants.{Form}
use Rattle.text_table_reader.specs.Blocks.{AreFaultyFrom}
use Rattle.text_table_reader.specs.Ends.{is_word_of}
use Rattle.text_table_reader.specs.Heads.{read_head}
use Rattle.text_table_reader.specs.Tables.{IsErrorIn, error_at}

module _ {E W : Type 0} (Reads : ElementReading E) (word_in : WordReading W) (spec : Spec) (name : List ℕ) (image : Image) (bytes : List ℕ) (n : ℕ) (error : TableError) where
  -- it is one of the head
  pub in_the_head : (rule : Rule) (left : Lines) → read_head name image (lines bytes) ≡ Err (record { rule = rule; left = left }) → n ≡ length left
      → error ≡ error_at (1 + (length (lines bytes) - n)) rule → IsErrorIn Reads word_in spec name image bytes error
  in_the_head rule left head count is = record {
    fault = record { rule = rule; left = left };
    faulty = inl head;
    is = is ∙ ap (λ k. error_at (1 + (length (lines bytes) - k)) rule) count;
  }

  -- it stands behind the head
  pub behind_the_head : (later left : Lines) → read_head name image (lines bytes) ≡ Ok later → AreFaultyFrom Reads word_in spec (is_word_of image) later left → n ≡ length left
      → error ≡ error_at (1 + (length (lines bytes) - n)) Form → IsErrorIn Reads word_in spec name image bytes error
  behind_the_head later left head faulty count is = record {
    fault = record { rule = Form; left = left };
    faulty = inr (record { blocks = faulty.blocks; ends = faulty.ends; later = later; left = left; head = head; are_read = faulty.are_read; is = refl });
    is = is ∙ ap (λ k. error_at (1 + (length (lines bytes) - k)) Form) count;
  }
