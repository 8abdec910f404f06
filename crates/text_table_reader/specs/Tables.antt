-- Tables, read.
use Rattle.std.specs.Prelude.{◌≡◌, ◌⊎◌, ℕ, ◌+◌, ◌-◌, List, Option, Some, None, Ok, Err, length}
use Rattle.spec_ir.specs.Specification.{Spec}
use Rattle.code_image.specs.Image.{Image}
use Rattle.fixpoint_theory.specs.Table.{Listing, Listings}
use Rattle.fixpoint_open_tables.specs.Endings.{Endings}
use Rattle.fixpoint_open_tables.specs.declared.ending.Ending.{Ending}
use Rattle.text_faults.specs.declared.table_error.TableError.{TableError}
use Rattle.text_faults.specs.declared.table_error.TableError.TheVariants.{Form, Base, Code}
use Rattle.text_lines.specs.Lines.{Lines, lines}
use Rattle.text_element_readers.specs.Reading.{ElementReading}
use Rattle.text_element_readers.specs.Words.{WordReading}
use Rattle.text_table_reader.specs.Blocks.{AreRead, listings_of}
use Rattle.text_table_reader.specs.Endings.{endings_in}
use Rattle.text_table_reader.specs.declared.head.Rule.{Rule}
use Rattle.text_table_reader.specs.declared.head.Rule.TheVariants as rule
use Rattle.text_table_reader.specs.Ends.{is_word_of}
use Rattle.text_table_reader.specs.Heads.{Faulty, read_head}

-- the error of a faulty line of this number
abbrev pub error_at : ℕ → Rule → TableError
error_at n rule.Form = Form n
error_at n rule.Base = Base
error_at n rule.Code = Code n

-- Where elements and words are read so, and the head is to name this base and this image.
module _ {E W : Type 0} (Reads : ElementReading E) (word_in : WordReading W) (spec : Spec) (name : List ℕ) (image : Image) where
  -- The lines are those of a table, with these endings.
  pub record IsTableOfLines (ls : Lines) (t : Listings E) (endings : Endings W) : Type 0 where
    pub blocks : List (ℕ × Listing E)
    pub ends : List (ℕ × Option (Ending W))
    pub later : Lines
    pub head : read_head name image ls ≡ Ok later
    pub are_read : AreRead Reads word_in spec (is_word_of image) 0 later blocks ends None
    pub table : (a : ℕ) → t a ≡ listings_of blocks a
    pub end_so : (a : ℕ) → endings a ≡ endings_in ends a

  -- The first faulty line is one of the head, or one behind it.
  pub record IsFaultyBehind (ls : Lines) (fault : Faulty) : Type 0 where
    pub blocks : List (ℕ × Listing E)
    pub ends : List (ℕ × Option (Ending W))
    pub later : Lines
    pub left : Lines
    pub head : read_head name image ls ≡ Ok later
    pub are_read : AreRead Reads word_in spec (is_word_of image) 0 later blocks ends (Some left)
    pub is : fault ≡ record { rule = rule.Form; left = left }

  abbrev pub IsFaulty : Lines → Faulty → Type 0
  IsFaulty ls fault = (read_head name image ls ≡ Err fault) ⊎ IsFaultyBehind ls fault

  -- the text is that of this table, whose blocks end so where they are left open
  abbrev pub IsOpenTableIn : List ℕ → Listings E → Endings W → Type 0
  IsOpenTableIn bytes t endings = IsTableOfLines (lines bytes) t endings

  -- the text is that of this table, and no block is left open
  abbrev pub IsTableIn : List ℕ → Listings E → Type 0
  IsTableIn bytes t = IsTableOfLines (lines bytes) t (λ a. None)

  -- its first faulty line is refused so
  pub record IsErrorIn (bytes : List ℕ) (error : TableError) : Type 0 where
    pub fault : Faulty
    pub faulty : IsFaulty (lines bytes) fault
    pub is : error ≡ error_at (1 + (length (lines bytes) - length fault.left)) fault.rule
