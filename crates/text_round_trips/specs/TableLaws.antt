-- What holds of the texts of tables.
use Rattle.std.specs.Prelude.{◌≡◌, ℕ, Bool, List, IsTrue}
use Rattle.std.specs.List.{list_all}
use Rattle.spec_ir.specs.Specification.{Spec}
use Rattle.code_image.specs.Faults.{IsImage}
use Rattle.code_image.specs.Image.{Image, addresses}
use Rattle.fixpoint_theory.specs.Analysis.{Analysis}
use Rattle.fixpoint_theory.specs.Elements.{Elements}
use Rattle.fixpoint_theory.specs.Table.{FitsImage, Listings, TableFits}
use Rattle.fixpoint_open_tables.specs.Endings.{Endings}
use Rattle.text_lines.specs.Lines.{is_inside}
use Rattle.text_elements.specs.Parts.{ElementText}
use Rattle.text_element_readers.specs.Laws.{ReadingLaws}
use Rattle.text_element_readers.specs.Reading.{ElementReading}
use Rattle.text_element_readers.specs.Words.{WordReading}
use Rattle.text_round_trips.specs.RoundTrips.{RoundTrips}
use Rattle.text_round_trips.specs.Words.{WordsTell}
use Rattle.text_table_reader.specs.Blocks.{BlocksFit}
use Rattle.text_table_reader.specs.Ends.{is_word_of}
use Rattle.text_table_reader.specs.Tables.{IsOpenTableIn, IsTableIn}
use Rattle.text_table_reader.specs.Readings.{AreAlike}
use Rattle.text_round_trips.specs.Fields.{HasUseTexts}
use Rattle.text_round_trips.specs.FirstTexts.{IsOpenTextOf, IsTextOf}
use Rattle.text_round_trips.specs.Writable.{AreBlocksOfCode, AreEndingsOf, IsWritable}

-- Of the tables of a specification and an image, where the round trip of elements and of words holds.
module _ {E W S : Type 0} (Reads : ElementReading E) (word_in : WordReading W) (IsText : ElementText E) (word_text : ℕ → W → List ℕ) (D : Elements E S) (IsPrintable : (ℕ → Bool) → E → Type 0) (Fits : W → Type 0) where
  -- What the laws rely on: the round trip of elements and of words, what holds of what is read, and that fields tell uses.
  pub record HasParts (spec : Spec) (image : Image) : Type 0 where
    pub elements : RoundTrips Reads IsText D IsPrintable spec
    pub words : WordsTell word_text word_in Fits
    pub laws : ReadingLaws Reads D spec
    pub fields : HasUseTexts spec
    pub is_image : IsImage image

  -- ---- tables that may be left open

  -- A text that is read is one of the table that is read with its endings, byte for byte.
  abbrev pub OpenTextsAreTold : Type 0
  OpenTextsAreTold =
      (spec : Spec) (image : Image) (base : List ℕ) → HasParts spec image → (bytes : List ℕ) (t : Listings E) (ends : Endings W) → IsOpenTableIn Reads word_in spec base image bytes t ends
      → IsOpenTextOf word_text (IsText spec) spec image base t ends bytes

  -- A table that is read with its endings is one that its texts tell.
  abbrev pub OpenTablesReadAreWritable : Type 0
  OpenTablesReadAreWritable =
      (spec : Spec) (image : Image) (base : List ℕ) → HasParts spec image → (bytes : List ℕ) (t : Listings E) (ends : Endings W) → IsOpenTableIn Reads word_in spec base image bytes t ends
      → IsWritable D IsPrintable spec (is_word_of image) t × AreEndingsOf Fits t ends

  -- A text of such a table is read as that table with its endings, where the name of the base has no LF.
  abbrev pub OpenTextsAreRead : Type 0
  OpenTextsAreRead =
      (spec : Spec) (image : Image) (base : List ℕ) → HasParts spec image → IsTrue (list_all is_inside base)
      → (text : List ℕ) (t : Listings E) (ends : Endings W) → IsWritable D IsPrintable spec (is_word_of image) t → AreEndingsOf Fits t ends
      → IsOpenTextOf word_text (IsText spec) spec image base t ends text → IsOpenTableIn Reads word_in spec base image text t ends

  -- Tables with one text are alike, and end alike.
  abbrev pub OpenTextsTellTables : Type 0
  OpenTextsTellTables =
      (spec : Spec) (image : Image) (base : List ℕ) → HasParts spec image → IsTrue (list_all is_inside base)
      → (text : List ℕ) (t u : Listings E) (ends others : Endings W) → IsWritable D IsPrintable spec (is_word_of image) t → AreEndingsOf Fits t ends → IsWritable D IsPrintable spec (is_word_of image) u → AreEndingsOf Fits u others
      → IsOpenTextOf word_text (IsText spec) spec image base t ends text → IsOpenTextOf word_text (IsText spec) spec image base u others text → AreAlike D t u × ((a : ℕ) → ends a ≡ others a)

  -- What is written of a table that was read is read as that table.
  abbrev pub ConvertedTextsAreRead : Type 0
  ConvertedTextsAreRead =
      (spec : Spec) (image : Image) (base : List ℕ) → HasParts spec image → IsTrue (list_all is_inside base)
      → (bytes new : List ℕ) (t : Listings E) (ends : Endings W) → IsOpenTableIn Reads word_in spec base image bytes t ends → IsOpenTextOf word_text (IsText spec) spec image base t ends new
      → IsOpenTableIn Reads word_in spec base image new t ends

  -- ---- tables of which no block is left open

  -- A text that is read is one of the table that is read, byte for byte.
  abbrev pub TextsAreTold : Type 0
  TextsAreTold = (spec : Spec) (image : Image) (base : List ℕ) → HasParts spec image → (bytes : List ℕ) (t : Listings E) → IsTableIn Reads word_in spec base image bytes t → IsTextOf (IsText spec) spec image base t bytes

  -- A table that is read is one that its texts tell.
  abbrev pub TablesReadAreWritable : Type 0
  TablesReadAreWritable = (spec : Spec) (image : Image) (base : List ℕ) → HasParts spec image → (bytes : List ℕ) (t : Listings E) → IsTableIn Reads word_in spec base image bytes t → IsWritable D IsPrintable spec (is_word_of image) t

  -- A text of such a table is read as that table, where the name of the base has no LF.
  abbrev pub TextsAreRead : Type 0
  TextsAreRead = (spec : Spec) (image : Image) (base : List ℕ) → HasParts spec image → IsTrue (list_all is_inside base)
      → (text : List ℕ) (t : Listings E) → IsWritable D IsPrintable spec (is_word_of image) t → IsTextOf (IsText spec) spec image base t text → IsTableIn Reads word_in spec base image text t

  -- Tables with one text are alike.
  abbrev pub TextsTellTables : Type 0
  TextsTellTables = (spec : Spec) (image : Image) (base : List ℕ) → HasParts spec image → IsTrue (list_all is_inside base)
      → (text : List ℕ) (t u : Listings E) → IsWritable D IsPrintable spec (is_word_of image) t → IsWritable D IsPrintable spec (is_word_of image) u → IsTextOf (IsText spec) spec image base t text → IsTextOf (IsText spec) spec image base u text → AreAlike D t u

-- The blocks of a table of an analysis of an image that fits, and fits the image, are those of its code, and their elements fit. Where it is
-- printable, its texts tell it.
abbrev pub FittingTablesAreOfCode : {E W S : Type 0} → Analysis E W S → Type 0
FittingTablesAreOfCode {E} A = (image : Image) → IsImage image → A.code ≡ addresses image.segments → (t : Listings E) → TableFits A t → FitsImage A t
    → BlocksFit (is_word_of image) A.elements.fits t × AreBlocksOfCode (is_word_of image) t
