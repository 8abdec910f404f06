-- The text of a table in format 1, and its texts in either format.
use Rattle.std.specs.Prelude.{◌≡◌, ◌⊎◌, ℕ, List, [], ◌∷◌, ◌++◌, codes}
use Rattle.spec_ir.specs.Specification.{Spec}
use Rattle.fixpoint_theory.specs.Table.{Listings}
use Rattle.fixpoint_open_tables.specs.Endings.{Endings}
use Rattle.code_image.specs.declared.order.Order.TheVariants.{Big}
use Rattle.code_image.specs.Image.{Image, Segment, addresses, words_of}
use Rattle.text_tables.specs.Heads.{code_line}
use Rattle.text_tables.specs.Open.{AreOpenBlocks, IsOpenTableText}
use Rattle.text_tables.specs.Tables.{AreBlocks, IsTableText}

-- the format, the base, and the code of one segment
abbrev pub first_head : List ℕ → Segment → List ℕ
first_head base s = codes "tsl-table 1\nbase " ++ (base ++ (codes "\n" ++ code_line s.base (words_of s)))

module _ {E : Type 0} (IsElement : E → List ℕ → Type 0) (spec : Spec) where
  -- The text in format 1 of a table of an image, which has one segment, in big order: the head, which tells no order, and what is
  -- written of the addresses of its words.
  pub record IsFirstText (image : Image) (base : List ℕ) (t : Listings E) (text : List ℕ) : Type 0 where
    pub segment : Segment
    pub only : image.segments ≡ segment ∷ []
    pub order : image.order ≡ Big
    pub blocks : List ℕ
    pub are_blocks : AreBlocks IsElement spec t (addresses image.segments) blocks
    pub lines : text ≡ first_head base segment ++ blocks

  -- a text of the table, in format 2 or in format 1
  abbrev pub IsTextOf : Image → List ℕ → Listings E → List ℕ → Type 0
  IsTextOf image base t text = IsTableText IsElement spec image base t text ⊎ IsFirstText image base t text

-- The same of a table whose blocks may be left open, where words of so many bits have these texts.
module _ {E W : Type 0} (word_text : ℕ → W → List ℕ) (IsElement : E → List ℕ → Type 0) (spec : Spec) where
  pub record IsOpenFirstText (image : Image) (base : List ℕ) (t : Listings E) (ends : Endings W) (text : List ℕ) : Type 0 where
    pub segment : Segment
    pub only : image.segments ≡ segment ∷ []
    pub order : image.order ≡ Big
    pub blocks : List ℕ
    pub are_blocks : AreOpenBlocks word_text IsElement spec t ends (addresses image.segments) blocks
    pub lines : text ≡ first_head base segment ++ blocks

  -- a text of the table with its endings, in format 2 or in format 1
  abbrev pub IsOpenTextOf : Image → List ℕ → Listings E → Endings W → List ℕ → Type 0
  IsOpenTextOf image base t ends text = IsOpenTableText word_text IsElement spec image base t ends text ⊎ IsOpenFirstText image base t ends text
