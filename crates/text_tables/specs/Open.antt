-- The text of a table that is left open.
use Rattle.std.specs.Prelude.{◌≡◌, ℕ, List, [], ◌∷◌, ◌++◌, Option, Some, None, codes}
use Rattle.spec_ir.specs.Specification.{Spec}
use Rattle.fixpoint_theory.specs.Table.{Listing, Listings}
use Rattle.code_image.specs.Image.{Image, addresses}
use Rattle.fixpoint_open_tables.specs.Endings.{Endings}
use Rattle.fixpoint_open_tables.specs.declared.ending.Ending.{Ending}
use Rattle.fixpoint_open_tables.specs.declared.ending.Ending.TheVariants.{Open, Undecodable}
use Rattle.text_words.specs.Words.{number}
use Rattle.text_tables.specs.Blocks.{IsBlock}
use Rattle.text_tables.specs.Heads.{head}

-- the last line of a block whose code word has no decoding
abbrev pub undecodable_line : ℕ → List ℕ
undecodable_line word = codes "undecodable " ++ (number 32 word ++ codes "\n")

-- Where words of so many bits have these texts:
module _ {W : Type 0} (word_text : ℕ → W → List ℕ) where
  -- the last line of a block whose instruction may lead to too many addresses
  abbrev pub open_line : W → List ℕ
  open_line shown = codes "open " ++ (word_text 32 shown ++ codes "\n")

  -- the last line of a block that is left open
  abbrev pub ending_line : Ending W → List ℕ
  ending_line (Undecodable word) = undecodable_line word
  ending_line (Open shown) = open_line shown

  -- nothing, where it is not
  abbrev pub ending_text : Option (Ending W) → List ℕ
  ending_text None = []
  ending_text (Some ending) = ending_line ending

  -- and where texts of elements are these:
  module _ {E : Type 0} (IsElement : E → List ℕ → Type 0) (spec : Spec) where
    -- The text of a block, with its ending.
    pub record IsOpenBlock (at : ℕ) (b : Listing E) (ending : Option (Ending W)) (text : List ℕ) : Type 0 where
      pub block : List ℕ
      pub is_block : IsBlock IsElement spec at b block
      pub lines : text ≡ block ++ ending_text ending

    -- what is written of an address: its block, where it is listed
    abbrev pub IsOpenAt : ℕ → Option (Listing E) → Option (Ending W) → List ℕ → Type 0
    IsOpenAt at None ending text = text ≡ []
    IsOpenAt at (Some b) ending text = IsOpenBlock at b ending text

    -- what is written of addresses, one after another
    pub data AreOpenBlocks (t : Listings E) (ends : Endings W) : List ℕ → List ℕ → Type 0 where
      none : AreOpenBlocks t ends [] []
      onto : {at : ℕ} {addresses : List ℕ} (first rest : List ℕ) → IsOpenAt at (t at) (ends at) first → AreOpenBlocks t ends addresses rest → AreOpenBlocks t ends (at ∷ addresses) (first ++ rest)

    -- The text of a table of an image, with the endings of its blocks: the head, and what is written of the addresses of its words.
    pub record IsOpenTableText (image : Image) (base : List ℕ) (t : Listings E) (ends : Endings W) (text : List ℕ) : Type 0 where
      pub blocks : List ℕ
      pub are_blocks : AreOpenBlocks t ends (addresses image.segments) blocks
      pub lines : text ≡ head base image ++ blocks
