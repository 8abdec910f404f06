-- The text of a table.
use Rattle.std.specs.Prelude.{◌≡◌, ℕ, List, [], ◌∷◌, ◌++◌, Option, Some, None}
use Rattle.spec_ir.specs.Specification.{Spec}
use Rattle.fixpoint_theory.specs.Table.{Listing, Listings}
use Rattle.code_image.specs.Image.{Image, addresses}
use Rattle.text_tables.specs.Blocks.{IsBlock}
use Rattle.text_tables.specs.Heads.{head}

module _ {E : Type 0} (IsElement : E → List ℕ → Type 0) (spec : Spec) where
  -- what is written of an address: its block, where it is listed
  abbrev pub IsAt : ℕ → Option (Listing E) → List ℕ → Type 0
  IsAt at None text = text ≡ []
  IsAt at (Some b) text = IsBlock IsElement spec at b text

  -- what is written of addresses, one after another
  pub data AreBlocks (t : Listings E) : List ℕ → List ℕ → Type 0 where
    none : AreBlocks t [] []
    onto : {at : ℕ} {addresses : List ℕ} (first rest : List ℕ) → IsAt at (t at) first → AreBlocks t addresses rest → AreBlocks t (at ∷ addresses) (first ++ rest)

  -- The text of a table of an image: the head, and what is written of the addresses of its words.
  pub record IsTableText (image : Image) (base : List ℕ) (t : Listings E) (text : List ℕ) : Type 0 where
    pub blocks : List ℕ
    pub are_blocks : AreBlocks t (addresses image.segments) blocks
    pub lines : text ≡ head base image ++ blocks
