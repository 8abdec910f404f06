-- Tables that their texts tell.
use Rattle.std.specs.Prelude.{◌≡◌, ℕ, ◌<◌, ◌^◌, Bool, List, [], Option, Some, None, IsTrue}
use Rattle.base_trait.specs.Lists.{Each, IsAscending}
use Rattle.text_words.specs.Readings.{StampFits}
use Rattle.spec_ir.specs.Specification.{Spec}
use Rattle.fixpoint_theory.specs.Elements.{Elements}
use Rattle.fixpoint_theory.specs.Table.{Listing, Listings}
use Rattle.fixpoint_open_tables.specs.Endings.{Endings}
use Rattle.fixpoint_open_tables.specs.declared.ending.Ending.{Ending}
use Rattle.fixpoint_open_tables.specs.declared.ending.Ending.TheVariants.{Open, Undecodable}
use Rattle.analysis_table_laws.specs.Tables.{IsPrintableTable}
use Rattle.text_table_reader.specs.Blocks.{BlocksFit}

-- A block of some code: next addresses are those of code words, and ascend; so do exits; and the stamps of uses are the entry's, or
-- addresses of code words.
pub record IsBlockOfCode {E : Type 0} (code : ℕ → Bool) (b : Listing E) : Type 0 where
  pub next : IsAscending b.next × Each (λ to. IsTrue (code to)) b.next
  pub exits : IsAscending b.exits
  pub stamps : Each (λ u. Each (StampFits code) u.stamps) b.uses

-- each block of a table is
abbrev pub AreBlocksOfCode : {E : Type 0} → (ℕ → Bool) → Listings E → Type 0
AreBlocksOfCode {E} code t = (at : ℕ) (b : Listing E) → t at ≡ Some b → IsBlockOfCode code b

-- A table that its texts tell, where `code` tells the addresses of code words, and `IsPrintable` the elements that texts tell: blocks are of
-- the code, at addresses of code words, elements fit, and the table is printable.
pub record IsWritable {E S : Type 0} (D : Elements E S) (IsPrintable : (ℕ → Bool) → E → Type 0) (spec : Spec) (code : ℕ → Bool) (t : Listings E) : Type 0 where
  pub fits : BlocksFit code D.fits t
  pub printable : IsPrintableTable spec (IsPrintable code) t
  pub of_code : AreBlocksOfCode code t

-- ---- endings, where words have this

module _ {W : Type 0} (Fits : W → Type 0) where
  -- a code word of 32 bits, or such a word
  abbrev pub EndingFits : Ending W → Type 0
  EndingFits (Undecodable word) = word < 2 ^ 32
  EndingFits (Open shown) = Fits shown

  -- What a block may end with that has these next addresses and exits: nothing, or an ending, where it has neither.
  abbrev pub MayEnd : Option (Ending W) → List ℕ → List ℕ → Type 0
  MayEnd None next exits = Unit {0}
  MayEnd (Some ending) next exits = (next ≡ []) × (exits ≡ []) × EndingFits ending

  -- what is listed may end so; what is not has no ending
  abbrev pub MayEndAt : {E : Type 0} → Option (Ending W) → Option (Listing E) → Type 0
  MayEndAt ending None = ending ≡ None
  MayEndAt ending (Some b) = MayEnd ending b.next b.exits

  -- each block of a table may end so
  abbrev pub AreEndingsOf : {E : Type 0} → Listings E → Endings W → Type 0
  AreEndingsOf t ends = (a : ℕ) → MayEndAt (ends a) (t a)
