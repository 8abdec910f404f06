-- Texts of tables that are left open: there is one where each element has a text, and no other where elements that are the same have one.
use Rattle.std.proofs.Common.{◌≡◌, ◌∙◌, ℕ, List, [], ◌∷◌, ◌++◌, Option, None, Some, ap, refl, sym}
use Rattle.spec_ir.specs.Specification.{Spec}
use Rattle.code_image.specs.Image.{Image, addresses}
use Rattle.fixpoint_theory.specs.Elements.{Elements}
use Rattle.fixpoint_theory.specs.Table.{Listing, Listings}
use Rattle.fixpoint_open_tables.specs.Endings.{Endings}
use Rattle.fixpoint_open_tables.specs.declared.ending.Ending.{Ending}
use Rattle.text_tables.specs.Heads.{head}
use Rattle.text_tables.specs.Open.{AreOpenBlocks, IsOpenAt, IsOpenTableText, ending_text, none, onto}
use Rattle.text_table_reader.specs.Readings.{AreAlike, AreAlikeAt}
use Rattle.program_domains.proofs.Texts.{EachHasText, HaveOneText, has_block, one_block}

module _ {E W : Type 0} (word_text : ℕ → W → List ℕ) (IsElement : E → List ℕ → Type 0) (spec : Spec) where
  -- ---- a text
  module _ (has : EachHasText IsElement) where
    has_open_block : (at : ℕ) (x : Option (Listing E)) (ending : Option (Ending W)) → (text : List ℕ) × IsOpenAt word_text IsElement spec at x ending text
    has_open_block at None ending = ([], refl)
    has_open_block at (Some b) ending =
        let block = has_block IsElement spec has at (Some b) in
        (block.0 ++ ending_text word_text ending, record { block = block.0; is_block = block.1; lines = refl })

    has_open_blocks : (t : Listings E) (ends : Endings W) (addresses : List ℕ) → (text : List ℕ) × AreOpenBlocks word_text IsElement spec t ends addresses text
    has_open_blocks t ends [] = ([], none)
    has_open_blocks t ends (at ∷ addresses) =
        let first = has_open_block at (t at) (ends at) in
        let rest = has_open_blocks t ends addresses in
        (first.0 ++ rest.0, onto first.0 rest.0 first.1 rest.1)

    pub has_open_text : (image : Image) (base : List ℕ) (t : Listings E) (ends : Endings W) → (text : List ℕ) × IsOpenTableText word_text IsElement spec image base t ends text
    has_open_text image base t ends =
        let found = has_open_blocks t ends (addresses image.segments) in
        (head base image ++ found.0, record { blocks = found.0; are_blocks = found.1; lines = refl })

  -- ---- one text
  module _ {S : Type 0} (D : Elements E S) (one : HaveOneText IsElement D.same) where
    one_open_block : (at : ℕ) (x y : Option (Listing E)) (ending other_ending : Option (Ending W)) (text other : List ℕ) → AreAlikeAt D x y → ending ≡ other_ending
        → IsOpenAt word_text IsElement spec at x ending text → IsOpenAt word_text IsElement spec at y other_ending other → text ≡ other
    one_open_block at None None ending other_ending text other same ends h k = h ∙ sym k
    one_open_block at None (Some c) ending other_ending text other same ends h k = absurd same
    one_open_block at (Some b) None ending other_ending text other same ends h k = absurd same
    one_open_block at (Some b) (Some c) ending other_ending text other same ends h k =
        let block = one_block D IsElement spec one at (Some b) (Some c) h.block k.block same h.is_block k.is_block in
        h.lines ∙ ap (λ (xs : List ℕ). xs ++ ending_text word_text ending) block ∙ ap (λ (e : Option (Ending W)). k.block ++ ending_text word_text e) ends ∙ sym k.lines

    one_open_blocks : (t u : Listings E) (ends others : Endings W) (addresses text other : List ℕ) → AreAlike D t u → ((a : ℕ) → ends a ≡ others a)
        → AreOpenBlocks word_text IsElement spec t ends addresses text → AreOpenBlocks word_text IsElement spec u others addresses other → text ≡ other
    one_open_blocks t u ends others [] text other same ending none none = refl
    one_open_blocks t u ends others (at ∷ addresses) text other same ending (onto first rest h hs) (onto second more k ks) =
        let here = one_open_block at (t at) (u at) (ends at) (others at) first second (same at) (ending at) h k in
        let there = one_open_blocks t u ends others addresses rest more same ending hs ks in
        cc

    pub one_open_text : (image : Image) (base : List ℕ) (t u : Listings E) (ends others : Endings W) (text other : List ℕ) → AreAlike D t u → ((a : ℕ) → ends a ≡ others a)
        → IsOpenTableText word_text IsElement spec image base t ends text → IsOpenTableText word_text IsElement spec image base u others other → text ≡ other
    one_open_text image base t u ends others text other same ending h k =
        h.lines ∙ ap (λ (blocks : List ℕ). head base image ++ blocks) (one_open_blocks t u ends others (addresses image.segments) h.blocks k.blocks same ending h.are_blocks k.are_blocks) ∙ sym k.lines
