-- Tables that are alike, and end alike, have one text, where elements that are the same have one.
use Rattle.std.proofs.Common.{◌≡◌, ◌∙◌, ℕ, List, [], ◌∷◌, ◌++◌, Option, None, Some, ap, refl, sym}
use Rattle.spec_ir.specs.Specification.{Spec}
use Rattle.code_image.specs.Image.{Image, addresses}
use Rattle.fixpoint_theory.specs.Elements.{Elements}
use Rattle.fixpoint_theory.specs.Table.{Listing, Listings}
use Rattle.fixpoint_open_tables.specs.Endings.{Endings}
use Rattle.fixpoint_open_tables.specs.declared.ending.Ending.{Ending}
use Rattle.text_tables.specs.Heads.{head}
use Rattle.text_tables.specs.Open.{AreOpenBlocks, IsOpenAt, IsOpenTableText, ending_text, none, onto}
use Rattle.text_table_reader.specs.Readings.{AreAlike, AreAlikeAt}
use Rattle.program_domains.proofs.Texts.{HaveOneText, one_block}

module _ {E W S : Type 0} (D : Elements E S) (word_text : ℕ → W → List ℕ) (IsElement : E → List ℕ → Type 0) (spec : Spec) (one : HaveOneText IsElement D.same) where
  one_open_block : (at : ℕ) (x y : Option (Listing E)) (e f : Option (Ending W)) (text other : List ℕ) → AreAlikeAt D x y → e ≡ f → IsOpenAt word_text IsElement spec at x e text
      → IsOpenAt word_text IsElement spec at y f other → text ≡ other
  one_open_block at None None e f text other same end h k = h ∙ sym k
  one_open_block at None (Some c) e f text other same end h k = absurd same
  one_open_block at (Some b) None e f text other same end h k = absurd same
  one_open_block at (Some b) (Some c) e f text other same end h k =
      let block : h.block ≡ k.block = one_block D IsElement spec one at (Some b) (Some c) h.block k.block same h.is_block k.is_block in
      h.lines ∙ ap (λ (xs : List ℕ). xs ++ ending_text word_text e) block ∙ ap (λ (o : Option (Ending W)). k.block ++ ending_text word_text o) end ∙ sym k.lines

  one_open_blocks : (t u : Listings E) (ends others : Endings W) (addresses text other : List ℕ) → AreAlike D t u → ((a : ℕ) → ends a ≡ others a)
      → AreOpenBlocks word_text IsElement spec t ends addresses text → AreOpenBlocks word_text IsElement spec u others addresses other → text ≡ other
  one_open_blocks t u ends others [] text other same end none none = refl
  one_open_blocks t u ends others (at ∷ addresses) text other same end (onto first rest h hs) (onto second more k ks) =
      let here = one_open_block at (t at) (u at) (ends at) (others at) first second (same at) (end at) h k in
      let there = one_open_blocks t u ends others addresses rest more same end hs ks in
      cc

  pub one_open_text : (image : Image) (base : List ℕ) (t u : Listings E) (ends others : Endings W) (text other : List ℕ) → AreAlike D t u → ((a : ℕ) → ends a ≡ others a)
      → IsOpenTableText word_text IsElement spec image base t ends text → IsOpenTableText word_text IsElement spec image base u others other → text ≡ other
  one_open_text image base t u ends others text other same end h k =
      h.lines ∙ ap (λ (blocks : List ℕ). head base image ++ blocks) (one_open_blocks t u ends others (addresses image.segments) h.blocks k.blocks same end h.are_blocks k.are_blocks) ∙ sym k.lines
