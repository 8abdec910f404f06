-- Texts of tables: there is one where each element has a text, and no other where elements that are the same have one.
use Rattle.std.proofs.Common.{◌≡◌, ◌∙◌, ℕ, List, [], ◌∷◌, ◌++◌, Option, None, Some, ap, refl, sym}
use Rattle.spec_ir.specs.Specification.{Spec}
use Rattle.code_image.specs.Image.{Image, addresses}
use Rattle.fixpoint_theory.specs.Analysis.{Analysis}
use Rattle.fixpoint_theory.specs.Elements.{Elements}
use Rattle.fixpoint_theory.specs.Table.{AreSameBlocks, AreSameTables, Listing, Listings}
use Rattle.text_tables.specs.Blocks.{at_line, end_lines}
use Rattle.text_tables.specs.Heads.{head}
use Rattle.text_tables.specs.Tables.{AreBlocks, IsAt, IsTableText, none, onto}
use Rattle.text_table_reader.specs.Readings.{AreAlike, AreAlikeAt}

-- Each element has a text.
abbrev pub EachHasText : {E : Type 0} → (E → List ℕ → Type 0) → Type 0
EachHasText {E} IsElement = (x : E) → (text : List ℕ) × IsElement x text

-- ---- a text
module _ {E : Type 0} (IsElement : E → List ℕ → Type 0) (spec : Spec) (has : EachHasText IsElement) where
  pub has_block : (at : ℕ) (x : Option (Listing E)) → (text : List ℕ) × IsAt IsElement spec at x text
  has_block at None = ([], refl)
  has_block at (Some b) =
      let element = has b.elem in
      (at_line at ++ (element.0 ++ end_lines spec b.uses b.next b.exits), record { element = element.0; is_element = element.1; lines = refl })

  has_blocks : (t : Listings E) (addresses : List ℕ) → (text : List ℕ) × AreBlocks IsElement spec t addresses text
  has_blocks t [] = ([], none)
  has_blocks t (at ∷ addresses) =
      let first = has_block at (t at) in
      let rest = has_blocks t addresses in
      (first.0 ++ rest.0, onto first.0 rest.0 first.1 rest.1)

  pub has_text : (image : Image) (base : List ℕ) (t : Listings E) → (text : List ℕ) × IsTableText IsElement spec image base t text
  has_text image base t =
      let found = has_blocks t (addresses image.segments) in
      (head base image ++ found.0, record { blocks = found.0; are_blocks = found.1; lines = refl })

-- ---- one text
-- Elements that are so have one text.
abbrev pub HaveOneText : {E : Type 0} → (E → List ℕ → Type 0) → (E → E → Type 0) → Type 0
HaveOneText {E} IsElement Same = (x y : E) (text other : List ℕ) → Same x y → IsElement x text → IsElement y other → text ≡ other

module _ {E S : Type 0} (D : Elements E S) (IsElement : E → List ℕ → Type 0) (spec : Spec) (one : HaveOneText IsElement D.same) where
  pub one_block : (at : ℕ) (x y : Option (Listing E)) (text other : List ℕ) → AreAlikeAt D x y → IsAt IsElement spec at x text → IsAt IsElement spec at y other → text ≡ other
  one_block at None None text other same h k = h ∙ sym k
  one_block at None (Some c) text other same h k = absurd same
  one_block at (Some b) None text other same h k = absurd same
  one_block at (Some b) (Some c) text other same h k =
      let element : h.element ≡ k.element = one b.elem c.elem h.element k.element same.elem h.is_element k.is_element in
      let uses = same.uses in
      let next = same.next in
      let exits = same.exits in
      let left = h.lines in
      let right = k.lines in
      cc

  one_blocks : (t u : Listings E) (addresses text other : List ℕ) → AreAlike D t u → AreBlocks IsElement spec t addresses text → AreBlocks IsElement spec u addresses other → text ≡ other
  one_blocks t u [] text other same none none = refl
  one_blocks t u (at ∷ addresses) text other same (onto first rest h hs) (onto second more k ks) =
      let here = one_block at (t at) (u at) first second (same at) h k in
      let there = one_blocks t u addresses rest more same hs ks in
      cc

  pub one_text : (image : Image) (base : List ℕ) (t u : Listings E) (text other : List ℕ) → AreAlike D t u
      → IsTableText IsElement spec image base t text → IsTableText IsElement spec image base u other → text ≡ other
  one_text image base t u text other same h k =
      h.lines ∙ ap (λ (blocks : List ℕ). head base image ++ blocks) (one_blocks t u (addresses image.segments) h.blocks k.blocks same h.are_blocks k.are_blocks) ∙ sym k.lines

-- ---- tables that are the same
-- Where elements of an analysis are the same just as those of a domain are.
module _ {E W S T : Type 0} (A : Analysis E W S) (D : Elements E T) where
  module _ (to : (x y : E) → A.elements.same x y → D.same x y) where
    alike_at : (x y : Option (Listing E)) → AreSameBlocks A x y → AreAlikeAt D x y
    alike_at None None same = tt
    alike_at None (Some c) same = absurd same
    alike_at (Some b) None same = absurd same
    alike_at (Some b) (Some c) same = record { elem = to b.elem c.elem same.elem; next = same.next; exits = same.exits; uses = same.uses }

    pub same_are_alike : (t u : Listings E) → AreSameTables A t u → AreAlike D t u
    same_are_alike t u same at = alike_at (t at) (u at) (same at)

  module _ (from : (x y : E) → D.same x y → A.elements.same x y) where
    same_at : (x y : Option (Listing E)) → AreAlikeAt D x y → AreSameBlocks A x y
    same_at None None alike = tt
    same_at None (Some c) alike = absurd alike
    same_at (Some b) None alike = absurd alike
    same_at (Some b) (Some c) alike = record { elem = from b.elem c.elem alike.elem; next = alike.next; exits = alike.exits; uses = alike.uses }

    pub alike_are_same : (t u : Listings E) → AreAlike D t u → AreSameTables A t u
    alike_are_same t u alike at = same_at (t at) (u at) (alike at)
