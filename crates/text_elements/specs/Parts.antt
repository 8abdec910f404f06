-- The texts of the elements of each domain.
use Rattle.std.specs.Prelude.{◌≡◌, ℕ, List, ◌++◌, codes}
use Rattle.support_modular_rows.specs.Submodule.{Submodule}
use Rattle.spec_ir.specs.Specification.{Spec}
use Rattle.abstract_value_laws.specs.Abs.{Parts}
use Rattle.state_cell_text.specs.Places.{state_fields}
use Rattle.text_words.specs.Texts.{Texts}
use Rattle.text_elements.specs.Cells.{cell_lines}
use Rattle.text_elements.specs.Rows.{AreRowsOf}

-- Which bytes are a text of an element of a specification's states.
abbrev pub ElementText : Type 0 → Type 1
ElementText E = Spec → E → List ℕ → Type 0

-- the name of the base of a part
abbrev pub part_line : List ℕ → List ℕ
part_line name = codes "part " ++ (name ++ codes "\n")

-- cells
abbrev pub named_cells : {W N : Type 0} → List ℕ → Texts W N → Spec → Parts W N → List ℕ
named_cells name texts spec x = part_line name ++ cell_lines texts spec (state_fields spec) x

abbrev pub CellsText : {W N : Type 0} → List ℕ → Texts W N → ElementText (Parts W N)
CellsText name texts spec x text = text ≡ named_cells name texts spec x

-- affine relations
pub record AffineText (spec : Spec) (x : Submodule) (text : List ℕ) : Type 0 where
  pub lines : List ℕ
  pub rows : AreRowsOf x lines
  pub part : text ≡ part_line (codes "affine") ++ lines

-- the parts of both
pub record PairText {A B : Type 0} (First : ElementText A) (Second : ElementText B) (spec : Spec) (x : A × B) (text : List ℕ) : Type 0 where
  pub left : List ℕ
  pub right : List ℕ
  pub first : First spec x.0 left
  pub second : Second spec x.1 right
  pub both : text ≡ left ++ right

-- Bytes of this kind were appended.
pub record Appended (Is : List ℕ → Type 0) (old new : List ℕ) : Type 0 where
  pub text : List ℕ
  pub is : Is text
  pub appended : new ≡ old ++ text
