-- What holds of the texts of tables.
use Rattle.std.specs.Prelude.{◌↔◌, ℕ, List}
use Rattle.spec_ir.specs.Specification.{Spec}
use Rattle.fixpoint_theory.specs.Table.{Listings}
use Rattle.code_image.specs.Image.{Image}
use Rattle.fixpoint_open_tables.specs.Endings.{Endings, IsNowhereOpen}
use Rattle.text_tables.specs.Open.{IsOpenTableText}
use Rattle.text_tables.specs.Tables.{IsTableText}

-- Where no block is left open, the text of a table that may be is that of the table.
abbrev pub ClosedTextsArePlain : {E W : Type 0} → (ℕ → W → List ℕ) → (E → List ℕ → Type 0) → Type 0
ClosedTextsArePlain {E} {W} word_text IsElement =
    (spec : Spec) (image : Image) (base : List ℕ) (t : Listings E) (ends : Endings W) (text : List ℕ) → IsNowhereOpen ends
    → IsOpenTableText word_text IsElement spec image base t ends text ↔ IsTableText IsElement spec image base t text
