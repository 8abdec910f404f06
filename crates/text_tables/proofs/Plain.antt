-- Texts of tables of which no block is left open.
use Rattle.std.proofs.Common.{◌≡◌, ◌∙◌, ℕ, List, ◌++◌, Option, Some, None, sym, ap, subst, append-nil}
use Rattle.spec_ir.specs.Specification.{Spec}
use Rattle.fixpoint_theory.specs.Table.{Listing, Listings}
use Rattle.fixpoint_open_tables.specs.Endings.{Endings, IsNowhereOpen}
use Rattle.fixpoint_open_tables.specs.declared.ending.Ending.{Ending}
use Rattle.text_tables.specs.Blocks.{IsBlock}
use Rattle.text_tables.specs.Laws.{ClosedTextsArePlain}
use Rattle.text_tables.specs.Open as opened
use Rattle.text_tables.specs.Open.{AreOpenBlocks, IsOpenAt, ending_text}
use Rattle.text_tables.specs.Tables as closed
use Rattle.text_tables.specs.Tables.{AreBlocks, IsAt}

module _ {E W : Type 0} (word_text : ℕ → W → List ℕ) (IsElement : E → List ℕ → Type 0) (spec : Spec) where
  -- nothing is written of no ending
  no_text : (block : List ℕ) (ending : Option (Ending W)) → ending ≡ None → block ++ ending_text word_text ending ≡ block
  no_text block ending none = ap (λ e. block ++ ending_text word_text e) none ∙ append-nil block

  plain_at : (at : ℕ) (b : Option (Listing E)) (ending : Option (Ending W)) (text : List ℕ) → ending ≡ None → IsOpenAt word_text IsElement spec at b ending text → IsAt IsElement spec at b text
  plain_at at None ending text none h = h
  plain_at at (Some b) ending text none h = subst (IsBlock IsElement spec at b) (sym (h.lines ∙ no_text h.block ending none)) h.is_block

  open_at : (at : ℕ) (b : Option (Listing E)) (ending : Option (Ending W)) (text : List ℕ) → ending ≡ None → IsAt IsElement spec at b text → IsOpenAt word_text IsElement spec at b ending text
  open_at at None ending text none h = h
  open_at at (Some b) ending text none h = record { block = text; is_block = h; lines = sym (no_text text ending none) }

  module _ (t : Listings E) (ends : Endings W) (nowhere : IsNowhereOpen ends) where
    pub plain_blocks : (addresses text : List ℕ) → AreOpenBlocks word_text IsElement spec t ends addresses text → AreBlocks IsElement spec t addresses text
    plain_blocks addresses text opened.none = closed.none
    plain_blocks addresses text (opened.onto {at = a} {addresses = others} first rest is more) = closed.onto first rest (plain_at a (t a) (ends a) first (nowhere a) is) (plain_blocks others rest more)

    pub open_blocks : (addresses text : List ℕ) → AreBlocks IsElement spec t addresses text → AreOpenBlocks word_text IsElement spec t ends addresses text
    open_blocks addresses text closed.none = opened.none
    open_blocks addresses text (closed.onto {at = a} {addresses = others} first rest is more) = opened.onto first rest (open_at a (t a) (ends a) first (nowhere a) is) (open_blocks others rest more)

pub closed_texts_are_plain : {E W : Type 0} (word_text : ℕ → W → List ℕ) (IsElement : E → List ℕ → Type 0) → ClosedTextsArePlain word_text IsElement
closed_texts_are_plain word_text IsElement spec image base t ends text nowhere = (
  (λ h. record { blocks = h.blocks; are_blocks = plain_blocks word_text IsElement spec t ends nowhere _ h.blocks h.are_blocks; lines = h.lines }),
  (λ h. record { blocks = h.blocks; are_blocks = open_blocks word_text IsElement spec t ends nowhere _ h.blocks h.are_blocks; lines = h.lines }),
)
