-- Blocks of addresses with their endings, one further.
use Rattle.std.proofs.Common.{◌≡◌, ℕ, Option, List, [], ◌∷◌, ◌++◌, refl, sym, ap, ◌∙◌, append_assoc, append-nil, subst}
use Rattle.spec_ir.specs.Specification.{Spec}
use Rattle.fixpoint_theory.specs.Table.{Listing, Listings}
use Rattle.code_image.specs.Image.{Image, addresses}
use Rattle.text_elements.specs.Parts.{Appended}
use Rattle.fixpoint_open_tables.specs.Endings.{Endings}
use Rattle.fixpoint_open_tables.specs.declared.ending.Ending.{Ending}
use Rattle.text_tables.specs.Blocks.{IsBlock}
use Rattle.text_tables.specs.Heads.{head}
use Rattle.text_tables.specs.Open.{AreOpenBlocks, IsOpenAt, IsOpenBlock, IsOpenTableText, ending_text, none, onto}

module _ {W E : Type 0} (word_text : ℕ → W → List ℕ) (IsElement : E → List ℕ → Type 0) (spec : Spec) (t : Listings E) (ends : Endings W) where
  -- Out of these addresses some are left: what is written of those makes, behind what was appended, what is written of all.
  abbrev pub Left : List ℕ → List ℕ → List ℕ → List ℕ → Type 0
  Left all left old out = (rest : List ℕ) → AreOpenBlocks word_text IsElement spec t ends left rest → Appended (AreOpenBlocks word_text IsElement spec t ends all) old (out ++ rest)

  pub all_left : (all old : List ℕ) → Left all all old old
  all_left all old rest blocks = record { text = rest; is = blocks; appended = refl }

  -- one address further
  pub one_less : (all left : List ℕ) (at : ℕ) (old out new : List ℕ) → Appended (IsOpenAt word_text IsElement spec at (t at) (ends at)) out new → Left all (at ∷ left) old out → Left all left old new
  one_less all left at old out new here before rest blocks =
      let found = before (here.text ++ rest) (onto here.text rest here.is blocks) in
      record { text = found.text; is = found.is; appended = ap (λ (xs : List ℕ). xs ++ rest) here.appended ∙ append_assoc out here.text rest ∙ found.appended }

  -- none is left
  pub none_left : (all old out : List ℕ) → Left all [] old out → Appended (AreOpenBlocks word_text IsElement spec t ends all) old out
  none_left all old out before =
      let found = before [] none in
      record { text = found.text; is = found.is; appended = sym (append-nil out) ∙ found.appended }

  -- a block, and behind it how it ends
  pub with_ending : (at : ℕ) (b : Listing E) (ending : Option (Ending W)) (old mid new : List ℕ) → Appended (IsBlock IsElement spec at b) old mid → new ≡ mid ++ ending_text word_text ending
      → Appended (IsOpenBlock word_text IsElement spec at b ending) old new
  with_ending at b ending old mid new here last = record {
    text = here.text ++ ending_text word_text ending;
    is = record { block = here.text; is_block = here.is; lines = refl };
    appended = last ∙ ap (λ (xs : List ℕ). xs ++ ending_text word_text ending) here.appended ∙ append_assoc old here.text (ending_text word_text ending);
  }

-- the head, and the blocks behind it
pub with_head : {W E : Type 0} (word_text : ℕ → W → List ℕ) (IsElement : E → List ℕ → Type 0) (spec : Spec) (image : Image) (base : List ℕ) (t : Listings E) (ends : Endings W) (ats old mid new : List ℕ)
    → ats ≡ addresses image.segments → mid ≡ old ++ head base image → Appended (AreOpenBlocks word_text IsElement spec t ends ats) mid new
    → Appended (IsOpenTableText word_text IsElement spec image base t ends) old new
with_head word_text IsElement spec image base t ends ats old mid new same first here = record {
  text = head base image ++ here.text;
  is = record { blocks = here.text; are_blocks = subst (λ (xs : List ℕ). AreOpenBlocks word_text IsElement spec t ends xs here.text) same here.is; lines = refl };
  appended = here.appended ∙ ap (λ (xs : List ℕ). xs ++ here.text) first ∙ append_assoc old (head base image) here.text;
}
