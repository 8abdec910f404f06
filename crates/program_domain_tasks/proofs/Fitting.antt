-- What is read fits, as it is seen.
use Rattle.std.proofs.Common.{◌≡◌, ℕ, Bool, Option, Some, None, option_map, IsTrue, refl, subst}
use Rattle.std.specs.Ordering.{nat_cmp}
use Rattle.std.specs.BTreeMap.{get}
use Rattle.fixpoint_theory.specs.Table.{Listing}
use Rattle.fixpoint_theory.specs.Views.{listing, listings}
use Rattle.fixpoint_theory.specs.declared.table.Block.{Block}
use Rattle.fixpoint_theory.specs.declared.table.Table.{Table}
use Rattle.text_table_reader.specs.Blocks.{BlocksFit}

module _ {X E : Type 0} (view : X → E) (is_word : ℕ → Bool) (Fits : E → Type 0) where
  block_fits : (o : Option (Block X)) (at : ℕ) (b : Listing E) → ((c : Listing X) → option_map (listing (λ x. x)) o ≡ Some c → IsTrue (is_word at) × Fits (view c.elem))
      → option_map (listing view) o ≡ Some b → IsTrue (is_word at) × Fits b.elem
  block_fits None at b fits is = absurd cc
  block_fits (Some c) at b fits is =
      let same : listing view c ≡ b = cc in
      let here = fits (listing (λ x. x) c) refl in
      (here.0, subst (λ (l : Listing E). Fits l.elem) same here.1)

  -- blocks that fit, as their elements are seen
  pub fits_seen : (t : Table X) → BlocksFit is_word (λ x. Fits (view x)) (listings (λ x. x) t) → (at : ℕ) (b : Listing E) → listings view t at ≡ Some b → IsTrue (is_word at) × Fits b.elem
  fits_seen t fits at b is = block_fits (get nat_cmp t.blocks at) at b (fits at) is
