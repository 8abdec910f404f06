-- Tables that fit still do without a block, and with another block of the same element.
use Rattle.std.proofs.Common.{◌≡◌, ℕ, Bool, List, Option, None, Some, true, false, IsTrue, cond, nat_cmp, arith, refl, sym, subst, ap, ◌∙◌}
use Rattle.std.specs.Prelude.{option_map}
use Rattle.std.specs.BTreeMap.{BTreeMap, Updates, get, is_at}
use Rattle.std.proofs.lemmas.Bool.Decides.{nat_tests}
use Rattle.fixpoint_theory.specs.Analysis.{Analysis}
use Rattle.fixpoint_theory.specs.Code.{is_code}
use Rattle.fixpoint_theory.specs.Table.{Listing, TableFits}
use Rattle.fixpoint_theory.specs.Views.{listing, listings}
use Rattle.fixpoint_theory.specs.declared.table.Block.{Block}

key_told : (x y : ℕ) → is_at (nat_cmp x) y ≡ true → x ≡ y
key_told x y h = grind (arith, nat_tests)

module _ {E P W S : Type 0} (view : E → P) (A : Analysis P W S) where
  pub taken : (m n : BTreeMap ℕ (Block E)) (at : ℕ) → Updates nat_cmp m n at None → TableFits A (listings view (record { blocks = m }))
      → TableFits A (listings view (record { blocks = n }))
  taken m n at updates fit a b is = from (is_at (nat_cmp at) a) (updates.0 a)
    where
      from : (t : Bool) → get nat_cmp n a ≡ cond t None (get nat_cmp m a) → IsTrue (is_code A.code a) × A.elements.fits b.elem
      from true e =
          let none : option_map (listing view) None ≡ Some b = ap (option_map (listing view)) (sym e) ∙ is in
          cc
      from false e = fit a b (ap (option_map (listing view)) (sym e) ∙ is)

  pub replaced : (m n : BTreeMap ℕ (Block E)) (at : ℕ) (c : Block E) → Updates nat_cmp m n at (Some c) → TableFits A (listings view (record { blocks = m }))
      → IsTrue (is_code A.code at) × A.elements.fits (view c.elem) → TableFits A (listings view (record { blocks = n }))
  replaced m n at c updates fit here a b is = from (is_at (nat_cmp at) a) refl (updates.0 a)
    where
      from : (t : Bool) → is_at (nat_cmp at) a ≡ t → get nat_cmp n a ≡ cond t (Some c) (get nat_cmp m a) → IsTrue (is_code A.code a) × A.elements.fits b.elem
      from true same e =
          let key : at ≡ a = key_told at a same in
          let told : option_map (listing view) (Some c) ≡ Some b = ap (option_map (listing view)) (sym e) ∙ is in
          let elem : view c.elem ≡ b.elem = cc in
          (subst (λ a. IsTrue (is_code A.code a)) key here.0, subst A.elements.fits elem here.1)
      from false same e = fit a b (ap (option_map (listing view)) (sym e) ∙ is)

  pub listed : (m : BTreeMap ℕ (Block E)) (at : ℕ) (c : Block E) → get nat_cmp m at ≡ Some c → TableFits A (listings view (record { blocks = m }))
      → IsTrue (is_code A.code at) × A.elements.fits (view c.elem)
  listed m at c is fit = fit at (listing view c) (ap (option_map (listing view)) is)
