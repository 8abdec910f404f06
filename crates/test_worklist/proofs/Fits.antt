-- Tables that were read fit.
use Rattle.std.proofs.Common.{◌≡◌, ℕ, ◌≤◌, List, Option, None, Some, true, IsTrue, cond, nat_cmp, arith, refl, sym, subst, ◌∙◌}
use Rattle.std.specs.Prelude.{option_map}
use Rattle.std.specs.BTreeMap.{BTreeMap, Updates, get, is_at}
use Rattle.std.proofs.lemmas.Bool.Decides.{nat_tests}
use Rattle.fixpoint_theory.specs.Code.{is_code}
use Rattle.fixpoint_theory.specs.Table.{TableFits}
use Rattle.fixpoint_theory.specs.Views.{listing, listings}
use Rattle.fixpoint_theory.specs.declared.table.Block.{Block}
use Rattle.fixpoint_theory.specs.declared.table.Table.{Table}
use Rattle.fixpoint_theory.proofs.Growth.{by_bool}
use Rattle.test_worklist.specs.declared.machine.Interval.{Interval}
use Rattle.test_worklist.specs.declared.machine.Word.{Word}
use Rattle.test_worklist.specs.Machine.{addresses, analysis_of}
use Rattle.test_worklist.specs.Reading.{BlocksFit}

pub fits_from : (code : List Word) (start : ℕ) (entry : Interval) (t : Table Interval) → BlocksFit code t.blocks → TableFits (analysis_of code start entry) (listings (λ x. x) t)
fits_from code start entry t fit at b is = from (get nat_cmp t.blocks at) refl is
  where
    from : (y : Option (Block Interval)) → get nat_cmp t.blocks at ≡ y → option_map (listing (λ (x : Interval). x)) y ≡ Some b → IsTrue (is_code (addresses code) at) × (b.elem.high ≤ 99)
    from None found same = cc
    from (Some c) found same =
        let here = fit at c found in
        let elem : c.elem ≡ b.elem = cc in
        (here.0, subst (λ (x : Interval). x.high ≤ 99) elem here.1)

-- one more block
pub inserted : (code : List Word) (m n : BTreeMap ℕ (Block Interval)) (at : ℕ) (b : Block Interval) → Updates nat_cmp m n at (Some b) → BlocksFit code m
    → IsTrue (is_code (addresses code) at) → b.elem.high ≤ 99 → BlocksFit code n
inserted code m n at b updates fit here high a c is =
    by_bool (is_at (nat_cmp at) a)
    (λ t. is_at (nat_cmp at) a ≡ t → cond t (Some b) (get nat_cmp m a) ≡ Some c → IsTrue (is_code (addresses code) a) × (c.elem.high ≤ 99))
    (λ e same found. at_key same found)
    (λ e other found. fit a c found)
    refl (sym (updates.0 a) ∙ is)
  where
    key_told : (x y : ℕ) → is_at (nat_cmp x) y ≡ true → x ≡ y
    key_told x y h = grind (arith, nat_tests)

    at_key : is_at (nat_cmp at) a ≡ true → Some b ≡ Some c → IsTrue (is_code (addresses code) a) × (c.elem.high ≤ 99)
    at_key same found =
        let key : at ≡ a = key_told at a same in
        let block : b ≡ c = cc in
        (subst (λ a. IsTrue (is_code (addresses code) a)) key here, subst (λ (b : Block Interval). b.elem.high ≤ 99) block high)
