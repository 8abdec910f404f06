-- There is one slice, however elements are seen.
use Rattle.std.proofs.Common.{◌≡◌, Bool, true, false, Option, Some, None, IsTrue, refl, subst}
use Rattle.std.specs.Prelude.{option_map}
use Rattle.std.specs.Ordering.{nat_cmp}
use Rattle.std.specs.BTreeMap.{get}
use Rattle.base_trait.proofs.Lists.{ascending_same}
use Rattle.fixpoint_theory.specs.Views.{listing, listings}
use Rattle.fixpoint_theory.specs.declared.table.Block.{Block}
use Rattle.analysis_query_laws.specs.SliceLaws.{SlicesAreOfUses, SlicesAreOne}
use Rattle.analysis_query_laws.specs.Slices.{IsSliceFrom, asked_uses, listed_uses, uses_in}

same_told : (p q : Bool) → (IsTrue p → IsTrue q) → (IsTrue q → IsTrue p) → p ≡ q
same_told true true h k = refl
same_told false false h k = refl
same_told true false h k = let no = h refl in cc
same_told false true h k = let no = k refl in cc

pub slices_are_one : SlicesAreOne
slices_are_one uses from told other addresses others one two = (
  same_told told other (λ h. two.entry.1 (one.entry.0 h)) (λ h. one.entry.1 (two.entry.0 h)),
  ascending_same 0 0 addresses others one.ascending two.ascending (λ a h. (two.members a).1 ((one.members a).0 h)) (λ a h. (one.members a).1 ((two.members a).0 h)),
)

pub slices_are_of_uses : {E P : Type 0} (view : E → P) → SlicesAreOfUses view
slices_are_of_uses {E} {P} view t at m key told addresses h =
    let same : listed_uses (listings (λ e. e) t) ≡ listed_uses (listings view t) = λ i a. at_block (get nat_cmp t.blocks a) i in
    subst (λ uses. IsSliceFrom uses (asked_uses uses at m key) told addresses) same h
  where
    at_block : (o : Option (Block E)) → uses_in (option_map (listing (λ e. e)) o) ≡ uses_in (option_map (listing view) o)
    at_block None = refl
    at_block (Some b) = refl
