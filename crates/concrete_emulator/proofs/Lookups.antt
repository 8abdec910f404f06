-- Instructions that are looked up by their addresses, and kept.
use Rattle.std.proofs.Common.{◌≡◌, ℕ, Bool, true, false, cond, Some, List, [], ◌∷◌, map, refl, sym, subst, nat_eq}
use Rattle.std.specs.Prelude.{if◌then◌else◌}
use Rattle.std.specs.Map.{lookup}
use Rattle.indexmap.specs.IndexMap.{insert_entry}
use Rattle.base_trait.proofs.Lists.{number_told}
use Rattle.base_trait.specs.declared.uses.Stamp.{Stamp}
use Rattle.base_concrete.specs.declared.Concrete.{Concrete}
use Rattle.abstract_value.specs.View.{abs}
use Rattle.abstract_value.specs.declared.value.AbstractValue.{AbstractValue}
use Rattle.concrete_emulator.specs.Instructions.{AreInstructions, IsInstructionAt}
use Rattle.concrete_emulator.specs.declared.emulator.Emulator.{Emulator}

abbrev CodeValue : Type 0
CodeValue = AbstractValue Concrete ℕ Stamp (Unit {0})

module _ (it : Emulator) where
  -- entries whose values are the instructions at their addresses
  abbrev pub Are : List (ℕ × CodeValue) → Type 0
  Are es = AreInstructions it (map (λ e. (e.0, abs e.1)) es)

  -- what is found for an address is the instruction there
  pub found_is : (at : ℕ) (x : CodeValue) (es : List (ℕ × CodeValue)) → Are es → lookup (nat_eq at) es ≡ Some x → IsInstructionAt it at (abs x)
  found_is at x [] are h = absurd cc
  found_is at x (e ∷ es) are h = by (nat_eq at e.0) refl (found_is at x es are.1) h
    where
      by : (b : Bool) → nat_eq at e.0 ≡ b → (lookup (nat_eq at) es ≡ Some x → IsInstructionAt it at (abs x)) → cond b (Some e.1) (lookup (nat_eq at) es) ≡ Some x → IsInstructionAt it at (abs x)
      by true p later k =
          let is : e.1 ≡ x = cc in
          subst (λ a. IsInstructionAt it a (abs x)) (sym (number_told at e.0 p)) (subst (λ y. IsInstructionAt it e.0 (abs y)) is are.0)
      by false p later k = later k

  -- an instruction that is kept for its address
  pub kept_are : (at : ℕ) (x : CodeValue) (es : List (ℕ × CodeValue)) → Are es → IsInstructionAt it at (abs x) → Are (insert_entry nat_eq es at x)
  kept_are at x [] are is = (is, tt)
  kept_are at x (e ∷ es) are is = by (nat_eq at e.0) refl (kept_are at x es are.1 is)
    where
      by : (b : Bool) → nat_eq at e.0 ≡ b → Are (insert_entry nat_eq es at x) → Are (if b then (e.0, x) ∷ es else e ∷ insert_entry nat_eq es at x)
      by true p later = (subst (λ a. IsInstructionAt it a (abs x)) (number_told at e.0 p) is, are.1)
      by false p later = (are.0, later)
