-- Tracked cells are cells of fields, and their numbers have 32 bits.
use Rattle.std.proofs.Common.{◌≡◌, ℕ, suc, ◌+◌, ◌<◌, ◌≤◌, Bool, true, false, IsTrue, List, [], ◌∷◌, ◌++◌, length, map, Some, refl, sym, ap, ◌∙◌, subst, cond, arith, inl, inr}
use Rattle.std.specs.Prelude.{◌-◌, ◌==◌, ◌&&◌, IsSomeAnd, nat_le, slice_get}
use Rattle.std.specs.List.{range_with_len}
use Rattle.std.proofs.lemmas.Bool.{leb-true}
use Rattle.base_trait.specs.Lists.{Each, IsAmong}
use Rattle.base_trait.proofs.Lists.{map_among, number_told, range_within}
use Rattle.base_trait.proofs.Tests.{and_parts, at_choice}
use Rattle.semantics_values.specs.declared.entry.KeyAt.{KeyAt}
use Rattle.semantics_values.specs.declared.entry.KeyAt.TheVariants.{Whole, At}
use Rattle.domain_laws.specs.declared.field.Field.{Field}
use Rattle.domain_laws.specs.Entries.{field_at}
use Rattle.domain_affine_element_laws.specs.Tracked.{map_cells, tracked_with, word_cells}
use Rattle.domain_affine_laws.specs.Tracked.{cells_in, field_cells}

-- the cell is one of a field that can be tracked
abbrev pub IsCellOf : List Field → ℕ × KeyAt → Type 0
IsCellOf fields cell = IsSomeAnd (field_at fields cell.0) (λ f. IsAmong cell.1 (field_cells f))

pub one_less : (i : ℕ) → i ≡ suc i - 1
one_less i = omega arith

pub both_each : {A : Type 0} (P : A → Type 0) (xs ys : List A) → Each P xs → Each P ys → Each P (xs ++ ys)
both_each P [] ys h g = g
both_each P (x ∷ xs) ys h g = (h.0, both_each P xs ys h.1 g)

module _ (all : List Field) where
  numbered : (n : ℕ) (f : Field) (keys : List KeyAt) → field_at all n ≡ Some f → ((key : KeyAt) → IsAmong key keys → IsAmong key (field_cells f))
      → Each (IsCellOf all) (map (λ key. (n, key)) keys)
  numbered n f [] e sub = tt
  numbered n f (key ∷ keys) e sub =
      (subst (λ o. IsSomeAnd o (λ g. IsAmong key (field_cells g))) (sym e) (sub key (inl refl)), numbered n f keys e (λ k a. sub k (inr a)))

  with_each : (cells : List (ℕ × KeyAt)) (n : ℕ) (fields : List Field) → ((j : ℕ) → slice_get fields j ≡ field_at all (n + j)) → Each (IsCellOf all) cells
      → Each (IsCellOf all) (tracked_with cells n (map field_cells fields))
  with_each cells n [] same h = h
  with_each cells n (f ∷ fields) same h =
      at_choice (Each (IsCellOf all)) (nat_le (length cells + length (field_cells f)) 64)
      (tracked_with (cells ++ map (λ key. (n, key)) (field_cells f)) (n + 1) (map field_cells fields)) (tracked_with cells (n + 1) (map field_cells fields))
      (λ e. with_each (cells ++ map (λ key. (n, key)) (field_cells f)) (n + 1) fields later
      (both_each (IsCellOf all) cells (map (λ key. (n, key)) (field_cells f)) h (numbered n f (field_cells f) here (λ k a. a))))
      (λ e. with_each cells (n + 1) fields later h)
    where
      place : (m : ℕ) → m ≡ m + 0
      place m = omega arith

      next : (m j : ℕ) → m + suc j ≡ m + 1 + j
      next m j = omega arith

      here : field_at all n ≡ Some f
      here = ap (field_at all) (place n) ∙ sym (same 0)

      later : (j : ℕ) → slice_get fields j ≡ field_at all (n + 1 + j)
      later j = same (suc j) ∙ ap (field_at all) (next n j)

  pub are_cells : Each (IsCellOf all) (cells_in all)
  are_cells = with_each [] 1 all (λ j. ap (field_at all) (start j)) tt
    where
      start : (j : ℕ) → suc j ≡ 1 + j
      start j = omega arith

-- ---- which cells can be tracked
pub word_cell : (w : ℕ) (key : KeyAt) → IsAmong key (word_cells w) → (key ≡ Whole) × (w ≡ 32)
word_cell w key h = sorted (w == 32) refl h
  where
    sorted : (b : Bool) → b ≡ (w == 32) → IsAmong key (cond b (Whole ∷ []) []) → (key ≡ Whole) × (w ≡ 32)
    sorted true e (inl d) = (d, number_told w 32 (sym e))
    sorted true e (inr d) = absurd d
    sorted false e h = absurd h

pub map_told : (keys w : ℕ) → IsTrue (w == 32 && nat_le keys 64) → (w ≡ 32) × (keys ≤ 64)
map_told keys w h = let parts = and_parts (w == 32) (nat_le keys 64) h in (number_told w 32 parts.0, leb-true keys 64 parts.1)

pub map_cell : (keys w : ℕ) (key : KeyAt) → IsAmong key (map_cells keys w) → (w ≡ 32) × ((k : ℕ) × (key ≡ At k) × (k < keys))
map_cell keys w key h = sorted (w == 32 && nat_le keys 64) refl h
  where
    sorted : (b : Bool) → b ≡ (w == 32 && nat_le keys 64) → IsAmong key (cond b (map (λ k. At k) (range_with_len 0 keys)) []) → (w ≡ 32) × ((k : ℕ) × (key ≡ At k) × (k < keys))
    sorted true e h =
        let found = map_among (λ k. At k) key (range_with_len 0 keys) h in
        let within = (range_within 0 keys found.0 found.1).1 in
        ((map_told keys w (sym e)).0, (found.0, found.2, omega (arith, within)))
    sorted false e h = absurd h
