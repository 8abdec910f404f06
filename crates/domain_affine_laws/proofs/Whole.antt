-- Which word a tracked cell has, and which keys a map lists.
use Rattle.std.proofs.Common.{◌≡◌, ℕ, zero, suc, ◌+◌, Bool, true, false, IsTrue, List, [], ◌∷◌, length, map as map_of, Option, Some, None, refl, sym, ap, subst, cond, arith, ◌⊎◌, inl, inr}
use Rattle.std.specs.Prelude.{◌==◌, ◌&&◌, IsSomeAnd, nat_le, slice_get}
use Rattle.std.specs.List.{range_with_len}
use Rattle.abstract_map_laws.specs.declared.cell.AbstractCell.{AbstractCell}
use Rattle.base_trait.specs.Lists.{Each, IsAmong}
use Rattle.base_trait.proofs.Lists.{among_map, each_at, each_from, number_itself}
use Rattle.base_trait.proofs.Tests.{and_both, at_choice}
use Rattle.semantics_values.specs.declared.entry.KeyAt.{KeyAt}
use Rattle.semantics_values.specs.declared.entry.KeyAt.TheVariants.{Whole, Rest, At}
use Rattle.semantics.specs.Entries.{is_key}
use Rattle.domain_laws.specs.declared.field.Field.{Field}
use Rattle.domain_laws.specs.declared.field.Field.TheVariants as field
use Rattle.domain_affine_base.specs.declared.word.Word.{Word}
use Rattle.domain_affine_element_laws.specs.Tracked.{map_cells}
use Rattle.domain_affine_laws.specs.Laws.{CellsHaveTheirWords, OpensWholeMaps, OthersHaveNone}
use Rattle.domain_affine_laws.specs.Opened.{is_cell, listed_cell, opened_cells, tracked_word}
use Rattle.domain_affine_laws.specs.Tracked.{cells_in, field_cells}
use Rattle.domain_affine_laws.proofs.Places.{AreApart, all_or_none, cells_apart}
use Rattle.domain_affine_laws.proofs.Tracked.{IsCellOf, are_cells}
use Rattle.domain_affine_laws.proofs.Words.{cell_told}

key_itself : (key : KeyAt) → IsTrue (is_key key key)
key_itself Whole = refl
key_itself Rest = refl
key_itself (At k) = number_itself k

cell_itself : (n : ℕ) (key : KeyAt) → IsTrue (is_cell (n, key) n key)
cell_itself n key = and_both (n == n) (is_key key key) (number_itself n) (key_itself key)

at_index : {A : Type 0} (xs : List A) (i : ℕ) (x : A) → slice_get xs i ≡ Some x → IsAmong x xs
at_index [] zero x e = cc
at_index [] (suc i) x e = cc
at_index (y ∷ xs) zero x e = let same : x ≡ y = cc in inl same
at_index (y ∷ xs) (suc i) x e = inr (at_index xs i x e)

their_words : (cells : List (ℕ × KeyAt)) (words : List Word) → AreApart cells → (i : ℕ) (c : ℕ × KeyAt) → slice_get cells i ≡ Some c → tracked_word cells words c.0 c.1 ≡ slice_get words i
their_words [] words h zero c e = cc
their_words [] words h (suc i) c e = cc
their_words (d ∷ cells) [] h zero c e = refl
their_words (d ∷ cells) [] h (suc i) c e = refl
their_words (d ∷ cells) (x ∷ words) h zero c e =
    at_choice (λ o. o ≡ Some x) (is_cell d c.0 c.1) (Some x) (tracked_word cells words c.0 c.1)
    (λ t. refl) (λ f. let same : c ≡ d = cc in let true_there = subst (λ b. IsTrue (is_cell b c.0 c.1)) same (cell_itself c.0 c.1) in cc)
their_words (d ∷ cells) (x ∷ words) h (suc i) c e =
    at_choice (λ o. o ≡ slice_get words i) (is_cell d c.0 c.1) (Some x) (tracked_word cells words c.0 c.1)
    (λ t. absurd (h.0 (subst (λ b. IsAmong b cells) (sym (cell_told d c.0 c.1 t)) (at_index cells i c e)))) (λ f. their_words cells words h.1 i c e)

pub cells_have_their_words : CellsHaveTheirWords
cells_have_their_words fields words i c e = their_words (cells_in fields) words (cells_apart fields) i c e

none_there : (n : ℕ) (key : KeyAt) (cells : List (ℕ × KeyAt)) (words : List Word) → (IsAmong (n, key) cells → ⊥) → tracked_word cells words n key ≡ None
none_there n key [] words h = refl
none_there n key (d ∷ cells) [] h = refl
none_there n key (d ∷ cells) (x ∷ words) h =
    at_choice (λ o. o ≡ None) (is_cell d n key) (Some x) (tracked_word cells words n key)
    (λ t. absurd (h (inl (sym (cell_told d n key t))))) (λ f. none_there n key cells words (λ m. h (inr m)))

pub others_have_none : OthersHaveNone
others_have_none fields words n key h = none_there n key (cells_in fields) words h

abbrev IsFound : Option Word → Type 0
IsFound None = ⊥
IsFound (Some x) = Unit {0}

some_there : (n : ℕ) (key : KeyAt) (cells : List (ℕ × KeyAt)) (words : List Word) → length words ≡ length cells → IsAmong (n, key) cells → IsFound (tracked_word cells words n key)
some_there n key [] words e m = absurd m
some_there n key (d ∷ cells) [] e m = absurd (omega (arith, e))
some_there n key (d ∷ cells) (x ∷ words) e m =
    at_choice IsFound (is_cell d n key) (Some x) (tracked_word cells words n key) (λ t. tt) (λ f. later f (λ a. some_there n key cells words (omega (arith, e)) a) m)
  where
    later : is_cell d n key ≡ false → (IsAmong (n, key) cells → IsFound (tracked_word cells words n key)) → IsAmong (n, key) (d ∷ cells) → IsFound (tracked_word cells words n key)
    later f g (inl same) = let true_there = subst (λ b. IsTrue (is_cell b n key)) same (cell_itself n key) in cc
    later f g (inr a) = g a

-- ---- the keys that a map lists
module _ (cells : List (ℕ × KeyAt)) (words : List Word) (n : ℕ) where
  one_listed : (k : ℕ) (o : Option Word) (es : List (ℕ × AbstractCell Word (Unit {0}))) (ks : List ℕ) → IsFound o → map_of (λ e. e.0) es ≡ ks → map_of (λ e. e.0) (listed_cell (At k) o es) ≡ k ∷ ks
  one_listed k None es ks h e = absurd h
  one_listed k (Some x) es ks h e = ap (λ l. k ∷ l) e

  all_listed : (low count : ℕ) → Each (λ k. IsFound (tracked_word cells words n (At k))) (range_with_len low count)
      → map_of (λ e. e.0) (opened_cells cells words n (map_of (λ k. At k) (range_with_len low count))) ≡ range_with_len low count
  all_listed low zero h = refl
  all_listed low (suc count) h =
      one_listed low (tracked_word cells words n (At low)) (opened_cells cells words n (map_of (λ k. At k) (range_with_len (low + 1) count))) (range_with_len (low + 1) count) h.0
      (all_listed (low + 1) count h.1)

  none_more : (k : ℕ) (o : Option Word) (es : List (ℕ × AbstractCell Word (Unit {0}))) → o ≡ None → es ≡ [] → listed_cell (At k) o es ≡ []
  none_more k None es h e = e
  none_more k (Some x) es h e = cc

  none_listed : (low count : ℕ) → ((k : ℕ) → tracked_word cells words n (At k) ≡ None) → opened_cells cells words n (map_of (λ k. At k) (range_with_len low count)) ≡ []
  none_listed low zero h = refl
  none_listed low (suc count) h =
      none_more low (tracked_word cells words n (At low)) (opened_cells cells words n (map_of (λ k. At k) (range_with_len (low + 1) count))) (h low) (none_listed (low + 1) count h)

module _ (fields : List Field) (words : List Word) (size : length words ≡ length (cells_in fields)) (i m keys width default : ℕ) (there : slice_get fields i ≡ Some (field.Map m keys width default)) where
  abbrev Choice : List KeyAt → Type 0
  Choice ks =
      (Each (λ k. IsAmong {A = ℕ × KeyAt} (suc i, At k) (cells_in fields)) (range_with_len 0 keys) × (map_of (λ e. e.0) (opened_cells (cells_in fields) words (suc i) ks) ≡ range_with_len 0 keys))
      ⊎ (((k : ℕ) → IsAmong {A = ℕ × KeyAt} (suc i, At k) (cells_in fields) → ⊥) × (opened_cells (cells_in fields) words (suc i) ks ≡ []))

  -- a cell of the field is one that can be tracked
  is_one : (key : KeyAt) → IsAmong (suc i, key) (cells_in fields) → IsAmong key (map_cells keys width)
  is_one key a = subst (λ o. IsSomeAnd o (λ f. IsAmong key (field_cells f))) there (each_at (IsCellOf fields) (cells_in fields) (suc i, key) (are_cells fields) a)

  sorted : Each (λ key. IsAmong (suc i, key) (cells_in fields)) (map_of (λ k. At k) (range_with_len 0 keys)) ⊎ ((key : KeyAt) → IsAmong (suc i, key) (cells_in fields) → ⊥)
      → Choice (map_of (λ k. At k) (range_with_len 0 keys))
  sorted (inl all) =
      let each = each_from (λ k. IsAmong (suc i, At k) (cells_in fields)) (range_with_len 0 keys)
      (λ k a. each_at (λ key. IsAmong (suc i, key) (cells_in fields)) (map_of (λ k. At k) (range_with_len 0 keys)) (At k) all (among_map (λ k. At k) k (range_with_len 0 keys) a)) in
      inl (
        each,
        all_listed (cells_in fields) words (suc i) 0 keys
            (each_from (λ k. IsFound (tracked_word (cells_in fields) words (suc i) (At k))) (range_with_len 0 keys)
            (λ k a. some_there (suc i) (At k) (cells_in fields) words size (each_at (λ k. IsAmong (suc i, At k) (cells_in fields)) (range_with_len 0 keys) k each a))),
      )
  sorted (inr none) =
      inr (λ k. none (At k), none_listed (cells_in fields) words (suc i) 0 keys (λ k. none_there (suc i) (At k) (cells_in fields) words (none (At k))))

  by_test : (b : Bool) → ((key : KeyAt) → IsAmong (suc i, key) (cells_in fields) → IsAmong key (cond b (map_of (λ k. At k) (range_with_len 0 keys)) []))
      → Each (λ key. IsAmong (suc i, key) (cells_in fields)) (cond b (map_of (λ k. At k) (range_with_len 0 keys)) []) ⊎ ((key : KeyAt) → IsAmong (suc i, key) (cells_in fields) → ⊥)
      → Choice (cond b (map_of (λ k. At k) (range_with_len 0 keys)) [])
  by_test true one h = sorted h
  by_test false one h = inr (λ k a. one (At k) a, refl)

  whole_or_free : Choice (map_cells keys width)
  whole_or_free = by_test (width == 32 && nat_le keys 64) is_one (all_or_none fields i (field.Map m keys width default) there)

pub opens_whole_maps : OpensWholeMaps
opens_whole_maps fields words zero m keys width default size there = cc
opens_whole_maps fields words (suc i) m keys width default size there = whole_or_free fields words size i m keys width default there
