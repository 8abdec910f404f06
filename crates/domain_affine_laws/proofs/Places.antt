-- Tracked cells are apart, and those of a field are all tracked or none.
use Rattle.std.proofs.Common.{◌≡◌, ℕ, zero, suc, ◌+◌, ◌<◌, ◌≤◌, List, [], ◌∷◌, ◌++◌, length, map, Some, refl, ap, subst, arith, ◌⊎◌, inl, inr}
use Rattle.std.specs.Prelude.{◌==◌, ◌&&◌, nat_le, slice_get}
use Rattle.std.specs.List.{range_with_len}
use Rattle.base_trait.specs.Lists.{Each, IsAmong}
use Rattle.base_trait.proofs.Lists.{among_either, among_left, among_map, among_right, each_at, each_from, map_among, range_within}
use Rattle.base_trait.proofs.Tests.{at_choice}
use Rattle.semantics_values.specs.declared.entry.KeyAt.{KeyAt}
use Rattle.semantics_values.specs.declared.entry.KeyAt.TheVariants.{Whole, At}
use Rattle.domain_laws.specs.declared.field.Field.{Field}
use Rattle.domain_laws.specs.declared.field.Field.TheVariants.{Word, Map}
use Rattle.domain_affine_element_laws.specs.Tracked.{tracked_with}
use Rattle.domain_affine_laws.specs.Tracked.{cells_in, field_cells}
use Rattle.domain_affine_laws.proofs.Tracked.{both_each}

-- no item stands twice
abbrev pub AreApart : {A : Type 0} → List A → Type 0
AreApart [] = Unit {0}
AreApart (x ∷ xs) = (IsAmong x xs → ⊥) × AreApart xs

apart_both : {A : Type 0} (xs ys : List A) → AreApart xs → AreApart ys → ((x : A) → IsAmong x xs → IsAmong x ys → ⊥) → AreApart (xs ++ ys)
apart_both [] ys h g d = g
apart_both (x ∷ xs) ys h g d = ((λ m. either (among_either x xs ys m)), apart_both xs ys h.1 g (λ z a b. d z (inr a) b))
  where
    either : IsAmong x xs ⊎ IsAmong x ys → ⊥
    either (inl a) = h.0 a
    either (inr b) = d x (inl refl) b

-- ---- the cells of one field
abbrev key_of : ℕ × KeyAt → KeyAt
key_of c = c.1

abbrev number_in : ℕ × KeyAt → ℕ
number_in c = c.0

abbrev numbered : ℕ → List KeyAt → List (ℕ × KeyAt)
numbered n keys = map (λ key. (n, key)) keys

key_among : (n : ℕ) (key : KeyAt) (keys : List KeyAt) → IsAmong (n, key) (numbered n keys) → IsAmong key keys
key_among n key [] m = absurd m
key_among n key (k ∷ keys) (inl e) = inl (ap key_of e)
key_among n key (k ∷ keys) (inr m) = inr (key_among n key keys m)

number_among : (n : ℕ) (c : ℕ × KeyAt) (keys : List KeyAt) → IsAmong c (numbered n keys) → c.0 ≡ n
number_among n c [] m = absurd m
number_among n c (k ∷ keys) (inl e) = ap number_in e
number_among n c (k ∷ keys) (inr m) = number_among n c keys m

numbered_apart : (n : ℕ) (keys : List KeyAt) → AreApart keys → AreApart (numbered n keys)
numbered_apart n [] h = tt
numbered_apart n (key ∷ keys) h = ((λ m. h.0 (key_among n key keys m)), numbered_apart n keys h.1)

abbrev key_number : KeyAt → ℕ
key_number (At k) = k
key_number _ = 0

range_apart : (low count : ℕ) → AreApart (map (λ k. At k) (range_with_len low count))
range_apart low zero = tt
range_apart low (suc count) = (later, range_apart (low + 1) count)
  where
    later : IsAmong (At low) (map (λ k. At k) (range_with_len (low + 1) count)) → ⊥
    later m =
        let found = map_among (λ k. At k) (At low) (range_with_len (low + 1) count) m in
        let within = (range_within (low + 1) count found.0 found.1).0 in
        let same : low ≡ found.0 = ap key_number found.2 in
        absurd (omega (arith, within, same))

field_apart : (f : Field) → AreApart (field_cells f)
field_apart (Word w) = at_choice AreApart (w == 32) (Whole ∷ []) [] (λ e. ((λ m. m), tt)) (λ e. tt)
field_apart (Map m keys width default) = at_choice AreApart (width == 32 && nat_le keys 64) (map (λ k. At k) (range_with_len 0 keys)) [] (λ e. range_apart 0 keys) (λ e. tt)

-- ---- of all fields
abbrev AreBelow : ℕ → List (ℕ × KeyAt) → Type 0
AreBelow n cells = Each (λ c. c.0 < n) cells

raised : (n : ℕ) (cells : List (ℕ × KeyAt)) → AreBelow n cells → AreBelow (n + 1) cells
raised n [] h = tt
raised n (c ∷ cells) h = (let less = h.0 in omega (arith, less), raised n cells h.1)

numbered_below : (n : ℕ) (keys : List KeyAt) → AreBelow (n + 1) (numbered n keys)
numbered_below n [] = tt
numbered_below n (k ∷ keys) = (omega arith, numbered_below n keys)

more_below : (n : ℕ) (cells : List (ℕ × KeyAt)) (keys : List KeyAt) → AreBelow n cells → AreBelow (n + 1) (cells ++ numbered n keys)
more_below n cells keys h = both_each (λ c. c.0 < n + 1) cells (numbered n keys) (raised n cells h) (numbered_below n keys)

with_apart : (cells : List (ℕ × KeyAt)) (n : ℕ) (fields : List Field) → AreApart cells → AreBelow n cells → AreApart (tracked_with cells n (map field_cells fields))
with_apart cells n [] h b = h
with_apart cells n (f ∷ fields) h b =
    at_choice AreApart (nat_le (length cells + length (field_cells f)) 64)
    (tracked_with (cells ++ numbered n (field_cells f)) (n + 1) (map field_cells fields)) (tracked_with cells (n + 1) (map field_cells fields))
    (λ e. with_apart (cells ++ numbered n (field_cells f)) (n + 1) fields
    (apart_both cells (numbered n (field_cells f)) h (numbered_apart n (field_cells f) (field_apart f)) other) (more_below n cells (field_cells f) b))
    (λ e. with_apart cells (n + 1) fields h (raised n cells b))
  where
    other : (x : ℕ × KeyAt) → IsAmong x cells → IsAmong x (numbered n (field_cells f)) → ⊥
    other x a m = let less = each_at (λ c. c.0 < n) cells x b a in let same = number_among n x (field_cells f) m in absurd (omega (arith, less, same))

pub cells_apart : (fields : List Field) → AreApart (cells_in fields)
cells_apart fields = with_apart [] 1 fields tt tt

with_kept : (cells : List (ℕ × KeyAt)) (n : ℕ) (fields : List Field) (c : ℕ × KeyAt) → IsAmong c cells → IsAmong c (tracked_with cells n (map field_cells fields))
with_kept cells n [] c a = a
with_kept cells n (f ∷ fields) c a =
    at_choice (IsAmong c) (nat_le (length cells + length (field_cells f)) 64)
    (tracked_with (cells ++ numbered n (field_cells f)) (n + 1) (map field_cells fields)) (tracked_with cells (n + 1) (map field_cells fields))
    (λ e. with_kept (cells ++ numbered n (field_cells f)) (n + 1) fields c (among_left c cells (numbered n (field_cells f)) a)) (λ e. with_kept cells (n + 1) fields c a)

-- a cell that is new has the number of one of these fields
with_from : (cells : List (ℕ × KeyAt)) (n : ℕ) (fields : List Field) (c : ℕ × KeyAt) → IsAmong c (tracked_with cells n (map field_cells fields)) → IsAmong c cells ⊎ (n ≤ c.0)
with_from cells n [] c = λ a. inl a
with_from cells n (f ∷ fields) c =
    at_choice (λ l. IsAmong c l → IsAmong c cells ⊎ (n ≤ c.0)) (nat_le (length cells + length (field_cells f)) 64)
    (tracked_with (cells ++ numbered n (field_cells f)) (n + 1) (map field_cells fields)) (tracked_with cells (n + 1) (map field_cells fields))
    (λ e a. taken (with_from (cells ++ numbered n (field_cells f)) (n + 1) fields c a)) (λ e a. left_out (with_from cells (n + 1) fields c a))
  where
    old_or_here : IsAmong c cells ⊎ IsAmong c (numbered n (field_cells f)) → IsAmong c cells ⊎ (n ≤ c.0)
    old_or_here (inl a) = inl a
    old_or_here (inr m) = let same = number_among n c (field_cells f) m in inr (omega (arith, same))

    taken : IsAmong c (cells ++ numbered n (field_cells f)) ⊎ (n + 1 ≤ c.0) → IsAmong c cells ⊎ (n ≤ c.0)
    taken (inl a) = old_or_here (among_either c cells (numbered n (field_cells f)) a)
    taken (inr le) = inr (omega (arith, le))

    left_out : IsAmong c cells ⊎ (n + 1 ≤ c.0) → IsAmong c cells ⊎ (n ≤ c.0)
    left_out (inl a) = inl a
    left_out (inr le) = inr (omega (arith, le))

-- all cells of field number n, or none
abbrev AllOrNone : ℕ → Field → List (ℕ × KeyAt) → Type 0
AllOrNone n f cells = Each (λ key. IsAmong (n, key) cells) (field_cells f) ⊎ ((key : KeyAt) → IsAmong (n, key) cells → ⊥)

with_whole : (cells : List (ℕ × KeyAt)) (n : ℕ) (fields : List Field) (j : ℕ) (f : Field) → AreBelow n cells → slice_get fields j ≡ Some f
    → AllOrNone (n + j) f (tracked_with cells n (map field_cells fields))
with_whole cells n [] zero f b e = cc
with_whole cells n [] (suc j) f b e = cc
with_whole cells n (g ∷ fields) zero f b e =
    let same : g ≡ f = cc in
    let place : n ≡ n + 0 = omega arith in
    subst (λ m. AllOrNone m f (tracked_with cells n (map field_cells (g ∷ fields)))) place
    (subst (λ h. AllOrNone n h (tracked_with cells n (map field_cells (g ∷ fields)))) same
    (at_choice (AllOrNone n g) (nat_le (length cells + length (field_cells g)) 64)
    (tracked_with (cells ++ numbered n (field_cells g)) (n + 1) (map field_cells fields)) (tracked_with cells (n + 1) (map field_cells fields))
    (λ t. inl (each_from (λ key. IsAmong (n, key) (tracked_with (cells ++ numbered n (field_cells g)) (n + 1) (map field_cells fields))) (field_cells g) here))
    (λ t. inr (λ key a. away key (with_from cells (n + 1) fields (n, key) a)))))
  where
    here : (key : KeyAt) → IsAmong key (field_cells g) → IsAmong (n, key) (tracked_with (cells ++ numbered n (field_cells g)) (n + 1) (map field_cells fields))
    here key a = with_kept (cells ++ numbered n (field_cells g)) (n + 1) fields (n, key) (among_right (n, key) cells (numbered n (field_cells g)) (among_map (λ key. (n, key)) key (field_cells g) a))

    away : (key : KeyAt) → IsAmong (n, key) cells ⊎ (n + 1 ≤ n) → ⊥
    away key (inl a) = let less = each_at (λ c. c.0 < n) cells (n, key) b a in absurd (omega (arith, less))
    away key (inr le) = absurd (omega (arith, le))
with_whole cells n (g ∷ fields) (suc j) f b e =
    let place : n + 1 + j ≡ n + suc j = omega arith in
    at_choice (AllOrNone (n + suc j) f) (nat_le (length cells + length (field_cells g)) 64)
    (tracked_with (cells ++ numbered n (field_cells g)) (n + 1) (map field_cells fields)) (tracked_with cells (n + 1) (map field_cells fields))
    (λ t. subst (λ m. AllOrNone m f (tracked_with (cells ++ numbered n (field_cells g)) (n + 1) (map field_cells fields))) place
    (with_whole (cells ++ numbered n (field_cells g)) (n + 1) fields j f (more_below n cells (field_cells g) b) e))
    (λ t. subst (λ m. AllOrNone m f (tracked_with cells (n + 1) (map field_cells fields))) place (with_whole cells (n + 1) fields j f (raised n cells b) e))

pub all_or_none : (fields : List Field) (i : ℕ) (f : Field) → slice_get fields i ≡ Some f → AllOrNone (suc i) f (cells_in fields)
all_or_none fields i f e = let place : 1 + i ≡ suc i = omega arith in subst (λ m. AllOrNone m f (cells_in fields)) place (with_whole [] 1 fields i f tt e)
