-- The laws of sets of at most K numbers.
use Rattle.std.proofs.Common.{◌≡◌, ℕ, ◌+◌, ◌-◌, ◌^◌, ◌<◌, ◌≤◌, Bool, true, false, List, [], ◌∷◌, ◌++◌, map, length, Option, Some, None, refl, sym, ap, ◌∙◌, subst, arith, IsTrue, ◌↔◌, ◌⊎◌, inl, inr}
use Rattle.std.specs.Prelude.{◌==◌, ◌&&◌, nat_lt, nat_le, not, if◌then◌else◌}
use Rattle.std.specs.List.{list_any, list_all, flat_map, range_with_len}
use Rattle.std.proofs.lemmas.Bool.Decides.{nat_tests}
use Rattle.std.proofs.lemmas.List.FromFn.{length-range_with_len}
use Rattle.word_operations.specs.declared.kinds.WordComparison.{WordComparison}
use Rattle.word_operations.specs.Op1.{op1_of}
use Rattle.word_operations.specs.Op2.{op2_of}
use Rattle.word_operations.specs.Cmp.{cmp_of}
use Rattle.word_operations.specs.Casts.{zext_of, sext_of, trunc_of}
use Rattle.word_operations.proofs.Fits.{op1_of_fits, op2_of_fits, zext_of_fits, sext_of_fits, trunc_of_fits}
use Rattle.base_trait.specs.Algebra.{can_be}
use Rattle.base_trait.specs.Laws.{Laws, WordLaws}
use Rattle.base_trait.specs.Lists.{IsAmong, Each, IsAscendingFrom, IsAscending, ascends_from}
use Rattle.base_trait.specs.NoNotes.{no_note_laws}
use Rattle.base_trait.proofs.Lists.{among_left, among_right, among_either, each_from, each_at, among_map, map_among, number_itself, number_told, ascending_lower, ascending_shorter, ascends_told, all_told, range_ascends, range_has, range_within}
use Rattle.base_trait.proofs.Tests.{or_sorted, or_left, or_right, and_both, and_parts, at_choice, from_either}
use Rattle.base_kset.specs.Sets.{placed, set_with, set_of, has, bounded, images, products, union, from_to, IsSet, is_set}
use Rattle.base_kset.specs.Meaning.{kset, words, Stands, Fits, fits_word, compared, some_pair, outcome, absorbs_set, the_number, may_be, all_of, size_of, rank_of}
use Rattle.base_kset.specs.Adding.{set_grows, bounded_few}

-- ---- a number in its place
-- it is among the items, and so is each that was
pub placed_has : (x : ℕ) (s : List ℕ) → IsAmong x (placed x s)
placed_has x [] = inl refl
placed_has x (y ∷ s) =
    at_choice (IsAmong x) (nat_lt x y) (x ∷ y ∷ s) _ (λ e. inl refl)
    (λ e. at_choice (IsAmong x) (x == y) (y ∷ s) (y ∷ placed x s) (λ f. inl (number_told x y f)) (λ f. inr (placed_has x s)))

pub placed_keeps : (x n : ℕ) (s : List ℕ) → IsAmong n s → IsAmong n (placed x s)
placed_keeps x n [] h = absurd h
placed_keeps x n (y ∷ s) h =
    at_choice (IsAmong n) (nat_lt x y) (x ∷ y ∷ s) _ (λ e. inr h)
    (λ e. at_choice (IsAmong n) (x == y) (y ∷ s) (y ∷ placed x s) (λ f. h) (λ f. kept h (placed_keeps x n s)))
  where
    kept : IsAmong n (y ∷ s) → (IsAmong n s → IsAmong n (placed x s)) → IsAmong n (y ∷ placed x s)
    kept (inl e) f = inl e
    kept (inr k) f = inr (f k)

-- and no other
pub placed_only : (x n : ℕ) (s : List ℕ) → IsAmong n (placed x s) → (n ≡ x) ⊎ IsAmong n s
placed_only x n [] h = h
placed_only x n (y ∷ s) h =
    at_choice (λ l. IsAmong n l → (n ≡ x) ⊎ IsAmong n (y ∷ s)) (nat_lt x y) (x ∷ y ∷ s) _ (λ e k. k)
    (λ e. at_choice (λ l. IsAmong n l → (n ≡ x) ⊎ IsAmong n (y ∷ s)) (x == y) (y ∷ s) (y ∷ placed x s) (λ f k. inr k) (λ f k. sorted k (placed_only x n s))) h
  where
    sorted : IsAmong n (y ∷ placed x s) → (IsAmong n (placed x s) → (n ≡ x) ⊎ IsAmong n s) → (n ≡ x) ⊎ IsAmong n (y ∷ s)
    sorted (inl e) f = inr (inl e)
    sorted (inr k) f = further (f k)
      where
        further : (n ≡ x) ⊎ IsAmong n s → (n ≡ x) ⊎ IsAmong n (y ∷ s)
        further (inl e) = inl e
        further (inr l) = inr (inr l)

pub placed_ascends : (low x : ℕ) (s : List ℕ) → IsAscendingFrom low s → low ≤ x → IsAscendingFrom low (placed x s)
placed_ascends low x [] h l = (l, tt)
placed_ascends low x (y ∷ s) h l =
    at_choice (IsAscendingFrom low) (nat_lt x y) (x ∷ y ∷ s) _ (λ e. (l, (grind (arith, nat_tests), h.1)))
    (λ e. at_choice (IsAscendingFrom low) (x == y) (y ∷ s) (y ∷ placed x s) (λ f. h) (λ f. (h.0, placed_ascends (y + 1) x s h.1 (grind (arith, nat_tests)))))

-- ---- a set with more numbers
pub set_keeps : (n : ℕ) (s xs : List ℕ) → IsAmong n s → IsAmong n (set_with s xs)
set_keeps n s [] h = h
set_keeps n s (x ∷ xs) h = set_keeps n (placed x s) xs (placed_keeps x n s h)

pub set_has : (n : ℕ) (s xs : List ℕ) → IsAmong n xs → IsAmong n (set_with s xs)
set_has n s [] h = absurd h
set_has n s (x ∷ xs) (inl e) = set_keeps n (placed x s) xs (subst (λ z. IsAmong n (placed z s)) e (placed_has n s))
set_has n s (x ∷ xs) (inr h) = set_has n (placed x s) xs h

pub set_only : (n : ℕ) (s xs : List ℕ) → IsAmong n (set_with s xs) → IsAmong n s ⊎ IsAmong n xs
set_only n s [] h = inl h
set_only n s (x ∷ xs) h = sorted (set_only n (placed x s) xs h)
  where
    first : (n ≡ x) ⊎ IsAmong n s → IsAmong n s ⊎ IsAmong n (x ∷ xs)
    first (inl e) = inr (inl e)
    first (inr k) = inl k

    sorted : IsAmong n (placed x s) ⊎ IsAmong n xs → IsAmong n s ⊎ IsAmong n (x ∷ xs)
    sorted (inl k) = first (placed_only x n s k)
    sorted (inr k) = inr (inr k)

pub set_ascends : (s xs : List ℕ) → IsAscending s → IsAscending (set_with s xs)
set_ascends s [] h = h
set_ascends s (x ∷ xs) h = set_ascends (placed x s) xs (placed_ascends 0 x s h (omega arith))

-- ---- tests of lists
pub any_at : (test : ℕ → Bool) (x : ℕ) (xs : List ℕ) → IsAmong x xs → IsTrue (test x) → IsTrue (list_any test xs)
any_at test x [] h t = absurd h
any_at test x (y ∷ ys) (inl e) t = or_left (test y) _ (subst (λ z. IsTrue (test z)) e t)
any_at test x (y ∷ ys) (inr h) t = or_right (test y) _ (any_at test x ys h t)

pub all_from : (test : ℕ → Bool) (xs : List ℕ) → ((x : ℕ) → IsAmong x xs → IsTrue (test x)) → IsTrue (list_all test xs)
all_from test [] f = refl
all_from test (x ∷ xs) f = and_both (test x) _ (f x (inl refl)) (all_from test xs (λ y h. f y (inr h)))

pub all_at : (test : ℕ → Bool) (x : ℕ) (xs : List ℕ) → IsTrue (list_all test xs) → IsAmong x xs → IsTrue (test x)
all_at test x [] t h = absurd h
all_at test x (y ∷ ys) t (inl e) = subst (λ z. IsTrue (test z)) (sym e) (and_parts (test y) _ t).0
all_at test x (y ∷ ys) t (inr h) = all_at test x ys (and_parts (test y) _ t).1 h

pub has_from : (n : ℕ) (s : List ℕ) → IsAmong n s → IsTrue (has s n)
has_from n s h = any_at (λ x. x == n) n s h (number_itself n)

pub among_from : (n : ℕ) (s : List ℕ) → IsTrue (has s n) → IsAmong n s
among_from n [] h = cc
among_from n (y ∷ ys) h = sorted (or_sorted (y == n) _ h) (among_from n ys)
  where
    sorted : IsTrue (y == n) ⊎ IsTrue (has ys n) → (IsTrue (has ys n) → IsAmong n ys) → IsAmong n (y ∷ ys)
    sorted (inl e) f = inl (sym (number_told y n e))
    sorted (inr k) f = inr (f k)

-- ---- results of two lists
pub among_rows : (f : ℕ → ℕ → ℕ) (m n : ℕ) (s t : List ℕ) → IsAmong m s → IsAmong n t → IsAmong (f m n) (flat_map (λ x. map (f x) t) s)
among_rows f m n [] t h k = absurd h
among_rows f m n (x ∷ s) t (inl e) k = among_left (f m n) (map (f x) t) _ (subst (λ z. IsAmong (f m n) (map (f z) t)) e (among_map (f m) n t k))
among_rows f m n (x ∷ s) t (inr h) k = among_right (f m n) (map (f x) t) _ (among_rows f m n s t h k)

pub rows_among : (f : ℕ → ℕ → ℕ) (r : ℕ) (s t : List ℕ) → IsAmong r (flat_map (λ x. map (f x) t) s)
    → (m : ℕ) × (n : ℕ) × IsAmong m s × IsAmong n t × (r ≡ f m n)
rows_among f r [] t h = absurd h
rows_among f r (x ∷ s) t h = sorted (among_either r (map (f x) t) _ h) (rows_among f r s t)
  where
    sorted : IsAmong r (map (f x) t) ⊎ IsAmong r (flat_map (λ x. map (f x) t) s)
        → (IsAmong r (flat_map (λ x. map (f x) t) s) → (m : ℕ) × (n : ℕ) × IsAmong m s × IsAmong n t × (r ≡ f m n))
        → (m : ℕ) × (n : ℕ) × IsAmong m (x ∷ s) × IsAmong n t × (r ≡ f m n)
    sorted (inl k) g = let here = map_among (f x) r t k in (x, here.0, inl refl, here.1, here.2)
    sorted (inr k) g = let there = g k in (there.0, there.1, inr there.2, there.3, there.4)

pub some_pair_at : (test : ℕ → ℕ → Bool) (m n : ℕ) (s t : List ℕ) → IsAmong m s → IsAmong n t → IsTrue (test m n) → IsTrue (some_pair test s t)
some_pair_at test m n s t h k e = any_at (λ x. list_any (test x) t) m s h (any_at (test m) n t k e)

-- ---- bounded sets
module _ (K : ℕ) where
  pub bounded_stands : (s : List ℕ) (n : ℕ) → IsAmong n s → Stands (bounded K s) n
  bounded_stands s n h = at_choice (λ z. Stands z n) (nat_le (length s) K) (Some s) None (λ e. h) (λ e. tt)

  pub bounded_fits : (w : ℕ) (s : List ℕ) → 1 ≤ length s → IsAscending s → Each (λ n. n < 2 ^ w) s → Fits K w (bounded K s)
  bounded_fits w s some ascending below =
      at_choice (Fits K w) (nat_le (length s) K) (Some s) None (λ e. record { some = some; few = grind (arith, nat_tests); ascending = ascending; below = below }) (λ e. tt)

  pub images_stand : (f : ℕ → ℕ) (x : Option (List ℕ)) (n : ℕ) → Stands x n → Stands (images K f x) (f n)
  images_stand f None n h = tt
  images_stand f (Some s) n h = bounded_stands (set_of (map f s)) (f n) (set_has (f n) [] (map f s) (among_map f n s h))

  pub images_fit : (f : ℕ → ℕ) (w v : ℕ) (x : Option (List ℕ)) → Fits K w x → ((n : ℕ) → n < 2 ^ w → f n < 2 ^ v) → Fits K v (images K f x)
  images_fit f w v None h g = tt
  images_fit f w v (Some s) h g = bounded_fits v (set_of (map f s)) (some s h.some) (set_ascends [] (map f s) tt) (each_from (λ n. n < 2 ^ v) (set_of (map f s)) below)
    where
      some : (s : List ℕ) → 1 ≤ length s → 1 ≤ length (set_of (map f s))
      some [] h = absurd (omega arith)
      some (x ∷ s) h = let grown = set_grows (f x ∷ []) (map f s) in omega (arith, grown)

      below : (r : ℕ) → IsAmong r (set_of (map f s)) → r < 2 ^ v
      below r k = found (set_only r [] (map f s) k)
        where
          found : IsAmong r [] ⊎ IsAmong r (map f s) → r < 2 ^ v
          found (inl none) = absurd none
          found (inr l) = let from = map_among f r s l in subst (λ z. z < 2 ^ v) (sym from.2) (g from.0 (each_at (λ n. n < 2 ^ w) s from.0 h.below from.1))

  pub products_stand : (f : ℕ → ℕ → ℕ) (x y : Option (List ℕ)) (m n : ℕ) → Stands x m → Stands y n → Stands (products K f x y) (f m n)
  products_stand f (Some s) (Some t) m n h k = bounded_stands _ (f m n) (set_has (f m n) [] (flat_map (λ x. map (f x) t) s) (among_rows f m n s t h k))
  products_stand f None None m n h k = tt
  products_stand f None (Some t) m n h k = tt
  products_stand f (Some s) None m n h k = tt

  pub products_fit : (f : ℕ → ℕ → ℕ) (w : ℕ) (x y : Option (List ℕ)) → Fits K w x → Fits K w y → ((m n : ℕ) → m < 2 ^ w → n < 2 ^ w → f m n < 2 ^ w) → Fits K w (products K f x y)
  products_fit f w (Some s) (Some t) h k g =
      let rows = flat_map (λ x. map (f x) t) s in
      bounded_fits w (set_of rows) (some s t h.some k.some) (set_ascends [] rows tt) (each_from (λ n. n < 2 ^ w) (set_of rows) below)
    where
      some : (s t : List ℕ) → 1 ≤ length s → 1 ≤ length t → 1 ≤ length (set_of (flat_map (λ x. map (f x) t) s))
      some [] t h k = absurd (omega arith)
      some (x ∷ s) [] h k = absurd (omega arith)
      some (x ∷ s) (y ∷ t) h k = let grown = set_grows (f x y ∷ []) (map (f x) t ++ flat_map (λ x. map (f x) (y ∷ t)) s) in omega (arith, grown)

      below : (r : ℕ) → IsAmong r (set_of (flat_map (λ x. map (f x) t) s)) → r < 2 ^ w
      below r l = found (set_only r [] (flat_map (λ x. map (f x) t) s) l)
        where
          found : IsAmong r [] ⊎ IsAmong r (flat_map (λ x. map (f x) t) s) → r < 2 ^ w
          found (inl none) = absurd none
          found (inr l) =
              let from = rows_among f r s t l in
              subst (λ z. z < 2 ^ w) (sym from.4) (g from.0 from.1 (each_at (λ n. n < 2 ^ w) s from.0 h.below from.2) (each_at (λ n. n < 2 ^ w) t from.1 k.below from.3))
  products_fit f w None None h k g = tt
  products_fit f w None (Some t) h k g = tt
  products_fit f w (Some s) None h k g = tt

  pub union_left : (x y : Option (List ℕ)) (n : ℕ) → Stands x n → Stands (union K x y) n
  union_left (Some s) (Some t) n h = bounded_stands (set_with s t) n (set_keeps n s t h)
  union_left None None n h = tt
  union_left None (Some t) n h = tt
  union_left (Some s) None n h = tt

  pub union_right : (x y : Option (List ℕ)) (n : ℕ) → Stands y n → Stands (union K x y) n
  union_right (Some s) (Some t) n h = bounded_stands (set_with s t) n (set_has n s t h)
  union_right None None n h = tt
  union_right None (Some t) n h = tt
  union_right (Some s) None n h = tt

  pub union_fits : (w : ℕ) (x y : Option (List ℕ)) → Fits K w x → Fits K w y → Fits K w (union K x y)
  union_fits w (Some s) (Some t) h k =
      let grown = set_grows s t in let some = h.some in
      bounded_fits w (set_with s t) (omega (arith, grown, some)) (set_ascends s t h.ascending) (each_from (λ n. n < 2 ^ w) (set_with s t) below)
    where
      below : (r : ℕ) → IsAmong r (set_with s t) → r < 2 ^ w
      below r l = found (set_only r s t l)
        where
          found : IsAmong r s ⊎ IsAmong r t → r < 2 ^ w
          found (inl a) = each_at (λ n. n < 2 ^ w) s r h.below a
          found (inr a) = each_at (λ n. n < 2 ^ w) t r k.below a
  union_fits w None None h k = tt
  union_fits w None (Some t) h k = tt
  union_fits w (Some s) None h k = tt

  pub from_to_stands : (low high n : ℕ) → low ≤ n → n ≤ high → Stands (from_to K low high) n
  from_to_stands low high n a b =
      at_choice (λ z. Stands z n) (nat_lt (high - low) K) (Some (range_with_len low (high - low + 1))) None (λ e. range_has low (high - low + 1) n a (omega arith)) (λ e. tt)

  pub from_to_fits : (w low high : ℕ) → low ≤ high → high < 2 ^ w → Fits K w (from_to K low high)
  from_to_fits w low high a b =
      at_choice (Fits K w) (nat_lt (high - low) K) (Some (range_with_len low (high - low + 1))) None
      (λ e. let size = length-range_with_len low (high - low + 1) in
      record {
        some = omega (arith, size);
        few = grind (arith, nat_tests, size);
        ascending = ascending_lower low 0 (range_with_len low (high - low + 1)) (omega arith) (range_ascends low (high - low + 1));
        below = each_from (λ n. n < 2 ^ w) (range_with_len low (high - low + 1)) (λ n h. let r = range_within low (high - low + 1) n h in omega (arith, r.1));
      })
      (λ e. tt)

  pub constant_fits : (w n : ℕ) → n < 2 ^ w → Fits K w (bounded K (n ∷ []))
  constant_fits w n h = bounded_fits w (n ∷ []) (omega arith) (omega arith, tt) (h, tt)

-- ---- absorption
set_absorbs : (s t : List ℕ) → ((n : ℕ) → IsAmong n t → IsAmong n s) → IsTrue (list_all (has s) t)
set_absorbs s t f = all_from (has s) t (λ n h. has_from n s (f n h))

set_absorbed : (s t : List ℕ) → IsTrue (list_all (has s) t) → (n : ℕ) → IsAmong n t → IsAmong n s
set_absorbed s t e n h = among_from n s (all_at (has s) n t e h)

pub absorbs_itself : (x : Option (List ℕ)) → IsTrue (absorbs_set x x)
absorbs_itself None = refl
absorbs_itself (Some s) = set_absorbs s s (λ n h. h)

pub absorbs_on : (x y z : Option (List ℕ)) → IsTrue (absorbs_set x y) → IsTrue (absorbs_set y z) → IsTrue (absorbs_set x z)
absorbs_on None y z h k = refl
absorbs_on (Some s) None z h k = cc
absorbs_on (Some s) (Some t) None h k = cc
absorbs_on (Some s) (Some t) (Some u) h k = set_absorbs s u (λ n a. set_absorbed s t h n (set_absorbed t u k n a))

pub absorbs_stands : (old new : Option (List ℕ)) (n : ℕ) → IsTrue (absorbs_set old new) → Stands new n → Stands old n
absorbs_stands None new n h k = tt
absorbs_stands (Some s) None n h k = cc
absorbs_stands (Some s) (Some t) n h k = set_absorbed s t h n k

module _ (K : ℕ) where
  pub union_absorbs_left : (x y : Option (List ℕ)) → IsTrue (absorbs_set (union K x y) x)
  union_absorbs_left (Some s) (Some t) =
      at_choice (λ z. IsTrue (absorbs_set z (Some s))) (nat_le (length (set_with s t)) K) (Some (set_with s t)) None (λ e. set_absorbs (set_with s t) s (λ n h. set_keeps n s t h)) (λ e. refl)
  union_absorbs_left None None = refl
  union_absorbs_left None (Some t) = refl
  union_absorbs_left (Some s) None = refl

  pub union_absorbs_right : (x y : Option (List ℕ)) → IsTrue (absorbs_set (union K x y) y)
  union_absorbs_right (Some s) (Some t) =
      at_choice (λ z. IsTrue (absorbs_set z (Some t))) (nat_le (length (set_with s t)) K) (Some (set_with s t)) None (λ e. set_absorbs (set_with s t) t (λ n h. set_has n s t h)) (λ e. refl)
  union_absorbs_right None None = refl
  union_absorbs_right None (Some t) = refl
  union_absorbs_right (Some s) None = refl

  -- a set of at most K numbers that absorbs both sides absorbs their union, which has no more numbers
  pub union_least : (w : ℕ) (x y z : Option (List ℕ)) → Fits K w x → Fits K w y → Fits K w z
      → IsTrue (absorbs_set z x) → IsTrue (absorbs_set z y) → IsTrue (absorbs_set z (union K x y))
  union_least w x y None fx fy fz h k = refl
  union_least w None y (Some u) fx fy fz h k = cc
  union_least w (Some s) None (Some u) fx fy fz h k = cc
  union_least w (Some s) (Some t) (Some u) fx fy fz h k =
      let shorter = ascending_shorter 0 0 (set_with s t) u (set_ascends s t fx.ascending) fz.ascending within in
      let few = fz.few in
      rw (bounded_few K (set_with s t) (omega (arith, shorter, few))) (set_absorbs u (set_with s t) within)
    where
      within : (n : ℕ) → IsAmong n (set_with s t) → IsAmong n u
      within n a = found (set_only n s t a)
        where
          found : IsAmong n s ⊎ IsAmong n t → IsAmong n u
          found (inl b) = set_absorbed u s h n b
          found (inr b) = set_absorbed u t k n b

-- ---- widening
widened : Option (List ℕ) → Option (List ℕ) → Bool → Option (List ℕ)
widened old new b = if b then old else None

widen_stands : (old new : Option (List ℕ)) (n : ℕ) → Stands old n ⊎ Stands new n → Stands (if absorbs_set old new then old else None) n
widen_stands old new n h = at_choice (λ z. Stands z n) (absorbs_set old new) old None (λ e. found e h) (λ e. tt)
  where
    found : IsTrue (absorbs_set old new) → Stands old n ⊎ Stands new n → Stands old n
    found e (inl k) = k
    found e (inr k) = absorbs_stands old new n e k

widen_absorbs_both : (old new : Option (List ℕ)) → IsTrue (absorbs_set (if absorbs_set old new then old else None) old) × IsTrue (absorbs_set (if absorbs_set old new then old else None) new)
widen_absorbs_both old new =
    at_choice (λ z. IsTrue (absorbs_set z old) × IsTrue (absorbs_set z new)) (absorbs_set old new) old None (λ e. (absorbs_itself old, e)) (λ e. (refl, refl))

widen_old : (old new : Option (List ℕ)) → IsTrue (absorbs_set old new) → (if absorbs_set old new then old else None) ≡ old
widen_old old new h = at_choice (λ z. z ≡ old) (absorbs_set old new) old None (λ e. refl) (λ e. cc)

widen_less : (old new : Option (List ℕ)) → absorbs_set old new ≡ false → rank_of (if absorbs_set old new then old else None) < rank_of old
widen_less None new h = cc
widen_less (Some s) new h = at_choice (λ z. rank_of z < 1) (absorbs_set (Some s) new) (Some s) None (λ e. cc) (λ e. omega arith)

widen_fits : (K w : ℕ) (old new : Option (List ℕ)) → Fits K w old → Fits K w (if absorbs_set old new then old else None)
widen_fits K w old new h = at_choice (Fits K w) (absorbs_set old new) old None (λ e. h) (λ e. tt)

rank_low : (x : Option (List ℕ)) → rank_of x ≤ 1
rank_low None = omega arith
rank_low (Some s) = omega arith

-- ---- what is known of a set
exact_below : (K w v : ℕ) (x : Option (List ℕ)) → Fits K w x → the_number x ≡ Some v → v < 2 ^ w
exact_below K w v None h e = cc
exact_below K w v (Some []) h e = cc
exact_below K w v (Some (x ∷ [])) h e = let same : x ≡ v = cc in subst (λ z. z < 2 ^ w) same h.below.0
exact_below K w v (Some (x ∷ y ∷ s)) h e = cc

exact_alone : (n v : ℕ) (x : Option (List ℕ)) → the_number x ≡ Some v → Stands x n → n ≡ v
exact_alone n v None e h = cc
exact_alone n v (Some []) e h = cc
exact_alone n v (Some (x ∷ [])) e (inl k) = let same : x ≡ v = cc in k ∙ same
exact_alone n v (Some (x ∷ [])) e (inr k) = absurd k
exact_alone n v (Some (x ∷ y ∷ s)) e h = cc

may_from : (n : ℕ) (x : Option (List ℕ)) → Stands x n → IsTrue (may_be x n)
may_from n None h = refl
may_from n (Some s) h = has_from n s h

-- the word as a list of its members
members_stand : (w n : ℕ) (x : Option (List ℕ)) → Stands x n → n < 2 ^ w → IsAmong n (all_of w x)
members_stand w n None h l = range_has 0 (2 ^ w) n (omega arith) (omega arith)
members_stand w n (Some s) h l = h

members_ascend : (K w : ℕ) (x : Option (List ℕ)) → Fits K w x → IsAscending (all_of w x)
members_ascend K w None h = range_ascends 0 (2 ^ w)
members_ascend K w (Some s) h = h.ascending

members_allowed : (K w : ℕ) (x : Option (List ℕ)) → Fits K w x → Each (λ n. (n < 2 ^ w) × IsTrue (may_be x n)) (all_of w x)
members_allowed K w None h = each_from (λ n. (n < 2 ^ w) × IsTrue (may_be None n)) (range_with_len 0 (2 ^ w)) (λ n k. let r = range_within 0 (2 ^ w) n k in (omega (arith, r.1), refl))
members_allowed K w (Some s) h = each_from (λ n. (n < 2 ^ w) × IsTrue (may_be (Some s) n)) s (λ n k. (each_at (λ n. n < 2 ^ w) s n h.below k, has_from n s k))

-- where a list is given, it is this one
given : (b : Bool) (xs ns : List ℕ) → (if b then Some xs else None) ≡ Some ns → xs ≡ ns
given true xs ns e = cc
given false xs ns e = cc

none_where : (b : Bool) (size limit : ℕ) (xs : List ℕ) → b ≡ nat_le size limit → ((if b then Some xs else None) ≡ None) ↔ (limit < size)
none_where true size limit xs e = (λ h. cc, λ h. absurd (grind (arith, nat_tests)))
none_where false size limit xs e = (λ h. grind (arith, nat_tests), λ h. refl)

members_within : (w limit : ℕ) (x : Option (List ℕ)) (b : Bool) → b ≡ nat_le (size_of w x) limit → IsTrue b → length (all_of w x) ≤ limit
members_within w limit None b e h = let long = length-range_with_len 0 (2 ^ w) in grind (arith, nat_tests)
members_within w limit (Some s) b e h = grind (arith, nat_tests)

few_where : (w limit : ℕ) (ns : List ℕ) (x : Option (List ℕ)) (b : Bool) → b ≡ nat_le (size_of w x) limit → (if b then Some (all_of w x) else None) ≡ Some ns → length ns ≤ limit
few_where w limit ns x true e d = let same : all_of w x ≡ ns = cc in subst (λ z. length z ≤ limit) same (members_within w limit x true e refl)
few_where w limit ns x false e d = cc

-- ---- whether a word fits
below_told : (w : ℕ) (s : List ℕ) → IsTrue (list_all (λ n. nat_lt n (2 ^ w)) s) ↔ Each (λ n. n < 2 ^ w) s
below_told w s = (
  λ h. each_from (λ n. n < 2 ^ w) s (λ n k. let below = each_at (λ n. IsTrue (nat_lt n (2 ^ w))) s n ((all_told (λ n. nat_lt n (2 ^ w)) s).0 h) k in grind (arith, nat_tests)),
  λ h. (all_told (λ n. nat_lt n (2 ^ w)) s).1 (each_from (λ n. IsTrue (nat_lt n (2 ^ w))) s (λ n k. let below = each_at (λ n. n < 2 ^ w) s n h k in grind (arith, nat_tests))),
)

module _ (K w : ℕ) (s : List ℕ) where
  abbrev ascends : Bool
  ascends = ascends_from 0 s

  abbrev below : Bool
  below = list_all (λ n. nat_lt n (2 ^ w)) s

  set_from : IsTrue (is_set K w s) → IsSet K w s
  set_from h =
      let a = and_parts (nat_le 1 (length s)) (nat_le (length s) K && (ascends && below)) h in
      let b = and_parts (nat_le (length s) K) (ascends && below) a.1 in
      let c = and_parts ascends below b.1 in
      let some = a.0 in let few = b.0 in
      record { some = grind (arith, nat_tests); few = grind (arith, nat_tests); ascending = (ascends_told 0 s).0 c.0; below = (below_told w s).0 c.1 }

  set_to : IsSet K w s → IsTrue (is_set K w s)
  set_to h =
      let some = h.some in let few = h.few in
      and_both (nat_le 1 (length s)) (nat_le (length s) K && (ascends && below)) (grind (arith, nat_tests)) (
      and_both (nat_le (length s) K) (ascends && below) (grind (arith, nat_tests)) (
      and_both ascends below ((ascends_told 0 s).1 h.ascending) ((below_told w s).1 h.below)))

fits_told : (K w : ℕ) (x : Option (List ℕ)) → IsTrue (fits_word K w x) ↔ Fits K w x
fits_told K w None = (λ h. tt, λ h. refl)
fits_told K w (Some s) = (set_from K w s, set_to K w s)

-- ---- comparisons
pub outcome_itself : (k : WordComparison) (w m n : ℕ) → (b : Bool) → b ≡ cmp_of k w m n → IsTrue (outcome k w b m n)
outcome_itself k w m n true e = sym e
outcome_itself k w m n false e = ap not (sym e)

compared_may : (k : WordComparison) (w m n : ℕ) (x y : Option (List ℕ)) → Stands x m → Stands y n → IsTrue (can_be (compared k w x y) (cmp_of k w m n))
compared_may k w m n (Some s) (Some t) h l = at_truth (cmp_of k w m n) refl
  where
    at_truth : (b : Bool) → b ≡ cmp_of k w m n → IsTrue (can_be (compared k w (Some s) (Some t)) b)
    at_truth true e = some_pair_at (outcome k w true) m n s t h l (outcome_itself k w m n true e)
    at_truth false e = some_pair_at (outcome k w false) m n s t h l (outcome_itself k w m n false e)
compared_may k w m n None y h l = at_truth (cmp_of k w m n)
  where
    at_truth : (b : Bool) → IsTrue (can_be (record { may_true = true; may_false = true }) b)
    at_truth true = refl
    at_truth false = refl
compared_may k w m n (Some s) None h l = at_truth (cmp_of k w m n)
  where
    at_truth : (b : Bool) → IsTrue (can_be (record { may_true = true; may_false = true }) b)
    at_truth true = refl
    at_truth false = refl

-- ---- the laws
sides : {P Q S : Type 0} → (P × S) ⊎ (Q × S) → (P ⊎ Q) × S
sides (inl h) = (inl h.0, h.1)
sides (inr h) = (inr h.0, h.1)

pub word_laws : (K : ℕ) → WordLaws (Option (List ℕ)) (Unit {0}) true (words K)
word_laws K = record {
  described_fits = λ valuation w n x h. h.1;
  unseen = λ valuation other w n x e h. h;
  fits_told = λ c w x. fits_told K w x;
  constant_sound = λ c valuation w n width h. (bounded_stands K (n ∷ []) n (inl refl), h);
  any_sound = λ c valuation w n width joins h. (tt, h);
  range_sound = λ c valuation w low high n width joins a b h. (from_to_stands K low high n a b, omega arith);
  op1_sound = λ c valuation op w n x width fx h. (images_stand K (op1_of op w) x n h.0, op1_of_fits op w n width h.1);
  op2_sound = λ c valuation op w m n x y width fx fy hx hy. (products_stand K (op2_of op w) x y m n hx.0 hy.0, op2_of_fits op w m n width hx.1 hy.1);
  cmp_sound = λ c valuation k w m n x y width fx fy hx hy. compared_may k w m n x y hx.0 hy.0;
  zext_sound = λ c valuation from to n x widths fx h. (images_stand K (zext_of from to) x n h.0, zext_of_fits from to n widths.order h.1);
  sext_sound = λ c valuation from to n x widths fx h. (images_stand K (sext_of from to) x n h.0, sext_of_fits from to n);
  trunc_sound = λ c valuation from to n x widths fx h. (images_stand K (trunc_of from to) x n h.0, trunc_of_fits from to n);
  exact_fits = λ c w v x width fx e. exact_below K w v x fx e;
  exact_only = λ c valuation w n v x width fx e h. exact_alone n v x e h.0;
  may_sound = λ c valuation w n x width fx h. may_from n x h.0;
  members_hold = λ c valuation w limit n ns x width fx e h. subst (IsAmong n) (given (nat_le (size_of w x) limit) (all_of w x) ns e) (members_stand w n x h.0 h.1);
  members_ascend = λ c w limit ns x width fx e. subst IsAscending (given (nat_le (size_of w x) limit) (all_of w x) ns e) (members_ascend K w x fx);
  members_fit = λ c w limit ns x width fx e. subst (Each (λ n. (n < 2 ^ w) × IsTrue (may_be x n))) (given (nat_le (size_of w x) limit) (all_of w x) ns e) (members_allowed K w x fx);
  members_few = λ c w limit ns x width fx e. few_where w limit ns x (nat_le (size_of w x) limit) refl e;
  members_none = λ c w limit x width fx. none_where (nat_le (size_of w x) limit) (size_of w x) limit (all_of w x) refl;
  join_describes = λ c valuation w n x y width may fx fy h. let s = sides h in (from_either (union_left K x y n) (union_right K x y n) s.0, s.1);
  join_absorbs = λ c w x y width may fx fy. (union_absorbs_left K x y, union_absorbs_right K x y);
  join_least = λ c w x y z width fx fy fz h k. union_least K w x y z fx fy fz h k;
  widen_describes = λ c valuation w n old new width may fx fy h. let s = sides h in (widen_stands old new n s.0, s.1);
  widen_absorbs = λ c w old new width may fx fy. widen_absorbs_both old new;
  absorbs_itself = λ c w x width fx. absorbs_itself x;
  absorbs_on = λ c w x y z width fx fy fz h k. absorbs_on x y z h k;
  absorbs_describes = λ c valuation w n old new width fx fy h k. (absorbs_stands old new n h k.0, k.1);
  widen_keeps = λ c w old new width joins fx fy h. widen_old old new h;
  widen_falls = λ c w old new width joins fx fy h. widen_less old new h;
  rank_height = λ c w x width fx. rank_low x;
  is_exact = λ c w x width e fx. cc;
  not_both = λ c k w x y width e fx fy h. cc;
  constant_fits = λ c w n width h. constant_fits K w n h;
  any_fits = λ c w width. tt;
  range_fits = λ c w low high width a h. from_to_fits K w low high a h;
  op1_fits = λ c op w x width fx. images_fit K (op1_of op w) w w x fx (λ n h. op1_of_fits op w n width h);
  op2_fits = λ c op w x y width fx fy. products_fit K (op2_of op w) w x y fx fy (λ m n h k. op2_of_fits op w m n width h k);
  zext_fits = λ c from to x widths fx. images_fit K (zext_of from to) from to x fx (λ n h. zext_of_fits from to n widths.order h);
  sext_fits = λ c from to x widths fx. images_fit K (sext_of from to) from to x fx (λ n h. sext_of_fits from to n);
  trunc_fits = λ c from to x widths fx. images_fit K (trunc_of from to) from to x fx (λ n h. trunc_of_fits from to n);
  join_fits = λ c w x y width fx fy. union_fits K w x y fx fy;
  widen_fits = λ c w old new width fx fy. widen_fits K w old new fx;
}

pub kset_laws : (K : ℕ) → Laws (Option (List ℕ)) (Unit {0}) (Unit {0}) (kset K)
kset_laws K = record { words = word_laws K; notes = no_note_laws true }
