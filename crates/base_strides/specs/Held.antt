-- Words hold the results: sets, stretches, operations, casts and comparisons.
use Rattle.std.proofs.Common.{◌≡◌, ℕ, ◌-◌, ◌^◌, ◌<◌, ◌≤◌, Bool, true, false, List, [], ◌∷◌, ◌++◌, map, length, refl, sym, subst, arith, IsTrue, ◌⊎◌, inl, inr, zero-le}
use Rattle.std.specs.Prelude.{◌==◌, nat_lt, nat_le, not}
use Rattle.std.specs.Int.{◌∣◌}
use Rattle.std.specs.List.{flat_map}
use Rattle.std.proofs.Math.Nat.{dvd_trans}
use Rattle.std.proofs.lemmas.Bool.Decides.{nat_tests}
use Rattle.word_operations.specs.declared.kinds.WordComparison.{WordComparison}
use Rattle.word_operations.specs.declared.kinds.WordComparison.TheVariants.{Eq, Ne, LtU, LeU, LtS, LeS}
use Rattle.word_operations.specs.Cmp.{cmp_of}
use Rattle.word_operations.specs.Width.{IsWidth}
use Rattle.base_trait.specs.Algebra.{can_be}
use Rattle.base_trait.specs.Lists.{IsAmong, IsAscending}
use Rattle.base_trait.proofs.Lists.{among_left, among_right, among_either, each_from, each_at, among_map, map_among}
use Rattle.base_trait.proofs.Tests.{at_choice, and_both}
use Rattle.base_kset.specs.Sets.{set_with}
use Rattle.base_kset.specs.Meaning.{outcome}
use Rattle.base_kset.specs.Instance.{set_keeps, set_has, set_only, set_ascends, among_rows, rows_among, some_pair_at, outcome_itself}
use Rattle.base_kset.specs.Adding.{set_grows}
use Rattle.base_interval.specs.Compare.{compared as compared_ranges, compared_exact}
use Rattle.base_strides.specs.Gcd.{gcd, gcd_is}
use Rattle.base_strides.specs.Rows.{range}
use Rattle.base_strides.specs.Sound.{IsPart, HoldsWord}
use Rattle.base_strides.specs.Stretch.{Holds, IsWhole, IsWithin, divides_told, within_holds, apart, apart_from, hull, list_whole, list_holds, list_least, list_below, more, numbers, numbers_has, numbers_hold, numbers_ascend, steps_length}
use Rattle.base_strides.specs.Meaning.{most, Stands, Fits, of_stretch, collected, span, on_one, on_two, may_meet, equal_stretches, compared_stretches, compared}
use Rattle.base_strides.specs.Words.{Word, Listed, Strided}
use Rattle.base_strides.specs.declared.stretch.Stretch.{Stretch}

-- ---- stretches as words
pub of_stands : (x : Stretch) (n : ℕ) → Holds x n → Stands (of_stretch x) n
of_stands x n h = at_choice (λ z. Stands z n) (nat_lt (more x) most) (Listed (numbers x)) (Strided x) (λ e. numbers_has x n h) (λ e. h)

pub of_fits : (w : ℕ) (x : Stretch) → IsPart w x → Fits w (of_stretch x)
of_fits w x p =
    at_choice (Fits w) (nat_lt (more x) most) (Listed (numbers x)) (Strided x)
    (λ e.
    let size = steps_length x.lo x.step (more x) in
    let fits = p.fits in
    record {
      some = omega (arith, size);
      few = grind (arith, nat_tests, size);
      ascending = numbers_ascend x;
      below = each_from (λ n. n < 2 ^ w) (numbers x) (λ n a. let h = numbers_hold x n p.whole.above a in let below = h.below in omega arith);
    })
    (λ e. record { part = p; many = grind (arith, nat_tests) })

-- a stretch that holds it holds what becomes of it
pub of_within : (z x : Stretch) → IsWhole x → IsWithin z x → IsWithin z (span (of_stretch x))
of_within z x w h =
    at_choice (λ y. IsWithin z (span y)) (nat_lt (more x) most) (Listed (numbers x)) (Strided x)
    (λ e. list_least (numbers x) z (let size = steps_length x.lo x.step (more x) in omega (arith, size)) (λ n a. within_holds z x n h (numbers_hold x n w.above a)))
    (λ e. h)

-- ---- sets as words
pub both_among : (n : ℕ) (s ns : List ℕ) → IsAmong n (set_with s ns) → IsAmong n (s ++ ns)
both_among n s ns a = found (set_only n s ns a)
  where
    found : IsAmong n s ⊎ IsAmong n ns → IsAmong n (s ++ ns)
    found (inl b) = among_left n s ns b
    found (inr b) = among_right n s ns b

pub among_both : (n : ℕ) (s ns : List ℕ) → IsAmong n (s ++ ns) → IsAmong n (set_with s ns)
among_both n s ns a = found (among_either n s ns a)
  where
    found : IsAmong n s ⊎ IsAmong n ns → IsAmong n (set_with s ns)
    found (inl b) = set_keeps n s ns b
    found (inr b) = set_has n s ns b

pub collected_stands : (s ns : List ℕ) (n : ℕ) → IsAmong n (s ++ ns) → Stands (collected s ns) n
collected_stands s ns n a =
    at_choice (λ z. Stands z n) (nat_le (length (set_with s ns)) most) (Listed (set_with s ns)) (of_stretch (hull (s ++ ns)))
    (λ e. among_both n s ns a) (λ e. of_stands (hull (s ++ ns)) n (list_holds (s ++ ns) n a))

some_with : (s ns : List ℕ) → 1 ≤ length (s ++ ns) → 1 ≤ length (set_with s ns)
some_with [] [] h = absurd (omega arith)
some_with [] (n ∷ ns) h = let grown = set_grows (n ∷ []) ns in omega (arith, grown)
some_with (n ∷ s) ns h = let grown = set_grows (n ∷ s) ns in omega (arith, grown)

pub collected_fits : (w : ℕ) (s ns : List ℕ) → IsAscending s → 1 ≤ length (s ++ ns) → ((n : ℕ) → IsAmong n (s ++ ns) → n < 2 ^ w) → Fits w (collected s ns)
collected_fits w s ns up some f =
    at_choice (Fits w) (nat_le (length (set_with s ns)) most) (Listed (set_with s ns)) (of_stretch (hull (s ++ ns)))
    (λ e. record {
      some = some_with s ns some;
      few = grind (arith, nat_tests);
      ascending = set_ascends s ns up;
      below = each_from (λ n. n < 2 ^ w) (set_with s ns) (λ n a. f n (both_among n s ns a));
    })
    (λ e. of_fits w (hull (s ++ ns)) (record { whole = list_whole (s ++ ns); fits = list_below (s ++ ns) (2 ^ w) some f }))

-- ---- spans
pub span_holds : (x : Word) (n : ℕ) → Stands x n → Holds (span x) n
span_holds (Listed s) n h = list_holds s n h
span_holds (Strided x) n h = h

pub span_part : (w : ℕ) (x : Word) → Fits w x → IsPart w (span x)
span_part w (Listed s) h = record { whole = list_whole s; fits = list_below s (2 ^ w) h.some (λ n a. each_at (λ n. n < 2 ^ w) s n h.below a) }
span_part w (Strided x) h = h.part

pub span_word : (w : ℕ) (x : Word) (n : ℕ) → Fits w x → Stands x n → HoldsWord w (span x) n
span_word w x n f h = record { holds = span_holds x n h; part = span_part w x f }

-- ---- operations
pub one_stands : (w v : ℕ) (f : ℕ → ℕ) (row : Stretch → Stretch) → ((n : ℕ) (x : Stretch) → HoldsWord w x n → HoldsWord v (row x) (f n))
    → (x : Word) (n : ℕ) → Fits w x → Stands x n → Stands (on_one f row x) (f n)
one_stands w v f row g (Listed s) n fx h = collected_stands [] (map f s) (f n) (among_map f n s h)
one_stands w v f row g (Strided x) n fx h = of_stands (row x) (f n) (g n x (record { holds = h; part = fx.part })).holds

pub one_fits : (w v : ℕ) (f : ℕ → ℕ) (row : Stretch → Stretch) → ((n : ℕ) (x : Stretch) → HoldsWord w x n → HoldsWord v (row x) (f n))
    → ((n : ℕ) → n < 2 ^ w → f n < 2 ^ v) → (x : Word) → Fits w x → Fits v (on_one f row x)
one_fits w v f row g k (Listed s) fx = collected_fits v [] (map f s) tt (some s fx.some) below
  where
    some : (s : List ℕ) → 1 ≤ length s → 1 ≤ length (map f s)
    some [] h = absurd (omega arith)
    some (n ∷ s) h = omega arith

    below : (r : ℕ) → IsAmong r (map f s) → r < 2 ^ v
    below r a = let from = map_among f r s a in subst (λ z. z < 2 ^ v) (sym from.2) (k from.0 (each_at (λ n. n < 2 ^ w) s from.0 fx.below from.1))
one_fits w v f row g k (Strided x) fx = of_fits v (row x) (g x.hi x (record { holds = fx.part.whole; part = fx.part })).part

-- what a row owes of two
abbrev pub IsRow : ℕ → (ℕ → ℕ → ℕ) → (Stretch → Stretch → Stretch) → Type 0
IsRow w f row = (m n : ℕ) (x y : Stretch) → HoldsWord w x m → HoldsWord w y n → HoldsWord w (row x y) (f m n)

pub two_stand : (w : ℕ) (f : ℕ → ℕ → ℕ) (row : Stretch → Stretch → Stretch) → IsRow w f row
    → (x y : Word) (m n : ℕ) → Fits w x → Fits w y → Stands x m → Stands y n → Stands (on_two f row x y) (f m n)
two_stand w f row g (Listed s) (Listed t) m n fx fy h k = collected_stands [] (flat_map (λ x. map (f x) t) s) (f m n) (among_rows f m n s t h k)
two_stand w f row g (Listed s) (Strided y) m n fx fy h k =
    of_stands (row (hull s) y) (f m n) (g m n (hull s) y (span_word w (Listed s) m fx h) (span_word w (Strided y) n fy k)).holds
two_stand w f row g (Strided x) y m n fx fy h k =
    of_stands (row x (span y)) (f m n) (g m n x (span y) (span_word w (Strided x) m fx h) (span_word w y n fy k)).holds

end_held : (w : ℕ) (x : Word) → Fits w x → HoldsWord w (span x) (span x).hi
end_held w x f = let p = span_part w x f in record { holds = p.whole; part = p }

pub two_fit : (w : ℕ) (f : ℕ → ℕ → ℕ) (row : Stretch → Stretch → Stretch) → IsRow w f row → ((m n : ℕ) → m < 2 ^ w → n < 2 ^ w → f m n < 2 ^ w)
    → (x y : Word) → Fits w x → Fits w y → Fits w (on_two f row x y)
two_fit w f row g k (Listed s) (Listed t) fx fy = collected_fits w [] (flat_map (λ x. map (f x) t) s) tt (some s t fx.some fy.some) below
  where
    some : (s t : List ℕ) → 1 ≤ length s → 1 ≤ length t → 1 ≤ length (flat_map (λ x. map (f x) t) s)
    some [] t h k = absurd (omega arith)
    some (x ∷ s) [] h k = absurd (omega arith)
    some (x ∷ s) (y ∷ t) h k = omega arith

    below : (r : ℕ) → IsAmong r (flat_map (λ x. map (f x) t) s) → r < 2 ^ w
    below r a =
        let from = rows_among f r s t a in
        subst (λ z. z < 2 ^ w) (sym from.4) (k from.0 from.1 (each_at (λ n. n < 2 ^ w) s from.0 fx.below from.2) (each_at (λ n. n < 2 ^ w) t from.1 fy.below from.3))
two_fit w f row g k (Listed s) (Strided y) fx fy =
    of_fits w (row (hull s) y) (g (hull s).hi y.hi (hull s) y (end_held w (Listed s) fx) (end_held w (Strided y) fy)).part
two_fit w f row g k (Strided x) y fx fy =
    of_fits w (row x (span y)) (g x.hi (span y).hi x (span y) (end_held w (Strided x) fx) (end_held w y fy)).part

-- ---- comparisons
-- a number of both lies in both classes
pub meeting : (x y : Stretch) (n : ℕ) → Holds x n → Holds y n → IsTrue (may_meet x y)
meeting x y n h k =
    let g = gcd x.step y.step in let is = gcd_is x.step y.step in
    let a = h.above in let b = k.above in
    (divides_told g (apart x.lo y.lo)).1 (from_number (dvd_trans g is.0 h.class) (dvd_trans g is.1 k.class) a b)
  where
    from_number : gcd x.step y.step ∣ n - x.lo → gcd x.step y.step ∣ n - y.lo → x.lo ≤ n → y.lo ≤ n → gcd x.step y.step ∣ apart x.lo y.lo
    from_number p q a b =
        let e : apart (n - x.lo) (n - y.lo) ≡ apart x.lo y.lo = omega arith in
        subst (λ z. gcd x.step y.step ∣ z) e (apart_from (gcd x.step y.step) 0 (n - x.lo) (n - y.lo) zero-le zero-le (subst (λ z. gcd x.step y.step ∣ z) (omega arith) p) (subst (λ z. gcd x.step y.step ∣ z) (omega arith) q))

ranges_may : (k : WordComparison) (w m n : ℕ) (x y : Stretch) → IsWidth w → HoldsWord w x m → HoldsWord w y n
    → IsTrue (can_be (compared_ranges k w (range x) (range y)) (cmp_of k w m n))
ranges_may k w m n x y width h j =
    let p = h.holds in let q = j.holds in
    (compared_exact k w (range x) (range y) width (h.part.whole.above, h.part.fits) (j.part.whole.above, j.part.fits) (cmp_of k w m n)).1
    (m, n, (p.above, p.below), (q.above, q.below), refl)

equal_may : (w m n : ℕ) (x y : Stretch) → HoldsWord w x m → HoldsWord w y n → (b : Bool) → b ≡ (m == n)
    → IsTrue (can_be (compared_ranges Eq w (range x) (range y)) b) → IsTrue (can_be (equal_stretches w x y) b)
equal_may w m n x y h j false e t = t
equal_may w m n x y h j true e t =
    let same : n ≡ m = grind (arith, nat_tests) in
    and_both _ (may_meet x y) t (meeting x y m h.holds (subst (Holds y) same j.holds))

turned_may : (w : ℕ) (x y : Stretch) (b : Bool) → IsTrue (can_be (equal_stretches w x y) b) → IsTrue (can_be (compared_stretches Ne w x y) (not b))
turned_may w x y true t = t
turned_may w x y false t = t

pub stretches_may : (k : WordComparison) (w m n : ℕ) (x y : Stretch) → IsWidth w → HoldsWord w x m → HoldsWord w y n
    → IsTrue (can_be (compared_stretches k w x y) (cmp_of k w m n))
stretches_may Eq w m n x y width h j = equal_may w m n x y h j (m == n) refl (ranges_may Eq w m n x y width h j)
stretches_may Ne w m n x y width h j = turned_may w x y (m == n) (equal_may w m n x y h j (m == n) refl (ranges_may Eq w m n x y width h j))
stretches_may LtU w m n x y width h j = ranges_may LtU w m n x y width h j
stretches_may LeU w m n x y width h j = ranges_may LeU w m n x y width h j
stretches_may LtS w m n x y width h j = ranges_may LtS w m n x y width h j
stretches_may LeS w m n x y width h j = ranges_may LeS w m n x y width h j

pub compared_may : (k : WordComparison) (w m n : ℕ) (x y : Word) → IsWidth w → Fits w x → Fits w y → Stands x m → Stands y n
    → IsTrue (can_be (compared k w x y) (cmp_of k w m n))
compared_may k w m n (Listed s) (Listed t) width fx fy h j = at_truth (cmp_of k w m n) refl
  where
    at_truth : (b : Bool) → b ≡ cmp_of k w m n → IsTrue (can_be (compared k w (Listed s) (Listed t)) b)
    at_truth true e = some_pair_at (outcome k w true) m n s t h j (outcome_itself k w m n true e)
    at_truth false e = some_pair_at (outcome k w false) m n s t h j (outcome_itself k w m n false e)
compared_may k w m n (Listed s) (Strided y) width fx fy h j =
    stretches_may k w m n (hull s) y width (span_word w (Listed s) m fx h) (span_word w (Strided y) n fy j)
compared_may k w m n (Strided x) y width fx fy h j =
    stretches_may k w m n x (span y) width (span_word w (Strided x) m fx h) (span_word w y n fy j)
