-- What calls of the code ask, and what they give, of words.
use Rattle.std.proofs.Common.{◌≡◌, ℕ, ◌+◌, ◌-◌, ◌*◌, ◌/◌, ◌<◌, ◌≤◌, ◌^◌, min, max, false, List, [], ◌∷◌, ◌++◌, map, length, get_or, refl, sym, ap, ap₂, ◌∙◌, arith, IsTrue, subst, pow_pos}
use Rattle.std.specs.Prelude.{is_none, nat_le, ◌||◌}
use Rattle.std.specs.List.{flat_map}
use Rattle.std.proofs.Math.Nat.{dvd-zero, div-mul_cancel}
use Rattle.std.proofs.lemmas.Bool.Decides.{nat_tests}
use Rattle.word_operations.specs.declared.kinds.WordComparison.{WordComparison}
use Rattle.word_operations.specs.declared.kinds.BinaryOperation.{BinaryOperation}
use Rattle.word_operations.specs.Op2.{op2_of}
use Rattle.word_operations.specs.Width.{IsWidth}
use Rattle.word_operations.proofs.Fits.{op2_of_fits}
use Rattle.base_trait.specs.Lists.{Each, IsAmong}
use Rattle.base_trait.proofs.Lists.{among_either, each_at}
use Rattle.base_trait.proofs.Tests.{from_either}
use Rattle.base_kset.specs.Instance.{rows_among}
use Rattle.base_kset.specs.Meaning.{compared as set_compared}
use Rattle.base_kset.specs.Sets.{images, items_or_none, products, set_of, set_with, union}
use Rattle.base_strides.specs.Changes.{IsChange, changed_stretch, width_after, width_before}
use Rattle.base_strides.specs.Gcd.{gcd, gcd_is}
use Rattle.base_strides.specs.Held.{span_part}
use Rattle.base_strides.specs.Joins.{hull_part}
use Rattle.base_strides.specs.Meaning.{Fits, span, on_one, on_two, of_stretch, compared, join_of, grown, widened}
use Rattle.base_strides.specs.Rows.{op1_row, op2_row, sext_row, trunc_row}
use Rattle.base_strides.specs.Sound.{IsPart, HoldsWord, row_sound, op1_sound, sext_row_sound, trunc_sound}
use Rattle.base_strides.specs.Steps.{set_chosen, other_chosen, room_chosen, set_few, map_few}
use Rattle.base_strides.specs.Stretch.{apart, common_step, one, hull, hull_of, hull_with, hull_more, list_whole, list_below}
use Rattle.base_strides.specs.Views.{set_part, word_of}
use Rattle.base_strides.specs.Words.{Word, Listed, Strided, IsEnds}
use Rattle.base_strides.specs.declared.changes.Change.{Change}
use Rattle.base_strides.specs.declared.changes.Change.TheVariants.{Operation, Sign, Cut}
use Rattle.base_strides.specs.declared.stretch.Stretch.{Stretch}

-- ---- sets

pub items_below : (w : ℕ) (x : Word) → Fits w x → Each (λ n. n < 2 ^ w) (items_or_none (set_part x))
items_below w (Listed s) h = h.below
items_below w (Strided x) h = tt

pub items_some : (w : ℕ) (x : Word) → Fits w x → is_none (set_part x) ≡ false → 1 ≤ length (items_or_none (set_part x))
items_some w (Listed s) h e = h.some
items_some w (Strided x) h e = cc

pub each_first : (P : ℕ → Type 0) (xs : List ℕ) → 1 ≤ length xs → Each P xs → P (get_or xs 0 0)
each_first P [] h e = absurd (omega arith)
each_first P (x ∷ xs) h e = e.0

-- ---- spans
pub part_ends : (w : ℕ) (x : Stretch) → IsPart w x → IsEnds w x
part_ends w x p = (p.whole.above, p.fits)

pub span_ends : (w : ℕ) (x : Word) → Fits w x → IsEnds w (span x)
span_ends w x h = part_ends w (span x) (span_part w x h)

end_held : (w : ℕ) (x : Stretch) → IsPart w x → HoldsWord w x x.hi
end_held w x p = record { holds = p.whole; part = p }

-- ---- operations on one word, and casts
pub change_ends : (c : Change) (x : Word) → IsChange c → Fits (width_before c) x → IsEnds (width_after c) (changed_stretch c (span x))
change_ends (Operation op w) x k f = part_ends w (op1_row op w (span x)) (op1_sound op w (span x).hi (span x) (end_held w (span x) (span_part w x f))).part
change_ends (Sign from to) x k f =
    part_ends to (sext_row from to (span x)) (sext_row_sound from to (span x).hi (span x) k (end_held from (span x) (span_part from x f))).part
change_ends (Cut from to) x k f = part_ends to (trunc_row to (span x)) (trunc_sound to (span x).hi (span x) (span_part from x f).whole).part

-- of a set, by its numbers: the results are no more
pub one_by_numbers : (w : ℕ) (f : ℕ → ℕ) (row : Stretch → Stretch) (x : Word) → Fits w x → is_none (set_part x) ≡ false
    → word_of (images 16 f (set_part x)) (one 0) ≡ on_one f row x
one_by_numbers w f row (Listed s) h e =
    let added = set_few [] (map f s) in let mapped = map_few f s in let few : length s ≤ 16 = h.few in
    room_chosen (nat_le (length (set_with [] (map f s))) 16) (set_with [] (map f s)) (of_stretch (hull (map f s))) (grind (arith, nat_tests, added, mapped, few))
one_by_numbers w f row (Strided x) h e = cc

-- ---- operations on two words
pub row_ends : (op : BinaryOperation) (w : ℕ) (x y : Word) → IsWidth w → Fits w x → Fits w y → IsEnds w (op2_row op w (span x) (span y))
row_ends op w x y width f g =
    part_ends w (op2_row op w (span x) (span y))
    (row_sound op w (span x).hi (span y).hi (span x) (span y) (record { width = width; left = end_held w (span x) (span_part w x f); right = end_held w (span y) (span_part w y g) })).part

-- of two sets, by their numbers
abbrev pub results_of : (ℕ → ℕ → ℕ) → Word → Word → List ℕ
results_of f x y = flat_map (λ n. map (f n) (items_or_none (set_part y))) (items_or_none (set_part x))

pub by_hull : (f : ℕ → ℕ → ℕ) (row : Stretch → Stretch → Stretch) (x y : Word) → is_none (set_part x) ≡ false → is_none (set_part y) ≡ false
    → IsTrue (is_none (products 16 f (set_part x) (set_part y))) → of_stretch (hull (results_of f x y)) ≡ on_two f row x y
by_hull f row (Listed s) (Listed t) h k e =
    let all = flat_map (λ n. map (f n) t) s in
    other_chosen (nat_le (length (set_of all)) 16) (set_of all) (of_stretch (hull all)) e
by_hull f row (Listed s) (Strided y) h k e = cc
by_hull f row (Strided x) y h k e = cc

-- ---- results of two sets
results_below : (op : BinaryOperation) (w : ℕ) (x y : Word) → IsWidth w → Fits w x → Fits w y → (r : ℕ) → IsAmong r (results_of (op2_of op w) x y) → r < 2 ^ w
results_below op w x y width f g r a =
    let from = rows_among (op2_of op w) r (items_or_none (set_part x)) (items_or_none (set_part y)) a in
    subst (λ z. z < 2 ^ w) (sym from.4) (op2_of_fits op w from.0 from.1 width
    (each_at (λ n. n < 2 ^ w) (items_or_none (set_part x)) from.0 (items_below w x f) from.2)
    (each_at (λ n. n < 2 ^ w) (items_or_none (set_part y)) from.1 (items_below w y g) from.3))

list_ends : (w : ℕ) (ns : List ℕ) → ((n : ℕ) → IsAmong n ns → n < 2 ^ w) → IsEnds w (hull ns)
list_ends w [] f = (omega arith, pow_pos w)
list_ends w (n ∷ ns) f = ((list_whole (n ∷ ns)).above, list_below (n ∷ ns) (2 ^ w) (omega arith) f)

pub results_ends : (op : BinaryOperation) (w : ℕ) (x y : Word) → IsWidth w → Fits w x → Fits w y → IsEnds w (hull (results_of (op2_of op w) x y))
results_ends op w x y width f g = list_ends w _ (results_below op w x y width f g)

-- ---- hulls that begin with the first number once more
gcd_none : gcd 0 0 ≡ 0
gcd_none = let whole = div-mul_cancel 0 ((gcd_is 0 0).2 0 (dvd-zero 0) (dvd-zero 0)) in omega (arith, whole)

common_none : (n : ℕ) → common_step (one n) (one n) ≡ 0
common_none n = let none : apart n n ≡ 0 = omega arith in ap₂ gcd gcd_none none ∙ gcd_none

abbrev made : ℕ → ℕ → ℕ → Stretch
made lo step hi = record { lo = lo; step = step; hi = hi }

one_again : (n : ℕ) → hull_of (one n) (one n) ≡ one n
one_again n =
    let low : min n n ≡ n = omega arith in
    let high : min n n + (max n n - min n n) / 0 * 0 ≡ n = omega arith in
    ap (λ s. made (min n n) s (min n n + (max n n - min n n) / s * s)) (common_none n) ∙ ap₂ (λ a b. made a 0 b) low high

pub hull_from_first : (f : ℕ → ℕ → ℕ) (xs ys : List ℕ) → 1 ≤ length xs → 1 ≤ length ys
    → hull_with (one (f (get_or xs 0 0) (get_or ys 0 0))) (flat_map (λ n. map (f n) ys) xs) ≡ hull (flat_map (λ n. map (f n) ys) xs)
hull_from_first f [] ys h k = absurd (omega arith)
hull_from_first f (x ∷ xs) [] h k = absurd (omega arith)
hull_from_first f (x ∷ xs) (y ∷ ys) h k = ap (λ z. hull_with z (map (f x) ys ++ flat_map (λ n. map (f n) (y ∷ ys)) xs)) (one_again (f x y))

-- ---- comparisons

pub compared_sets : (k : WordComparison) (w : ℕ) (x y : Word) → is_none (set_part x) ≡ false → is_none (set_part y) ≡ false
    → set_compared k w (set_part x) (set_part y) ≡ compared k w x y
compared_sets k w (Listed s) (Listed t) h j = refl
compared_sets k w (Listed s) (Strided y) h j = cc
compared_sets k w (Strided x) y h j = cc

-- ---- joins
-- the hull of two sets
abbrev pub union_hull : Word → Word → Stretch
union_hull x y = hull_with (span x) (items_or_none (set_part y))

pub union_ends : (w : ℕ) (x y : Word) → Fits w x → Fits w y → is_none (set_part x) ≡ false → is_none (set_part y) ≡ false → IsEnds w (union_hull x y)
union_ends w (Listed []) (Listed t) f g h k = let some = f.some in absurd (omega (arith, some))
union_ends w (Listed (n ∷ s)) (Listed t) f g h k = subst (IsEnds w) (hull_more n s t) (list_ends w ((n ∷ s) ++ t) below)
  where
    below : (m : ℕ) → IsAmong m ((n ∷ s) ++ t) → m < 2 ^ w
    below m a = from_either (λ b. each_at (λ i. i < 2 ^ w) (n ∷ s) m f.below b) (λ b. each_at (λ i. i < 2 ^ w) t m g.below b) (among_either m (n ∷ s) t a)
union_ends w (Listed s) (Strided y) f g h k = cc
union_ends w (Strided x) y f g h k = cc

pub join_by_hull : (w : ℕ) (x y : Word) → Fits w x → is_none (set_part x) ≡ false → is_none (set_part y) ≡ false
    → IsTrue (is_none (union 16 (set_part x) (set_part y))) → of_stretch (union_hull x y) ≡ join_of x y
join_by_hull w (Listed []) (Listed t) f h k e = let some = f.some in absurd (omega (arith, some))
join_by_hull w (Listed (n ∷ s)) (Listed t) f h k e =
    ap (λ z. of_stretch z) (sym (hull_more n s t))
    ∙ other_chosen (nat_le (length (set_with (n ∷ s) t)) 16) (set_with (n ∷ s) t) (of_stretch (hull ((n ∷ s) ++ t))) e
join_by_hull w (Listed s) (Strided y) f h k e = cc
join_by_hull w (Strided x) y f h k e = cc

pub join_ends : (w : ℕ) (x y : Word) → Fits w x → Fits w y → IsEnds w (hull_of (span x) (span y))
join_ends w x y f g = part_ends w (hull_of (span x) (span y)) (hull_part w (span x) (span y) (span_part w x f) (span_part w y g))

-- ---- widening
module _ (stops : List ℕ) (w : ℕ) where
  pub grown_by_set : (x y : Word) → is_none (set_part x) ≡ false → is_none (set_part y) ≡ false → is_none (union 16 (set_part x) (set_part y)) ≡ false
      → word_of (union 16 (set_part x) (set_part y)) (one 0) ≡ grown stops w x y
  grown_by_set (Listed s) (Listed t) h k e = set_chosen (nat_le (length (set_with s t)) 16) (set_with s t) (Strided (widened stops w (hull s) (hull t))) e
  grown_by_set (Listed s) (Strided y) h k e = cc
  grown_by_set (Strided x) y h k e = cc

  pub grown_by_ends : (x y : Word) → is_none (set_part x) ≡ false → is_none (set_part y) ≡ false → IsTrue (is_none (union 16 (set_part x) (set_part y)))
      → Strided (widened stops w (span x) (span y)) ≡ grown stops w x y
  grown_by_ends (Listed s) (Listed t) h k e = other_chosen (nat_le (length (set_with s t)) 16) (set_with s t) (Strided (widened stops w (hull s) (hull t))) e
  grown_by_ends (Listed s) (Strided y) h k e = cc
  grown_by_ends (Strided x) y h k e = cc

  pub grown_by_spans : (x y : Word) → IsTrue (is_none (set_part x) || is_none (set_part y)) → Strided (widened stops w (span x) (span y)) ≡ grown stops w x y
  grown_by_spans (Listed s) (Listed t) h = cc
  grown_by_spans (Listed s) (Strided y) h = refl
  grown_by_spans (Strided x) y h = refl
