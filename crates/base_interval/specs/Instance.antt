-- The laws of intervals.
use Rattle.std.proofs.Common.{◌≡◌, ℕ, ◌-◌, ◌^◌, ◌<◌, ◌≤◌, Bool, true, false, List, length, Some, None, refl, ap₂, subst, arith, IsTrue, ◌↔◌, ◌⊎◌, inl, inr, if◌then◌else◌, zero-le, pow_pos}
use Rattle.std.specs.Prelude.{nat_le}
use Rattle.std.specs.List.{range_with_len}
use Rattle.std.proofs.lemmas.Bool.Decides.{nat_tests}
use Rattle.std.proofs.lemmas.List.FromFn.{length-range_with_len}
use Rattle.word_operations.specs.Cmp.{cmp_of}
use Rattle.base_trait.specs.Laws.{Laws, WordLaws}
use Rattle.base_trait.specs.Lists.{IsAmong, IsAscending, Each}
use Rattle.base_trait.specs.NoNotes.{no_note_laws}
use Rattle.base_trait.proofs.Lists.{each_from, ascending_lower, range_ascends, range_has, range_within}
use Rattle.base_trait.proofs.Tests.{at_choice, not_both}
use Rattle.base_interval.specs.Compare.{compared_exact}
use Rattle.base_interval.specs.Join.{join_of}
use Rattle.base_interval.specs.Meaning.{interval, words}
use Rattle.base_interval.specs.Members.{exact_of, members_of, size_of}
use Rattle.base_interval.specs.Operations.{op1_range, op2_range}
use Rattle.base_interval.specs.Range.{Holds, has, Fits, is_of, is_one, from_to, is_within, IsWithin}
use Rattle.base_interval.specs.Results.{op1_holds, op2_holds, holding_fits, held_word, held}
use Rattle.base_interval.specs.Sext.{sext_of, sext_sound}
use Rattle.base_interval.specs.Sound.{all_holds}
use Rattle.base_interval.specs.Trunc.{trunc_of, trunc_sound}
use Rattle.base_interval.specs.Widen.{widened_low, widened_high, widen_of, low_rank, high_rank, rank_of}
use Rattle.base_interval.specs.Zext.{zext_of, zext_sound}
use Rattle.base_interval.specs.declared.range.Range.{Range}

-- ---- tests
pub within_told : (outer inner : Range) → IsTrue (is_within outer inner) ↔ IsWithin outer inner
within_told outer inner = (
  λ h. (grind (arith, nat_tests), grind (arith, nat_tests)),
  λ h. let low = h.0 in let high = h.1 in grind (arith, nat_tests),
)

fits_told : (w : ℕ) (x : Range) → IsTrue (is_of w x) ↔ Fits w x
fits_told w x = (
  λ h. (grind (arith, nat_tests), grind (arith, nat_tests)),
  λ h. let order = h.0 in let below = h.1 in grind (arith, nat_tests),
)

has_from : (n : ℕ) (x : Range) → Holds x n → IsTrue (has x n)
has_from n x h = let low = h.0 in let high = h.1 in grind (arith, nat_tests)

-- ---- hulls
join_holds : (n : ℕ) (x y : Range) → Holds x n ⊎ Holds y n → Holds (join_of x y) n
join_holds n x y (inl h) = let low = h.0 in let high = h.1 in (omega arith, omega arith)
join_holds n x y (inr h) = let low = h.0 in let high = h.1 in (omega arith, omega arith)

join_around : (x y : Range) → IsTrue (is_within (join_of x y) x) × IsTrue (is_within (join_of x y) y)
join_around x y = (
  (within_told (join_of x y) x).1 (omega arith, omega arith),
  (within_told (join_of x y) y).1 (omega arith, omega arith),
)

join_least : (x y z : Range) → IsTrue (is_within z x) → IsTrue (is_within z y) → IsTrue (is_within z (join_of x y))
join_least x y z h k =
    let first = (within_told z x).0 h in let second = (within_told z y).0 k in
    let a = first.0 in let b = first.1 in let c = second.0 in let d = second.1 in
    (within_told z (join_of x y)).1 (omega arith, omega arith)

-- ---- widening
lower : (old new : ℕ) → (widened_low old new ≤ old) × (widened_low old new ≤ new)
lower old new = at_choice (λ z. (z ≤ old) × (z ≤ new)) (nat_le old new) old 0 (λ e. (omega arith, grind (arith, nat_tests))) (λ e. (zero-le, zero-le))

higher : (w old new : ℕ) → old < 2 ^ w → new < 2 ^ w → (old ≤ widened_high w old new) × (new ≤ widened_high w old new) × (widened_high w old new < 2 ^ w)
higher w old new a b =
    at_choice (λ z. (old ≤ z) × (new ≤ z) × (z < 2 ^ w)) (nat_le new old) old (2 ^ w - 1)
    (λ e. (omega arith, grind (arith, nat_tests), a)) (λ e. (omega arith, omega arith, omega arith))

widen_around : (w : ℕ) (old new : Range) → Fits w old → Fits w new → IsWithin (widen_of w old new) old × IsWithin (widen_of w old new) new
widen_around w old new f g =
    let low = lower old.lo new.lo in
    let high = higher w old.hi new.hi f.1 g.1 in
    ((low.0, high.0), (low.1, high.1))

widen_is : (w : ℕ) (old new : Range) → IsTrue (is_within old new) → widen_of w old new ≡ old
widen_is w old new h =
    let within = (within_told old new).0 h in let a = within.0 in let b = within.1 in
    let low : widened_low old.lo new.lo ≡ old.lo = grind (arith, nat_tests) in
    let high : widened_high w old.hi new.hi ≡ old.hi = grind (arith, nat_tests) in
    ap₂ from_to low high

low_falls : (old new : ℕ) → (low_rank (widened_low old new) ≤ low_rank old) × (nat_le old new ≡ false → low_rank (widened_low old new) < low_rank old)
low_falls old new = (grind (arith, nat_tests), λ e. grind (arith, nat_tests))

high_falls : (w old new : ℕ) → new < 2 ^ w → (high_rank w (widened_high w old new) ≤ high_rank w old) × (nat_le new old ≡ false → high_rank w (widened_high w old new) < high_rank w old)
high_falls w old new below = (grind (arith, nat_tests), λ e. grind (arith, nat_tests))

widen_less : (w : ℕ) (old new : Range) → Fits w new → is_within old new ≡ false → rank_of w (widen_of w old new) < rank_of w old
widen_less w old new fits h =
    let low = low_falls old.lo new.lo in
    let high = high_falls w old.hi new.hi fits.1 in
    let a = low.0 in let b = high.0 in
    elim (not_both (nat_le old.lo new.lo) (nat_le new.hi old.hi) h) [
      | inl e ↦ let c = low.1 e in omega arith
      | inr e ↦ let c = high.1 e in omega arith
    ]

rank_low : (w : ℕ) (x : Range) → rank_of w x ≤ 2
rank_low w x = grind (arith, nat_tests)

-- ---- what is known of the numbers
exact_is : (v : ℕ) (x : Range) (b : Bool) → b ≡ is_one x → (if b then Some x.lo else None) ≡ Some v → (x.lo ≡ v) × (x.hi ≡ v)
exact_is v x true e h = let low : x.lo ≡ v = cc in (low, grind (arith, nat_tests))
exact_is v x false e h = cc

exact_one : (v : ℕ) (x : Range) → exact_of x ≡ Some v → (x.lo ≡ v) × (x.hi ≡ v)
exact_one v x h = exact_is v x (is_one x) refl h

-- where a list is given, it is this one
given : (b : Bool) (xs ns : List ℕ) → (if b then Some xs else None) ≡ Some ns → xs ≡ ns
given true xs ns e = cc
given false xs ns e = cc

none_where : (b : Bool) (size limit : ℕ) (xs : List ℕ) → b ≡ nat_le size limit → ((if b then Some xs else None) ≡ None) ↔ (limit < size)
none_where true size limit xs e = (λ h. cc, λ h. absurd (grind (arith, nat_tests)))
none_where false size limit xs e = (λ h. grind (arith, nat_tests), λ h. refl)

few_where : (b : Bool) (size limit : ℕ) (xs ns : List ℕ) → b ≡ nat_le size limit → length xs ≡ size → (if b then Some xs else None) ≡ Some ns → length ns ≤ limit
few_where true size limit xs ns e long d = let same : xs ≡ ns = cc in subst (λ z. length z ≤ limit) same (grind (arith, nat_tests))
few_where false size limit xs ns e long d = cc

abbrev numbers : Range → List ℕ
numbers x = range_with_len x.lo (size_of x)

listed : (limit : ℕ) (x : Range) (ns : List ℕ) → members_of x limit ≡ Some ns → numbers x ≡ ns
listed limit x ns e = given (nat_le (size_of x) limit) (numbers x) ns e

numbers_hold : (n : ℕ) (x : Range) → Holds x n → IsAmong n (numbers x)
numbers_hold n x h = let low = h.0 in let high = h.1 in range_has x.lo (size_of x) n low (omega arith)

numbers_ascend : (x : Range) → IsAscending (numbers x)
numbers_ascend x = ascending_lower x.lo 0 (numbers x) zero-le (range_ascends x.lo (size_of x))

numbers_allowed : (w : ℕ) (x : Range) → Fits w x → Each (λ n. (n < 2 ^ w) × IsTrue (has x n)) (numbers x)
numbers_allowed w x fits =
    let order = fits.0 in let below = fits.1 in
    each_from (λ n. (n < 2 ^ w) × IsTrue (has x n)) (numbers x)
    (λ n a. let r = range_within x.lo (size_of x) n a in let low = r.0 in let high = r.1 in (omega arith, has_from n x (low, omega arith)))

-- ---- the laws
sides : {P Q S : Type 0} → (P × S) ⊎ (Q × S) → (P ⊎ Q) × S
sides (inl h) = (inl h.0, h.1)
sides (inr h) = (inr h.0, h.1)

within_holds : (n : ℕ) (outer inner : Range) → IsWithin outer inner → Holds inner n → Holds outer n
within_holds n outer inner h k = let a = h.0 in let b = h.1 in let c = k.0 in let d = k.1 in (omega arith, omega arith)

widen_holds : (w n : ℕ) (old new : Range) → Fits w old → Fits w new → Holds old n ⊎ Holds new n → Holds (widen_of w old new) n
widen_holds w n old new f g (inl h) = within_holds n (widen_of w old new) old (widen_around w old new f g).0 h
widen_holds w n old new f g (inr h) = within_holds n (widen_of w old new) new (widen_around w old new f g).1 h

-- the low end is held, so a result is one of the width
low_held : (x : Range) → x.lo ≤ x.hi → Holds x x.lo
low_held x h = (omega arith, h)

absorbs_on : (x y z : Range) → IsTrue (is_within x y) → IsTrue (is_within y z) → IsTrue (is_within x z)
absorbs_on x y z h k = grind (arith, nat_tests)

pub word_laws : WordLaws Range (Unit {0}) true words
word_laws = record {
  described_fits = λ valuation w n x h. h.1;
  unseen = λ valuation other w n x e h. h;
  fits_told = λ c w x. fits_told w x;
  constant_sound = λ c valuation w n width h. ((omega arith, omega arith), h);
  any_sound = λ c valuation w n width joins h. held_word w n (from_to 0 (2 ^ w - 1)) (all_holds w n h);
  range_sound = λ c valuation w low high n width joins a b h. ((a, b), omega arith);
  op1_sound = λ c valuation op w n x width fx h. held_word w _ (op1_range op w x) (op1_holds op w n x width fx h.0);
  op2_sound = λ c valuation op w m n x y width fx fy hx hy. held_word w _ (op2_range op w x y) (op2_holds op w m n x y (held w m n x y width fx fy hx.0 hy.0));
  cmp_sound = λ c valuation k w m n x y width fx fy hx hy. (compared_exact k w x y width fx fy (cmp_of k w m n)).1 (m, n, hx.0, hy.0, refl);
  zext_sound = λ c valuation from to n x widths fx h. held_word to _ (zext_of x) (zext_sound from to n x widths fx h.0);
  sext_sound = λ c valuation from to n x widths fx h. held_word to _ (sext_of from to x) (sext_sound from to n x widths fx h.0);
  trunc_sound = λ c valuation from to n x widths fx h. held_word to _ (trunc_of to x) (trunc_sound from to n x widths fx h.0);
  exact_fits = λ c w v x width fx e. subst (λ z. z < 2 ^ w) (exact_one v x e).1 fx.1;
  exact_only = λ c valuation w n v x width fx e h. let a = exact_one v x e in let b = a.0 in let d = a.1 in let low = h.0.0 in let high = h.0.1 in omega arith;
  may_sound = λ c valuation w n x width fx h. has_from n x h.0;
  members_hold = λ c valuation w limit n ns x width fx e h. subst (IsAmong n) (listed limit x ns e) (numbers_hold n x h.0);
  members_ascend = λ c w limit ns x width fx e. subst IsAscending (listed limit x ns e) (numbers_ascend x);
  members_fit = λ c w limit ns x width fx e. subst (Each (λ n. (n < 2 ^ w) × IsTrue (has x n))) (listed limit x ns e) (numbers_allowed w x fx);
  members_few = λ c w limit ns x width fx e. few_where (nat_le (size_of x) limit) (size_of x) limit (numbers x) ns refl (length-range_with_len x.lo (size_of x)) e;
  members_none = λ c w limit x width fx. none_where (nat_le (size_of x) limit) (size_of x) limit (numbers x) refl;
  join_describes = λ c valuation w n x y width may fx fy h. let s = sides h in (join_holds n x y s.0, s.1);
  join_absorbs = λ c w x y width may fx fy. join_around x y;
  join_least = λ c w x y z width fx fy fz h k. join_least x y z h k;
  widen_describes = λ c valuation w n old new width may fx fy h. let s = sides h in (widen_holds w n old new fx fy s.0, s.1);
  widen_absorbs = λ c w old new width may fx fy. let around = widen_around w old new fx fy in ((within_told (widen_of w old new) old).1 around.0, (within_told (widen_of w old new) new).1 around.1);
  absorbs_itself = λ c w x width fx. (within_told x x).1 (omega arith, omega arith);
  absorbs_on = λ c w x y z width fx fy fz h k. absorbs_on x y z h k;
  absorbs_describes = λ c valuation w n old new width fx fy h k. (within_holds n old new ((within_told old new).0 h) k.0, k.1);
  widen_keeps = λ c w old new width joins fx fy h. widen_is w old new h;
  widen_falls = λ c w old new width joins fx fy h. widen_less w old new fy h;
  rank_height = λ c w x width fx. rank_low w x;
  is_exact = λ c w x width e fx. cc;
  not_both = λ c k w x y width e fx fy h. cc;
  constant_fits = λ c w n width h. (omega arith, h);
  any_fits = λ c w width. holding_fits w 0 (from_to 0 (2 ^ w - 1)) (all_holds w 0 (pow_pos w));
  range_fits = λ c w low high width a h. (a, h);
  op1_fits = λ c op w x width fx. holding_fits w _ (op1_range op w x) (op1_holds op w x.lo x width fx (low_held x fx.0));
  op2_fits = λ c op w x y width fx fy. holding_fits w _ (op2_range op w x y) (op2_holds op w x.lo y.lo x y (held w x.lo y.lo x y width fx fy (low_held x fx.0) (low_held y fy.0)));
  zext_fits = λ c from to x widths fx. holding_fits to _ (zext_of x) (zext_sound from to x.lo x widths fx (low_held x fx.0));
  sext_fits = λ c from to x widths fx. holding_fits to _ (sext_of from to x) (sext_sound from to x.lo x widths fx (low_held x fx.0));
  trunc_fits = λ c from to x widths fx. holding_fits to _ (trunc_of to x) (trunc_sound from to x.lo x widths fx (low_held x fx.0));
  join_fits = λ c w x y width fx fy. let a = fx.0 in let b = fx.1 in let d = fy.0 in let e = fy.1 in (omega arith, omega arith);
  widen_fits = λ c w old new width fx fy. let around = widen_around w old new fx fy in let low = around.0.0 in let high = around.0.1 in let order = fx.0 in (omega arith, (higher w old.hi new.hi fx.1 fy.1).2);
}

pub interval_laws : Laws Range (Unit {0}) (Unit {0}) interval
interval_laws = record { words = word_laws; notes = no_note_laws true }
