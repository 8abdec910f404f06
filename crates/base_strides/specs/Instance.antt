-- The laws of sets and strided intervals.
use Rattle.std.proofs.Common.{◌≡◌, ℕ, ◌-◌, ◌^◌, ◌<◌, ◌≤◌, Bool, true, false, List, [], length, Some, None, refl, subst, arith, IsTrue, ◌↔◌, ◌⊎◌, inl, inr, zero-le, pow_pos}
use Rattle.std.specs.Prelude.{nat_le, if◌then◌else◌}
use Rattle.std.specs.Int.{◌∣◌}
use Rattle.std.proofs.Math.Nat.{one-dvd}
use Rattle.std.proofs.lemmas.Bool.Decides.{nat_tests}
use Rattle.word_operations.specs.declared.kinds.BinaryOperation.{BinaryOperation}
use Rattle.word_operations.specs.Op1.{op1_of}
use Rattle.word_operations.specs.Op2.{op2_of}
use Rattle.word_operations.specs.Casts.{sext_of, trunc_of}
use Rattle.word_operations.specs.Width.{IsWidth}
use Rattle.word_operations.proofs.Fits.{op1_of_fits, op2_of_fits, zext_of_fits, sext_of_fits, trunc_of_fits}
use Rattle.base_trait.specs.Laws.{Laws, WordLaws, IsExtension}
use Rattle.base_trait.specs.Lists.{IsAmong, Each, IsAscending}
use Rattle.base_trait.specs.NoNotes.{no_note_laws}
use Rattle.base_trait.proofs.Lists.{each_from, each_at}
use Rattle.base_kset.specs.Instance.{has_from, word_laws as set_laws}
use Rattle.base_strides.specs.Growth.{widen_stands, widen_absorbs, widen_keeps, widen_fits, widen_falls, rank_height}
use Rattle.base_strides.specs.Held.{of_stands, of_fits, one_stands, one_fits, IsRow, two_stand, two_fit, compared_may}
use Rattle.base_strides.specs.Joins.{absorbs_itself, absorbs_stands, absorbs_on, join_stands, join_fits, join_absorbs, join_least}
use Rattle.base_strides.specs.Meaning.{strides, words, most, Stands, IsLong, is_long, Fits, fits_word, exact_of, may_be, all_of, size_of, members_of}
use Rattle.base_strides.specs.Rows.{op1_row, op2_row, trunc_row, sext_row}
use Rattle.base_strides.specs.Sound.{HoldsWord, part_of, row_sound, op1_sound, trunc_sound, sext_row_sound}
use Rattle.base_strides.specs.Stretch.{stretch, divides, divides_told, more, numbers, numbers_has, numbers_hold, numbers_ascend, steps_length}
use Rattle.base_strides.specs.Words.{Word, Listed, Strided}

-- ---- whether a word fits
fits_told : (w : ℕ) (x : Word) → IsTrue (fits_word w x) ↔ Fits w x
fits_told w (Listed s) = (set_laws most).fits_told tt w (Some s)
fits_told w (Strided x) = (
  λ h. from_test h (divides_told x.step (x.hi - x.lo)).0,
  λ h.
      let a = h.part.whole.above in let b = h.part.fits in let c = h.many in let d = (divides_told x.step (x.hi - x.lo)).1 h.part.whole.class in
      grind (arith, nat_tests),
)
  where
    from_test : IsTrue (is_long w x) → (IsTrue (divides x.step (x.hi - x.lo)) → x.step ∣ x.hi - x.lo) → IsLong w x
    from_test h f = record {
      part = record { whole = record { above = grind (arith, nat_tests); below = omega arith; class = f (grind (arith, nat_tests)) }; fits = grind (arith, nat_tests) };
      many = grind (arith, nat_tests);
    }

-- ---- what is known of a word
exact_below : (w v : ℕ) (x : Word) → IsWidth w → Fits w x → exact_of x ≡ Some v → v < 2 ^ w
exact_below w v (Listed s) width h e = (set_laws most).exact_fits tt w v (Some s) width h e
exact_below w v (Strided x) width h e = cc

exact_alone : (w n v : ℕ) (x : Word) → IsWidth w → Fits w x → exact_of x ≡ Some v → Stands x n → n < 2 ^ w → n ≡ v
exact_alone w n v (Listed s) width f e h below = (set_laws most).exact_only tt [] w n v (Some s) width f e (h, below)
exact_alone w n v (Strided x) width f e h below = cc

may_from : (n : ℕ) (x : Word) → Stands x n → IsTrue (may_be x n)
may_from n (Listed s) h = has_from n s h
may_from n (Strided x) h = let a = h.above in let b = h.below in let c = (divides_told x.step (n - x.lo)).1 h.class in grind (arith, nat_tests)

-- ---- members
members_stand : (n : ℕ) (x : Word) → Stands x n → IsAmong n (all_of x)
members_stand n (Listed s) h = h
members_stand n (Strided x) h = numbers_has x n h

members_ascend : (w : ℕ) (x : Word) → Fits w x → IsAscending (all_of x)
members_ascend w (Listed s) h = h.ascending
members_ascend w (Strided x) h = numbers_ascend x

members_allowed : (w : ℕ) (x : Word) → Fits w x → Each (λ n. (n < 2 ^ w) × IsTrue (may_be x n)) (all_of x)
members_allowed w (Listed s) h = each_from (λ n. (n < 2 ^ w) × IsTrue (may_be (Listed s) n)) s (λ n a. (each_at (λ n. n < 2 ^ w) s n h.below a, has_from n s a))
members_allowed w (Strided x) h =
    each_from (λ n. (n < 2 ^ w) × IsTrue (may_be (Strided x) n)) (numbers x)
    (λ n a. let held = numbers_hold x n h.part.whole.above a in let below = held.below in let fits = h.part.fits in (omega arith, may_from n (Strided x) held))

members_size : (x : Word) → length (all_of x) ≡ size_of x
members_size (Listed s) = refl
members_size (Strided x) = steps_length x.lo x.step (more x)

-- where a list is given, it is this one
given : (b : Bool) (xs ns : List ℕ) → (if b then Some xs else None) ≡ Some ns → xs ≡ ns
given true xs ns e = cc
given false xs ns e = cc

listed : (limit : ℕ) (x : Word) (ns : List ℕ) → members_of x limit ≡ Some ns → all_of x ≡ ns
listed limit x ns e = given (nat_le (size_of x) limit) (all_of x) ns e

none_where : (b : Bool) (size limit : ℕ) (xs : List ℕ) → b ≡ nat_le size limit → ((if b then Some xs else None) ≡ None) ↔ (limit < size)
none_where true size limit xs e = (λ h. cc, λ h. absurd (grind (arith, nat_tests)))
none_where false size limit xs e = (λ h. grind (arith, nat_tests), λ h. refl)

few_where : (b : Bool) (size limit : ℕ) (xs ns : List ℕ) → b ≡ nat_le size limit → length xs ≡ size → (if b then Some xs else None) ≡ Some ns → length ns ≤ limit
few_where true size limit xs ns e long d = let same : xs ≡ ns = cc in subst (λ z. length z ≤ limit) same (grind (arith, nat_tests))
few_where false size limit xs ns e long d = cc

-- ---- constants and ranges
range_held : (w low high n : ℕ) → low ≤ n → n ≤ high → high < 2 ^ w → HoldsWord w (stretch low 1 high) n
range_held w low high n a b f = part_of w low 1 high n a b (one-dvd (n - low)) f

any_held : (w n : ℕ) → n < 2 ^ w → HoldsWord w (stretch 0 1 (2 ^ w - 1)) n
any_held w n h = range_held w 0 (2 ^ w - 1) n zero-le (omega arith) (omega (arith, pow_pos w))

row : (op : BinaryOperation) (w : ℕ) → IsWidth w → IsRow w (op2_of op w) (op2_row op w)
row op w width m n x y h k = row_sound op w m n x y (record { width = width; left = h; right = k })

-- ---- the laws
sides : {P Q S : Type 0} → (P × S) ⊎ (Q × S) → (P ⊎ Q) × S
sides (inl h) = (inl h.0, h.1)
sides (inr h) = (inr h.0, h.1)

extended : (from to : ℕ) (x : Word) → IsExtension from to → Fits from x → Fits to x
extended from to (Listed s) widths h = record { some = h.some; few = h.few; ascending = h.ascending; below = each_from (λ n. n < 2 ^ to) s (λ n a. zext_of_fits from to n widths.order (each_at (λ n. n < 2 ^ from) s n h.below a)) }
extended from to (Strided x) widths h = record { part = record { whole = h.part.whole; fits = zext_of_fits from to x.hi widths.order h.part.fits }; many = h.many }

pub word_laws : WordLaws Word (List ℕ) true words
word_laws = record {
  described_fits = λ valuation w n x h. h.1;
  unseen = λ valuation other w n x e h. h;
  fits_told = λ c w x. fits_told w x;
  constant_sound = λ c valuation w n width h. (inl refl, h);
  any_sound = λ c valuation w n width joins h. (of_stands (stretch 0 1 (2 ^ w - 1)) n (any_held w n h).holds, h);
  range_sound = λ c valuation w low high n width joins a b h. (of_stands (stretch low 1 high) n (range_held w low high n a b h).holds, omega arith);
  op1_sound = λ c valuation op w n x width fx h. (one_stands w w (op1_of op w) (op1_row op w) (λ n x h. op1_sound op w n x h) x n fx h.0, op1_of_fits op w n width h.1);
  op2_sound = λ c valuation op w m n x y width fx fy hx hy. (two_stand w (op2_of op w) (op2_row op w) (row op w width) x y m n fx fy hx.0 hy.0, op2_of_fits op w m n width hx.1 hy.1);
  cmp_sound = λ c valuation k w m n x y width fx fy hx hy. compared_may k w m n x y width fx fy hx.0 hy.0;
  zext_sound = λ c valuation from to n x widths fx h. (h.0, zext_of_fits from to n widths.order h.1);
  sext_sound = λ c valuation from to n x widths fx h. (one_stands from to (sext_of from to) (sext_row from to) (λ n x h. sext_row_sound from to n x widths h) x n fx h.0, sext_of_fits from to n);
  trunc_sound = λ c valuation from to n x widths fx h. (one_stands from to (trunc_of from to) (trunc_row to) (λ n x h. trunc_sound to n x h.holds) x n fx h.0, trunc_of_fits from to n);
  exact_fits = λ c w v x width fx e. exact_below w v x width fx e;
  exact_only = λ c valuation w n v x width fx e h. exact_alone w n v x width fx e h.0 h.1;
  may_sound = λ c valuation w n x width fx h. may_from n x h.0;
  members_hold = λ c valuation w limit n ns x width fx e h. subst (IsAmong n) (listed limit x ns e) (members_stand n x h.0);
  members_ascend = λ c w limit ns x width fx e. subst IsAscending (listed limit x ns e) (members_ascend w x fx);
  members_fit = λ c w limit ns x width fx e. subst (Each (λ n. (n < 2 ^ w) × IsTrue (may_be x n))) (listed limit x ns e) (members_allowed w x fx);
  members_few = λ c w limit ns x width fx e. few_where (nat_le (size_of x) limit) (size_of x) limit (all_of x) ns refl (members_size x) e;
  members_none = λ c w limit x width fx. none_where (nat_le (size_of x) limit) (size_of x) limit (all_of x) refl;
  join_describes = λ c valuation w n x y width may fx fy h. let s = sides h in (join_stands w x y n fx fy s.0, s.1);
  join_absorbs = λ c w x y width may fx fy. join_absorbs w x y fx fy;
  join_least = λ c w x y z width fx fy fz h k. join_least w x y z fx fy fz h k;
  widen_describes = λ c valuation w n old new width may fx fy h. let s = sides h in (widen_stands c w old new n fx fy s.0, s.1);
  widen_absorbs = λ c w old new width may fx fy. widen_absorbs c w old new fx fy;
  absorbs_itself = λ c w x width fx. absorbs_itself x;
  absorbs_on = λ c w x y z width fx fy fz h k. absorbs_on w x y z fy fz h k;
  absorbs_describes = λ c valuation w n old new width fx fy h k. (absorbs_stands w old new n h k.0, k.1);
  widen_keeps = λ c w old new width joins fx fy h. widen_keeps c w old new h;
  widen_falls = λ c w old new width joins fx fy h. widen_falls c w old new fx fy h;
  rank_height = λ c w x width fx. rank_height c w x;
  is_exact = λ c w x width e fx. cc;
  not_both = λ c k w x y width e fx fy h. cc;
  constant_fits = λ c w n width h. record { some = omega arith; few = omega arith; ascending = (zero-le, tt); below = (h, tt) };
  any_fits = λ c w width. of_fits w (stretch 0 1 (2 ^ w - 1)) (any_held w 0 (pow_pos w)).part;
  range_fits = λ c w low high width a h. of_fits w (stretch low 1 high) (range_held w low high high a (omega arith) h).part;
  op1_fits = λ c op w x width fx. one_fits w w (op1_of op w) (op1_row op w) (λ n x h. op1_sound op w n x h) (λ n h. op1_of_fits op w n width h) x fx;
  op2_fits = λ c op w x y width fx fy. two_fit w (op2_of op w) (op2_row op w) (row op w width) (λ m n h k. op2_of_fits op w m n width h k) x y fx fy;
  zext_fits = λ c from to x widths fx. extended from to x widths fx;
  sext_fits = λ c from to x widths fx. one_fits from to (sext_of from to) (sext_row from to) (λ n x h. sext_row_sound from to n x widths h) (λ n h. sext_of_fits from to n) x fx;
  trunc_fits = λ c from to x widths fx. one_fits from to (trunc_of from to) (trunc_row to) (λ n x h. trunc_sound to n x h.holds) (λ n h. trunc_of_fits from to n) x fx;
  join_fits = λ c w x y width fx fy. join_fits w x y fx fy;
  widen_fits = λ c w old new width fx fy. widen_fits c w old new fx fy;
}

pub strides_laws : Laws Word (Unit {0}) (List ℕ) strides
strides_laws = record { words = word_laws; notes = no_note_laws true }
