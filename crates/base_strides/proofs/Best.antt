-- Results are the least.
use Rattle.std.proofs.Common.{◌≡◌, ℕ, ◌+◌, ◌-◌, ◌*◌, ◌≤◌, List, [], ◌∷◌, map, length, sym, subst, arith, IsTrue, inl, inr, div-mul-le_self, mul-le-mul_right}
use Rattle.std.specs.Prelude.{nat_lt, nat_le}
use Rattle.std.specs.Int.{◌∣◌}
use Rattle.std.specs.List.{flat_map}
use Rattle.std.proofs.Math.Nat.{dvd_refl, dvd-zero, dvd-sub}
use Rattle.std.proofs.lemmas.Bool.Decides.{nat_tests}
use Rattle.base_trait.specs.Lists.{IsAmong}
use Rattle.base_trait.proofs.Lists.{ascending_shorter, among_map, map_among}
use Rattle.base_trait.proofs.Tests.{at_choice}
use Rattle.base_kset.specs.Instance.{set_ascends, among_rows, rows_among}
use Rattle.base_kset.specs.Sets.{set_with}
use Rattle.base_strides.specs.Best.{LeastResults, ExactAbsorption, LeastJoins}
use Rattle.base_strides.specs.Held.{collected_stands, both_among}
use Rattle.base_strides.specs.Joins.{set_absorbs, absorbs_stands, join_stands, join_least}
use Rattle.base_strides.specs.Meaning.{most, Stands, Fits, of_stretch, collected, absorbs_word, join_of}
use Rattle.base_strides.specs.Stretch.{Holds, IsWhole, IsWithin, within_told, within_holds, hull, list_whole, list_least, more, numbers, numbers_hold, numbers_ascend, steps_length}
use Rattle.base_strides.specs.Words.{Word, Listed, Strided}
use Rattle.base_strides.specs.declared.stretch.Stretch.{Stretch}

-- what becomes of a stretch has no other numbers
of_only : (x : Stretch) (n : ℕ) → x.lo ≤ x.hi → Stands (of_stretch x) n → Holds x n
of_only x n order h =
    at_choice (λ z. Stands z n → Holds x n) (nat_lt (more x) most) (Listed (numbers x)) (Strided x) (λ e a. numbers_hold x n order a) (λ e k. k) h

-- the word of some numbers is the least that has them
collected_least : (w : ℕ) (ns : List ℕ) (z : Word) → 1 ≤ length ns → Fits w z → ((n : ℕ) → IsAmong n ns → Stands z n)
    → (n : ℕ) → Stands (collected [] ns) n → Stands z n
collected_least w ns (Listed u) some f has n h =
    let shorter = ascending_shorter 0 0 (set_with [] ns) u (set_ascends [] ns tt) f.ascending (λ m a. has m (both_among m [] ns a)) in
    let few = f.few in
    at_choice (λ v. Stands v n → IsAmong n u) (nat_le (length (set_with [] ns)) most) (Listed (set_with [] ns)) (of_stretch (hull ns))
    (λ e a. has n (both_among n [] ns a)) (λ e k. absurd (grind (arith, nat_tests, shorter, few))) h
collected_least w ns (Strided z) some f has n h =
    at_choice (λ v. Stands v n → Holds z n) (nat_le (length (set_with [] ns)) most) (Listed (set_with [] ns)) (of_stretch (hull ns))
    (λ e a. has n (both_among n [] ns a))
    (λ e k. within_holds z (hull ns) n (list_least ns z some has) (of_only (hull ns) n (list_whole ns).above k)) h

mapped_some : (f : ℕ → ℕ) (s : List ℕ) → 1 ≤ length s → 1 ≤ length (map f s)
mapped_some f [] h = absurd (omega arith)
mapped_some f (n ∷ s) h = omega arith

rows_some : (f : ℕ → ℕ → ℕ) (s t : List ℕ) → 1 ≤ length s → 1 ≤ length t → 1 ≤ length (flat_map (λ x. map (f x) t) s)
rows_some f [] t h k = absurd (omega arith)
rows_some f (x ∷ s) [] h k = absurd (omega arith)
rows_some f (x ∷ s) (y ∷ t) h k = omega arith

pub least_results : LeastResults
least_results = (
  λ w f row s some. record {
    has = λ n h. subst (Stands (collected [] (map f s))) (sym h.2) (collected_stands [] (map f s) (f h.0) (among_map f h.0 s h.1));
    least = λ z fz has n h. collected_least w (map f s) z (mapped_some f s some) fz (λ m a. has m (map_among f m s a)) n h;
  },
  λ w f row s t some others. record {
    has = λ n h. subst (Stands (collected [] (flat_map (λ x. map (f x) t) s))) (sym h.4) (collected_stands [] (flat_map (λ x. map (f x) t) s) (f h.0 h.1) (among_rows f h.0 h.1 s t h.2 h.3));
    least = λ z fz has n h. collected_least w (flat_map (λ x. map (f x) t) s) z (rows_some f s t some others) fz (λ m a. has m (rows_among f m s t a)) n h;
  },
)

-- ---- absorption
-- a stretch that has the numbers of another, which are several, is around it
within_from : (x y : Stretch) → IsWhole y → 1 ≤ more y → ((n : ℕ) → Holds y n → Holds x n) → IsWithin x y
within_from x y whole several has =
    let order = whole.above in
    let none : y.lo - y.lo ≡ 0 = omega arith in
    let first = has y.lo (record { above = omega arith; below = order; class = subst (λ z. y.step ∣ z) (sym none) (dvd-zero y.step) }) in
    let last = has y.hi whole in
    let one_step : y.step ≤ y.hi - y.lo = step_le (more y) several (div-mul-le_self (y.hi - y.lo) y.step) in
    let rest : y.lo + y.step - y.lo ≡ y.step = omega arith in
    let second = has (y.lo + y.step) (record { above = omega arith; below = omega (arith, one_step, order); class = subst (λ z. y.step ∣ z) (sym rest) (dvd_refl y.step) }) in
    let low = first.above in
    let apart : y.lo + y.step - x.lo - (y.lo - x.lo) ≡ y.step = omega (arith, low) in
    record {
      low = low;
      high = last.below;
      steps = subst (λ z. x.step ∣ z) apart (dvd-sub x.step second.class first.class);
      class = first.class;
    }
  where
    step_le : (q : ℕ) → 1 ≤ q → q * y.step ≤ y.hi - y.lo → y.step ≤ y.hi - y.lo
    step_le q h l = let least : 1 * y.step ≤ q * y.step = mul-le-mul_right y.step h in omega (arith, least, l)

absorbs_from : (w : ℕ) (x y : Word) → Fits w x → Fits w y → ((n : ℕ) → Stands y n → Stands x n) → IsTrue (absorbs_word x y)
absorbs_from w (Listed s) (Listed t) f g has = set_absorbs s t has
absorbs_from w (Listed s) (Strided y) f g has =
    let size = steps_length y.lo y.step (more y) in
    let shorter = ascending_shorter 0 0 (numbers y) s (numbers_ascend y) f.ascending (λ n a. has n (numbers_hold y n g.part.whole.above a)) in
    let few : length s ≤ 16 = f.few in let many : 16 ≤ more y = g.many in
    absurd (omega (arith, size, shorter, few, many))
absorbs_from w (Strided x) (Listed t) f g has = (within_told x (hull t)).1 (list_least t x g.some has)
absorbs_from w (Strided x) (Strided y) f g has =
    let many : 16 ≤ more y = g.many in (within_told x y).1 (within_from x y g.part.whole (omega (arith, many)) has)

pub exact_absorption : ExactAbsorption
exact_absorption w x y f g = (λ h n k. absorbs_stands w x y n h k, λ has. absorbs_from w x y f g has)

pub least_joins : LeastJoins
least_joins w x y f g = record {
  has = λ n h. join_stands w x y n f g h;
  least = λ z k has n h. absorbs_stands w z (join_of x y) n
      (join_least w x y z f g k (absorbs_from w z x k f (λ m a. has m (inl a))) (absorbs_from w z y k g (λ m a. has m (inr a)))) h;
}
