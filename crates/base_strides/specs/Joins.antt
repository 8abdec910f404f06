-- Absorption and joins.
use Rattle.std.proofs.Common.{ℕ, ◌^◌, ◌<◌, ◌≤◌, List, [], ◌∷◌, ◌++◌, length, arith, min, max, IsTrue, ◌⊎◌, inl, inr}
use Rattle.std.specs.Prelude.{nat_lt, nat_le}
use Rattle.std.specs.List.{list_all}
use Rattle.std.proofs.lemmas.Bool.Decides.{nat_tests}
use Rattle.base_trait.specs.Lists.{IsAmong}
use Rattle.base_trait.proofs.Lists.{among_left, among_right, among_either, each_at, ascending_shorter}
use Rattle.base_trait.proofs.Tests.{at_choice}
use Rattle.base_kset.specs.Sets.{set_with, has}
use Rattle.base_kset.specs.Adding.{set_grows}
use Rattle.base_kset.specs.Instance.{all_from, all_at, has_from, among_from, set_only, set_ascends}
use Rattle.base_strides.specs.Held.{both_among, among_both, of_stands, of_fits, of_within, collected_stands, collected_fits, span_holds, span_part}
use Rattle.base_strides.specs.Meaning.{most, Stands, Fits, of_stretch, collected, span, absorbs_word, join_of}
use Rattle.base_strides.specs.Sound.{IsPart}
use Rattle.base_strides.specs.Stretch.{Holds, IsWhole, IsWithin, within_told, within_holds, within_on, within_itself, hull_of, hull, hull_whole, hull_left, hull_right, hull_least, list_whole, list_holds, list_least, stretch_below, common_step, more, numbers, numbers_has, numbers_hold, numbers_ascend, steps_length}
use Rattle.base_strides.specs.Words.{Word, Listed, Strided}
use Rattle.base_strides.specs.declared.stretch.Stretch.{Stretch}

pub set_absorbs : (s t : List ℕ) → ((n : ℕ) → IsAmong n t → IsAmong n s) → IsTrue (list_all (has s) t)
set_absorbs s t f = all_from (has s) t (λ n h. has_from n s (f n h))

pub set_absorbed : (s t : List ℕ) → IsTrue (list_all (has s) t) → (n : ℕ) → IsAmong n t → IsAmong n s
set_absorbed s t e n h = among_from n s (all_at (has s) n t e h)

pub absorbs_itself : (x : Word) → IsTrue (absorbs_word x x)
absorbs_itself (Listed s) = set_absorbs s s (λ n h. h)
absorbs_itself (Strided x) = (within_told x x).1 (within_itself x)

pub absorbs_stands : (w : ℕ) (x y : Word) (n : ℕ) → IsTrue (absorbs_word x y) → Stands y n → Stands x n
absorbs_stands w (Listed s) (Listed t) n e h = set_absorbed s t e n h
absorbs_stands w (Listed s) (Strided y) n e h = cc
absorbs_stands w (Strided x) y n e h = within_holds x (span y) n ((within_told x (span y)).0 e) (span_holds y n h)

-- what one word absorbs, a stretch that holds the one absorbs
through : (w : ℕ) (x : Stretch) (y z : Word) → Fits w y → Fits w z → IsWithin x (span y) → IsTrue (absorbs_word y z) → IsWithin x (span z)
through w x (Listed s) (Listed t) fy fz h e = list_least t x fz.some (λ n a. within_holds x (hull s) n h (list_holds s n (set_absorbed s t e n a)))
through w x (Listed s) (Strided z) fy fz h e = cc
through w x (Strided y) z fy fz h e = within_on x y (span z) h ((within_told y (span z)).0 e)

pub absorbs_on : (w : ℕ) (x y z : Word) → Fits w y → Fits w z → IsTrue (absorbs_word x y) → IsTrue (absorbs_word y z) → IsTrue (absorbs_word x z)
absorbs_on w (Listed s) (Listed t) (Listed u) fy fz e f = set_absorbs s u (λ n a. set_absorbed s t e n (set_absorbed t u f n a))
absorbs_on w (Listed s) (Listed t) (Strided z) fy fz e f = cc
absorbs_on w (Listed s) (Strided y) z fy fz e f = cc
absorbs_on w (Strided x) y z fy fz e f = (within_told x (span z)).1 (through w x y z fy fz ((within_told x (span y)).0 e) f)

-- ---- joins
pub join_stands : (w : ℕ) (x y : Word) (n : ℕ) → Fits w x → Fits w y → Stands x n ⊎ Stands y n → Stands (join_of x y) n
join_stands w (Listed s) (Listed t) n fx fy (inl h) = collected_stands s t n (among_left n s t h)
join_stands w (Listed s) (Listed t) n fx fy (inr h) = collected_stands s t n (among_right n s t h)
join_stands w (Listed s) (Strided y) n fx fy (inl h) = of_stands (hull_of (hull s) y) n (within_holds (hull_of (hull s) y) (hull s) n (hull_left (hull s) y (list_whole s)) (list_holds s n h))
join_stands w (Listed s) (Strided y) n fx fy (inr h) = of_stands (hull_of (hull s) y) n (within_holds (hull_of (hull s) y) y n (hull_right (hull s) y fy.part.whole) h)
join_stands w (Strided x) y n fx fy (inl h) = of_stands (hull_of x (span y)) n (within_holds (hull_of x (span y)) x n (hull_left x (span y) fx.part.whole) h)
join_stands w (Strided x) y n fx fy (inr h) = of_stands (hull_of x (span y)) n (within_holds (hull_of x (span y)) (span y) n (hull_right x (span y) (span_part w y fy).whole) (span_holds y n h))

pub hull_part : (w : ℕ) (x y : Stretch) → IsPart w x → IsPart w y → IsPart w (hull_of x y)
hull_part w x y p q =
    let a = p.fits in let b = q.fits in let c = p.whole.above in let d = q.whole.above in
    let below = stretch_below (min x.lo y.lo) (common_step x y) (max x.hi y.hi) (omega arith) in
    record { whole = hull_whole x y; fits = omega (arith, below) }

pub join_fits : (w : ℕ) (x y : Word) → Fits w x → Fits w y → Fits w (join_of x y)
join_fits w (Listed s) (Listed t) fx fy = collected_fits w s t fx.ascending (let some = fx.some in longer s t some) below
  where
    longer : (s t : List ℕ) → 1 ≤ length s → 1 ≤ length (s ++ t)
    longer [] t h = absurd (omega arith)
    longer (n ∷ s) t h = omega arith

    below : (n : ℕ) → IsAmong n (s ++ t) → n < 2 ^ w
    below n a = found (among_either n s t a)
      where
        found : IsAmong n s ⊎ IsAmong n t → n < 2 ^ w
        found (inl b) = each_at (λ n. n < 2 ^ w) s n fx.below b
        found (inr b) = each_at (λ n. n < 2 ^ w) t n fy.below b
join_fits w (Listed s) (Strided y) fx fy = of_fits w (hull_of (hull s) y) (hull_part w (hull s) y (span_part w (Listed s) fx) fy.part)
join_fits w (Strided x) y fx fy = of_fits w (hull_of x (span y)) (hull_part w x (span y) fx.part (span_part w y fy))

-- ---- what a join absorbs
-- a stretch within another has no more numbers
pub more_le : (x y : Stretch) → IsWhole y → IsWithin x y → more y ≤ more x
more_le x y w h =
    let size = steps_length x.lo x.step (more x) in let size_too = steps_length y.lo y.step (more y) in
    let shorter = ascending_shorter 0 0 (numbers y) (numbers x) (numbers_ascend y) (numbers_ascend x) (λ n a. numbers_has x n (within_holds x y n h (numbers_hold y n w.above a))) in
    omega (arith, size, size_too, shorter)

of_absorbs : (w : ℕ) (x : Stretch) (y : Word) → Fits w y → IsWithin x (span y) → IsTrue (absorbs_word (of_stretch x) y)
of_absorbs w x (Listed t) fy h =
    at_choice (λ z. IsTrue (absorbs_word z (Listed t))) (nat_lt (more x) most) (Listed (numbers x)) (Strided x)
    (λ e. set_absorbs (numbers x) t (λ n a. numbers_has x n (within_holds x (hull t) n h (list_holds t n a))))
    (λ e. (within_told x (hull t)).1 h)
of_absorbs w x (Strided y) fy h =
    at_choice (λ z. IsTrue (absorbs_word z (Strided y))) (nat_lt (more x) most) (Listed (numbers x)) (Strided x)
    (λ e. let fewer = more_le x y fy.part.whole h in let many = fy.many in absurd (grind (arith, nat_tests, fewer, many)))
    (λ e. (within_told x y).1 h)

-- a word of numbers absorbs each set of some of them
collected_absorbs : (w : ℕ) (s t u : List ℕ) → Fits w (Listed u) → ((n : ℕ) → IsAmong n u → IsAmong n (s ++ t)) → IsTrue (absorbs_word (collected s t) (Listed u))
collected_absorbs w s t u fu f =
    at_choice (λ z. IsTrue (absorbs_word z (Listed u))) (nat_le (length (set_with s t)) most) (Listed (set_with s t)) (of_stretch (hull (s ++ t)))
    (λ e. set_absorbs (set_with s t) u (λ n a. among_both n s t (f n a)))
    (λ e. of_absorbs w (hull (s ++ t)) (Listed u) fu (list_least u (hull (s ++ t)) fu.some (λ n a. list_holds (s ++ t) n (f n a))))

pub join_absorbs : (w : ℕ) (x y : Word) → Fits w x → Fits w y → IsTrue (absorbs_word (join_of x y) x) × IsTrue (absorbs_word (join_of x y) y)
join_absorbs w (Listed s) (Listed t) fx fy = (collected_absorbs w s t s fx (λ n a. among_left n s t a), collected_absorbs w s t t fy (λ n a. among_right n s t a))
join_absorbs w (Listed s) (Strided y) fx fy = (
  of_absorbs w (hull_of (hull s) y) (Listed s) fx (hull_left (hull s) y (list_whole s)),
  of_absorbs w (hull_of (hull s) y) (Strided y) fy (hull_right (hull s) y fy.part.whole),
)
join_absorbs w (Strided x) y fx fy = (
  of_absorbs w (hull_of x (span y)) (Strided x) fx (hull_left x (span y) fx.part.whole),
  of_absorbs w (hull_of x (span y)) y fy (hull_right x (span y) (span_part w y fy).whole),
)

-- ---- the join is the least
within_join : (w : ℕ) (z : Stretch) (x y : Word) → Fits w x → Fits w y → IsWithin z (span x) → IsWithin z (span y) → IsWithin z (span (join_of x y))
within_join w z (Listed s) (Listed t) fx fy h k =
    at_choice (λ v. IsWithin z (span v)) (nat_le (length (set_with s t)) most) (Listed (set_with s t)) (of_stretch (hull (s ++ t)))
    (λ e. let grown = set_grows s t in let some = fx.some in list_least (set_with s t) z (omega (arith, grown)) (λ n a. held n (both_among n s t a)))
    (λ e. of_within z (hull (s ++ t)) (list_whole (s ++ t)) (list_least (s ++ t) z (longer s t fx.some) held))
  where
    longer : (s t : List ℕ) → 1 ≤ length s → 1 ≤ length (s ++ t)
    longer [] t h = absurd (omega arith)
    longer (n ∷ s) t h = omega arith

    held : (n : ℕ) → IsAmong n (s ++ t) → Holds z n
    held n a = found (among_either n s t a)
      where
        found : IsAmong n s ⊎ IsAmong n t → Holds z n
        found (inl b) = within_holds z (hull s) n h (list_holds s n b)
        found (inr b) = within_holds z (hull t) n k (list_holds t n b)
within_join w z (Listed s) (Strided y) fx fy h k = of_within z (hull_of (hull s) y) (hull_whole (hull s) y) (hull_least (hull s) y z (list_whole s) fy.part.whole h k)
within_join w z (Strided x) y fx fy h k = of_within z (hull_of x (span y)) (hull_whole x (span y)) (hull_least x (span y) z fx.part.whole (span_part w y fy).whole h k)

pub join_least : (w : ℕ) (x y z : Word) → Fits w x → Fits w y → Fits w z → IsTrue (absorbs_word z x) → IsTrue (absorbs_word z y) → IsTrue (absorbs_word z (join_of x y))
join_least w (Listed s) (Listed t) (Listed u) fx fy fz h k =
    let shorter = ascending_shorter 0 0 (set_with s t) u (set_ascends s t fx.ascending) fz.ascending within in
    let few = fz.few in
    at_choice (λ v. IsTrue (absorbs_word (Listed u) v)) (nat_le (length (set_with s t)) most) (Listed (set_with s t)) (of_stretch (hull (s ++ t)))
    (λ e. set_absorbs u (set_with s t) within) (λ e. absurd (grind (arith, nat_tests, shorter, few)))
  where
    within : (n : ℕ) → IsAmong n (set_with s t) → IsAmong n u
    within n a = found (set_only n s t a)
      where
        found : IsAmong n s ⊎ IsAmong n t → IsAmong n u
        found (inl b) = set_absorbed u s h n b
        found (inr b) = set_absorbed u t k n b
join_least w (Listed s) (Strided y) (Listed u) fx fy fz h k = cc
join_least w (Strided x) y (Listed u) fx fy fz h k = cc
join_least w x y (Strided z) fx fy fz h k =
    (within_told z (span (join_of x y))).1 (within_join w z x y fx fy ((within_told z (span x)).0 h) ((within_told z (span y)).0 k))
