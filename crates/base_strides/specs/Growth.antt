-- Widening: it holds both sides, and each change lowers the rank.
use Rattle.std.proofs.Common.{◌≡◌, ℕ, zero, suc, ◌+◌, ◌-◌, ◌*◌, ◌/◌, ◌^◌, ◌<◌, ◌≤◌, Bool, true, false, List, [], ◌∷◌, length, refl, sym, ap, subst, arith, IsTrue, ◌⊎◌, inl, inr, zero-le, pow_pos, div-mul-le_self, mul-le-mul_right}
use Rattle.std.specs.Prelude.{◌==◌, ◌&&◌, nat_lt, nat_le}
use Rattle.std.specs.Int.{◌∣◌}
use Rattle.std.specs.List.{list_all}
use Rattle.std.proofs.Math.Nat.{dvd_trans, dvd-zero, dvd-add, dvd-sub, dvd-mul_left, le_of_dvd, lt-div-mul-add, div-zero}
use Rattle.std.proofs.lemmas.Bool.Decides.{nat_tests}
use Rattle.std.proofs.lemmas.List.{length-take}
use Rattle.base_trait.specs.Lists.{IsAmong, IsAscending}
use Rattle.base_trait.proofs.Lists.{ascending_shorter}
use Rattle.base_trait.proofs.Tests.{at_choice}
use Rattle.base_kset.specs.Sets.{placed, set_with, has}
use Rattle.base_kset.specs.Instance.{placed_only, placed_ascends, set_keeps, set_has, set_only, set_ascends}
use Rattle.base_kset.specs.Adding.{set_grows}
use Rattle.base_trait.proofs.Lists.{each_at, each_from}
use Rattle.base_strides.specs.Halvings.{halvings_le, halvings_less, divisor_half}
use Rattle.base_strides.specs.Held.{span_holds, span_part}
use Rattle.base_strides.specs.Joins.{more_le, set_absorbs, absorbs_itself, absorbs_stands}
use Rattle.base_strides.specs.Meaning.{most, Stands, IsLong, Fits, span, absorbs_word, heeded, stop_below, stop_above, widened_low, widened_high, widened, grown, widen_of, halvings, low_stops, high_stops, stretch_rank, rank_of}
use Rattle.base_strides.specs.Sound.{IsPart}
use Rattle.base_strides.specs.Stops.{below_is, above_is, many_le, fewer, fewer_by}
use Rattle.base_strides.specs.Stretch.{Holds, IsWithin, is_within, within_told, within_holds, stretch_holds, stretch_whole, stretch_below, common_step, common_left, common_right, common_apart, apart_left, apart_right, hull, list_holds, more, numbers, numbers_has, numbers_ascend, steps_length}
use Rattle.base_strides.specs.Words.{Word, Listed, Strided}
use Rattle.base_strides.specs.declared.stretch.Stretch.{Stretch}

same_divides : (d n : ℕ) → d ∣ n - n
same_divides d n = let none : n - n ≡ 0 = omega arith in subst (λ z. d ∣ z) (sym none) (dvd-zero d)

-- ---- stretches
module _ (ts : List ℕ) (w : ℕ) (u v : Stretch) where
  abbrev step : ℕ
  step = common_step u v

  abbrev low : ℕ
  low = widened_low ts step u.lo v.lo

  abbrev high : ℕ
  high = widened_high w ts u.hi v.hi

  abbrev wide : Stretch
  wide = widened ts w u v

  record IsLow (z : ℕ) : Type 0 where
    first : z ≤ u.lo
    second : z ≤ v.lo
    first_class : step ∣ u.lo - z
    second_class : step ∣ v.lo - z

  low_is : IsLow low
  low_is =
      at_choice IsLow (nat_le u.lo v.lo) u.lo (v.lo - (v.lo - stop_below ts v.lo) / step * step)
      (λ e. record { first = omega arith; second = grind (arith, nat_tests); first_class = same_divides step u.lo; second_class = apart_right step u.lo v.lo (common_apart u v) })
      (λ e.
      let k = (v.lo - stop_below ts v.lo) / step in
      let part = div-mul-le_self (v.lo - stop_below ts v.lo) step in
      let less : v.lo < u.lo = grind (arith, nat_tests) in
      let sum : u.lo - v.lo + k * step ≡ u.lo - (v.lo - k * step) = omega (arith, part, less) in
      let rest : k * step ≡ v.lo - (v.lo - k * step) = omega (arith, part) in
      record {
        first = omega (arith, less);
        second = omega arith;
        first_class = subst (λ z. step ∣ z) sum (dvd-add step (apart_left step u.lo v.lo (common_apart u v)) (dvd-mul_left step k));
        second_class = subst (λ z. step ∣ z) rest (dvd-mul_left step k);
      })

  module _ (p : IsPart w u) (q : IsPart w v) where
    high_is : (u.hi ≤ high) × (v.hi ≤ high) × (high < 2 ^ w)
    high_is =
        let a = p.fits in let b = q.fits in
        let stop = above_is (2 ^ w - 1) ts v.hi (omega arith) in
        let most = stop.most in let within = stop.within in
        at_choice (λ z. (u.hi ≤ z) × (v.hi ≤ z) × (z < 2 ^ w)) (nat_le v.hi u.hi) u.hi (stop_above (2 ^ w - 1) ts v.hi)
        (λ e. (omega arith, grind (arith, nat_tests), a))
        (λ e. (grind (arith, nat_tests, most), most, omega (arith, within, a)))

    pub widened_left : IsWithin wide u
    widened_left =
        let l = low_is in let h = high_is in
        let a = l.first in let b = p.whole.above in
        let sum : u.lo - low + (u.hi - u.lo) ≡ u.hi - low = omega (arith, a, b) in
        let top = stretch_holds low step high u.hi (omega (arith, a, b)) h.0 (subst (λ z. step ∣ z) sum (dvd-add step l.first_class (dvd_trans step (common_left u v) p.whole.class))) in
        record { low = a; high = top.below; steps = common_left u v; class = l.first_class }

    pub widened_right : IsWithin wide v
    widened_right =
        let l = low_is in let h = high_is in
        let a = l.second in let b = q.whole.above in
        let sum : v.lo - low + (v.hi - v.lo) ≡ v.hi - low = omega (arith, a, b) in
        let top = stretch_holds low step high v.hi (omega (arith, a, b)) h.1 (subst (λ z. step ∣ z) sum (dvd-add step l.second_class (dvd_trans step (common_right u v) q.whole.class))) in
        record { low = a; high = top.below; steps = common_right u v; class = l.second_class }

    pub widened_part : IsPart w wide
    widened_part =
        let l = low_is in let h = high_is in
        let a = l.first in let b = p.whole.above in let c = h.0 in let d = h.2 in
        let below = stretch_below low step high (omega (arith, a, b, c)) in
        record { whole = stretch_whole low step high; fits = omega (arith, below, d) }

    -- ---- stops that are passed
    module _ (some : 1 ≤ step) where
      low_passed : v.lo < u.lo → low < stop_below ts v.lo + step
      low_passed less =
          let least = (below_is ts v.lo).least in
          let near = lt-div-mul-add {a = v.lo - stop_below ts v.lo} {b = step} some in
          at_choice (λ z. z < stop_below ts v.lo + step) (nat_le u.lo v.lo) u.lo (v.lo - (v.lo - stop_below ts v.lo) / step * step)
          (λ e. absurd (grind (arith, nat_tests))) (λ e. omega (arith, least, near))

      high_passed : u.hi < v.hi → stop_above (2 ^ w - 1) ts v.hi < wide.hi + step
      high_passed less =
          at_choice (λ z. stop_above (2 ^ w - 1) ts v.hi < low + (z - low) / step * step + step) (nat_le v.hi u.hi) u.hi (stop_above (2 ^ w - 1) ts v.hi)
          (λ e. absurd (grind (arith, nat_tests)))
          (λ e. let near = lt-div-mul-add {a = stop_above (2 ^ w - 1) ts v.hi - low} {b = step} some in omega (arith, near))

    -- ---- ranks, where the step stays
    module _ (some : 1 ≤ step) (same : step ≡ u.step) where
      low_fewer : low_stops ts wide ≤ low_stops ts u
      low_fewer =
          let l = low_is in let a = l.first in
          fewer (λ t. nat_le (t + step) low) (λ t. nat_le (t + u.step) u.lo) (λ t h. grind (arith, nat_tests, a, same)) (0 ∷ ts)

      high_fewer : high_stops ts w wide ≤ high_stops ts w u
      high_fewer =
          let h = widened_left in let a = h.high in
          fewer (λ t. nat_le (wide.hi + step) t) (λ t. nat_le (u.hi + u.step) t) (λ t h. grind (arith, nat_tests, a, same)) ((2 ^ w - 1) ∷ ts)

      low_falls : v.lo < u.lo → low_stops ts wide < low_stops ts u
      low_falls less =
          let l = low_is in let a = l.first in
          let stop = below_is ts v.lo in let least = stop.least in
          let far = le_of_dvd {m = step} {n = u.lo - v.lo} (omega (arith, less)) (apart_left step u.lo v.lo (common_apart u v)) in
          let near = low_passed some less in
          fewer_by (λ t. nat_le (t + step) low) (λ t. nat_le (t + u.step) u.lo) (λ t h. grind (arith, nat_tests, a, same)) (stop_below ts v.lo)
          (grind (arith, nat_tests, near)) (grind (arith, nat_tests, least, far, same, less)) (0 ∷ ts) stop.listed

      high_falls : u.hi < v.hi → high_stops ts w wide < high_stops ts w u
      high_falls less =
          let h = widened_left in let a = h.high in
          let l = low_is in let first = l.first in let second = l.second in
          let fits = q.fits in
          let order = p.whole.above in let order_too = q.whole.above in
          let stop = above_is (2 ^ w - 1) ts v.hi (omega (arith, fits)) in let most = stop.most in
          let left : step ∣ u.hi - low = sum_divides step low u.lo u.hi first order l.first_class (dvd_trans step (common_left u v) p.whole.class) in
          let right : step ∣ v.hi - low = sum_divides step low v.lo v.hi second order_too l.second_class (dvd_trans step (common_right u v) q.whole.class) in
          let rest : v.hi - low - (u.hi - low) ≡ v.hi - u.hi = omega (arith, first, order) in
          let far = le_of_dvd {m = step} {n = v.hi - u.hi} (omega (arith, less)) (subst (λ z. step ∣ z) rest (dvd-sub step right left)) in
          let near = high_passed some less in
          fewer_by (λ t. nat_le (wide.hi + step) t) (λ t. nat_le (u.hi + u.step) t) (λ t h. grind (arith, nat_tests, a, same)) (stop_above (2 ^ w - 1) ts v.hi)
          (grind (arith, nat_tests, near)) (grind (arith, nat_tests, most, far, same, less)) ((2 ^ w - 1) ∷ ts) stop.listed
        where
          sum_divides : (d a b c : ℕ) → a ≤ b → b ≤ c → d ∣ b - a → d ∣ c - b → d ∣ c - a
          sum_divides d a b c l m h k = let sum : b - a + (c - b) ≡ c - a = omega arith in subst (λ z. d ∣ z) sum (dvd-add d h k)

      -- an end is passed
      passed : is_within u v ≡ false → (v.lo < u.lo) ⊎ (u.hi < v.hi)
      passed e = at_tests (nat_le u.lo v.lo) (nat_le v.hi u.hi) refl refl
        where
          at_tests : (a b : Bool) → a ≡ nat_le u.lo v.lo → b ≡ nat_le v.hi u.hi → (v.lo < u.lo) ⊎ (u.hi < v.hi)
          at_tests false b f g = inl (grind (arith, nat_tests))
          at_tests true false f g = inr (grind (arith, nat_tests))
          at_tests true true f g =
              let within : IsTrue (is_within u v) = (within_told u v).1 (record {
                low = grind (arith, nat_tests);
                high = grind (arith, nat_tests);
                steps = subst (λ z. z ∣ v.step) same (common_right u v);
                class = subst (λ z. z ∣ v.lo - u.lo) same (apart_right step u.lo v.lo (common_apart u v));
              }) in
              cc

      stops_fall : is_within u v ≡ false → low_stops ts wide + high_stops ts w wide < low_stops ts u + high_stops ts w u
      stops_fall e = by_end (passed e)
        where
          by_end : (v.lo < u.lo) ⊎ (u.hi < v.hi) → low_stops ts wide + high_stops ts w wide < low_stops ts u + high_stops ts w u
          by_end (inl h) = let a = low_falls h in let b = high_fewer in omega (arith, a, b)
          by_end (inr h) = let a = low_fewer in let b = high_falls h in omega (arith, a, b)

-- ---- bounds of ranks
pub rank_low : (ts : List ℕ) (w : ℕ) (x : Stretch) → length ts ≤ 64 → stretch_rank ts w x ≤ 131 * w + 130
rank_low ts w x few =
    let a = halvings_le w x.step in
    let b = many_le (λ t. nat_le (t + x.step) x.lo) (0 ∷ ts) in
    let c = many_le (λ t. nat_le (x.hi + x.step) t) ((2 ^ w - 1) ∷ ts) in
    omega (arith, a, b, c, few)

-- a stretch of several numbers has a step, which is a word
pub step_some : (x : Stretch) → most ≤ more x → 1 ≤ x.step
step_some x h = at_step x.step h
  where
    at_step : (s : ℕ) → 16 ≤ (x.hi - x.lo) / s → 1 ≤ s
    at_step zero h = let none = div-zero (x.hi - x.lo) in absurd (omega (arith, none, h))
    at_step (suc s) h = omega arith

pub step_fits : (w : ℕ) (x : Stretch) → IsLong w x → x.step < 2 ^ w
step_fits w x h =
    let fits = h.part.fits in
    let part = div-mul-le_self (x.hi - x.lo) x.step in
    let less : 16 * x.step ≤ more x * x.step = mul-le-mul_right x.step h.many in
    omega (arith, fits, part, less, pow_pos w)

pub stretch_falls : (ts : List ℕ) (w : ℕ) (u v : Stretch) → length ts ≤ 64 → IsLong w u → IsPart w v → is_within u v ≡ false
    → stretch_rank ts w (widened ts w u v) < stretch_rank ts w u
stretch_falls ts w u v few h q e = at_step (common_step u v == u.step) refl
  where
    at_step : (b : Bool) → b ≡ (common_step u v == u.step) → stretch_rank ts w (widened ts w u v) < stretch_rank ts w u
    at_step true f =
        let same : common_step u v ≡ u.step = grind (arith, nat_tests) in
        let some = step_some u h.many in
        let less = stops_fall ts w u v h.part q (omega (arith, same, some)) same e in
        let turns : halvings w (common_step u v) ≡ halvings w u.step = ap (halvings w) same in
        omega (arith, less, turns)
    at_step false f =
        let half = divisor_half (common_step u v) u.step (step_some u h.many) (common_left u v) (λ same. let told : IsTrue (common_step u v == u.step) = grind (arith, nat_tests, same) in cc) in
        let less = halvings_less w (common_step u v) u.step half.0 half.1 (step_fits w u h) in
        let b = many_le (λ t. nat_le (t + common_step u v) (widened ts w u v).lo) (0 ∷ ts) in
        let c = many_le (λ t. nat_le ((widened ts w u v).hi + common_step u v) t) ((2 ^ w - 1) ∷ ts) in
        omega (arith, less, b, c, few)

-- ---- sets that grow
missing : (s t : List ℕ) → list_all (has s) t ≡ false → (n : ℕ) × IsAmong n t × (has s n ≡ false)
missing s [] h = cc
missing s (n ∷ t) h = at_first (has s n) refl h (missing s t)
  where
    at_first : (b : Bool) → b ≡ has s n → (b && list_all (has s) t) ≡ false → (list_all (has s) t ≡ false → (k : ℕ) × IsAmong k t × (has s k ≡ false))
        → (k : ℕ) × IsAmong k (n ∷ t) × (has s k ≡ false)
    at_first false e h f = (n, inl refl, sym e)
    at_first true e h f = let r = f h in (r.0, inr r.1, r.2)

placed_new : (x : ℕ) (s : List ℕ) → has s x ≡ false → length (placed x s) ≡ length s + 1
placed_new x [] h = omega arith
placed_new x (y ∷ s) h = at_first (y == x) refl h (placed_new x s)
  where
    at_first : (b : Bool) → b ≡ (y == x) → has (y ∷ s) x ≡ false → (has s x ≡ false → length (placed x s) ≡ length s + 1) → length (placed x (y ∷ s)) ≡ length (y ∷ s) + 1
    at_first true e h f = let there : IsTrue (has (y ∷ s) x) = or_first e in cc
      where
        or_first : true ≡ (y == x) → IsTrue (has (y ∷ s) x)
        or_first e = cc
    at_first false e h f =
        let later : has s x ≡ false = cc in
        let rest = f later in
        at_choice (λ l. length l ≡ length (y ∷ s) + 1) (nat_lt x y) (x ∷ y ∷ s) _ (λ g. omega arith)
        (λ g. at_choice (λ l. length l ≡ length (y ∷ s) + 1) (x == y) (y ∷ s) (y ∷ placed x s) (λ k. absurd (grind (arith, nat_tests))) (λ k. omega (arith, rest)))

pub set_longer : (s t : List ℕ) → IsAscending s → list_all (has s) t ≡ false → length s < length (set_with s t)
set_longer s t up h =
    let lacks = missing s t h in
    let n = lacks.0 in
    let size = placed_new n s lacks.2 in
    let shorter = ascending_shorter 0 0 (placed n s) (set_with s t) (placed_ascends 0 n s up zero-le) (set_ascends s t up) (λ k a. found n lacks.1 k (placed_only n k s a)) in
    omega (arith, size, shorter)
  where
    found : (n : ℕ) → IsAmong n t → (k : ℕ) → (k ≡ n) ⊎ IsAmong k s → IsAmong k (set_with s t)
    found n a k (inl e) = subst (λ z. IsAmong z (set_with s t)) (sym e) (set_has n s t a)
    found n a k (inr b) = set_keeps k s t b

-- ---- words
pub few_heeded : (c : List ℕ) → length (heeded c) ≤ 64
few_heeded c = let e = length-take 64 c in omega (arith, e)

grown_stands : (ts : List ℕ) (w : ℕ) (x y : Word) (n : ℕ) → Fits w x → Fits w y → Stands x n ⊎ Stands y n → Stands (grown ts w x y) n
grown_stands ts w (Listed s) (Listed t) n fx fy h =
    at_choice (λ z. Stands z n) (nat_le (length (set_with s t)) most) (Listed (set_with s t)) (Strided (widened ts w (hull s) (hull t)))
    (λ e. among h) (λ e. held h)
  where
    among : IsAmong n s ⊎ IsAmong n t → IsAmong n (set_with s t)
    among (inl a) = set_keeps n s t a
    among (inr a) = set_has n s t a

    held : IsAmong n s ⊎ IsAmong n t → Holds (widened ts w (hull s) (hull t)) n
    held (inl a) = within_holds (widened ts w (hull s) (hull t)) (hull s) n (widened_left ts w (hull s) (hull t) (span_part w (Listed s) fx) (span_part w (Listed t) fy)) (list_holds s n a)
    held (inr a) = within_holds (widened ts w (hull s) (hull t)) (hull t) n (widened_right ts w (hull s) (hull t) (span_part w (Listed s) fx) (span_part w (Listed t) fy)) (list_holds t n a)
grown_stands ts w (Listed s) (Strided y) n fx fy (inl a) = within_holds (widened ts w (hull s) y) (hull s) n (widened_left ts w (hull s) y (span_part w (Listed s) fx) fy.part) (list_holds s n a)
grown_stands ts w (Listed s) (Strided y) n fx fy (inr a) = within_holds (widened ts w (hull s) y) y n (widened_right ts w (hull s) y (span_part w (Listed s) fx) fy.part) a
grown_stands ts w (Strided x) y n fx fy (inl a) = within_holds (widened ts w x (span y)) x n (widened_left ts w x (span y) fx.part (span_part w y fy)) a
grown_stands ts w (Strided x) y n fx fy (inr a) = within_holds (widened ts w x (span y)) (span y) n (widened_right ts w x (span y) fx.part (span_part w y fy)) (span_holds y n a)

grown_absorbs : (ts : List ℕ) (w : ℕ) (x y : Word) → Fits w x → Fits w y → IsTrue (absorbs_word (grown ts w x y) x) × IsTrue (absorbs_word (grown ts w x y) y)
grown_absorbs ts w (Listed s) (Listed t) fx fy =
    at_choice (λ z. IsTrue (absorbs_word z (Listed s)) × IsTrue (absorbs_word z (Listed t))) (nat_le (length (set_with s t)) most) (Listed (set_with s t)) (Strided (widened ts w (hull s) (hull t)))
    (λ e. (set_absorbs (set_with s t) s (λ n a. set_keeps n s t a), set_absorbs (set_with s t) t (λ n a. set_has n s t a)))
    (λ e. (
      (within_told (widened ts w (hull s) (hull t)) (hull s)).1 (widened_left ts w (hull s) (hull t) (span_part w (Listed s) fx) (span_part w (Listed t) fy)),
      (within_told (widened ts w (hull s) (hull t)) (hull t)).1 (widened_right ts w (hull s) (hull t) (span_part w (Listed s) fx) (span_part w (Listed t) fy)),
    ))
grown_absorbs ts w (Listed s) (Strided y) fx fy = (
  (within_told (widened ts w (hull s) y) (hull s)).1 (widened_left ts w (hull s) y (span_part w (Listed s) fx) fy.part),
  (within_told (widened ts w (hull s) y) y).1 (widened_right ts w (hull s) y (span_part w (Listed s) fx) fy.part),
)
grown_absorbs ts w (Strided x) y fx fy = (
  (within_told (widened ts w x (span y)) x).1 (widened_left ts w x (span y) fx.part (span_part w y fy)),
  (within_told (widened ts w x (span y)) (span y)).1 (widened_right ts w x (span y) fx.part (span_part w y fy)),
)

grown_fits : (ts : List ℕ) (w : ℕ) (x y : Word) → Fits w x → Fits w y → Fits w (grown ts w x y)
grown_fits ts w (Listed s) (Listed t) fx fy =
    let r = widened ts w (hull s) (hull t) in
    let grown = set_grows s t in let some = fx.some in
    let size = steps_length r.lo r.step (more r) in
    let held = grown_held in
    let shorter = ascending_shorter 0 0 (set_with s t) (numbers r) (set_ascends s t fx.ascending) (numbers_ascend r) (λ n a. numbers_has r n (held n a)) in
    at_choice (Fits w) (nat_le (length (set_with s t)) most) (Listed (set_with s t)) (Strided r)
    (λ e. record {
      some = omega (arith, grown, some);
      few = grind (arith, nat_tests);
      ascending = set_ascends s t fx.ascending;
      below = each_from (λ n. n < 2 ^ w) (set_with s t) below;
    })
    (λ e. record { part = widened_part ts w (hull s) (hull t) (span_part w (Listed s) fx) (span_part w (Listed t) fy); many = grind (arith, nat_tests, size, shorter) })
  where
    below : (n : ℕ) → IsAmong n (set_with s t) → n < 2 ^ w
    below n a = found (set_only n s t a)
      where
        found : IsAmong n s ⊎ IsAmong n t → n < 2 ^ w
        found (inl b) = each_at (λ n. n < 2 ^ w) s n fx.below b
        found (inr b) = each_at (λ n. n < 2 ^ w) t n fy.below b

    grown_held : (n : ℕ) → IsAmong n (set_with s t) → Holds (widened ts w (hull s) (hull t)) n
    grown_held n a = found (set_only n s t a)
      where
        found : IsAmong n s ⊎ IsAmong n t → Holds (widened ts w (hull s) (hull t)) n
        found (inl b) = within_holds (widened ts w (hull s) (hull t)) (hull s) n (widened_left ts w (hull s) (hull t) (span_part w (Listed s) fx) (span_part w (Listed t) fy)) (list_holds s n b)
        found (inr b) = within_holds (widened ts w (hull s) (hull t)) (hull t) n (widened_right ts w (hull s) (hull t) (span_part w (Listed s) fx) (span_part w (Listed t) fy)) (list_holds t n b)
grown_fits ts w (Listed s) (Strided y) fx fy =
    let p = span_part w (Listed s) fx in
    let fewer = more_le (widened ts w (hull s) y) y fy.part.whole (widened_right ts w (hull s) y p fy.part) in
    let many = fy.many in
    record { part = widened_part ts w (hull s) y p fy.part; many = omega (arith, fewer, many) }
grown_fits ts w (Strided x) y fx fy =
    let q = span_part w y fy in
    let fewer = more_le (widened ts w x (span y)) x fx.part.whole (widened_left ts w x (span y) fx.part q) in
    let many = fx.many in
    record { part = widened_part ts w x (span y) fx.part q; many = omega (arith, fewer, many) }

grown_falls : (ts : List ℕ) (w : ℕ) (x y : Word) → length ts ≤ 64 → Fits w x → Fits w y → absorbs_word x y ≡ false → rank_of ts w (grown ts w x y) < rank_of ts w x
grown_falls ts w (Listed s) (Listed t) few fx fy e =
    let longer = set_longer s t fx.ascending e in
    let low = rank_low ts w (widened ts w (hull s) (hull t)) few in
    let fits = fx.few in
    at_choice (λ z. rank_of ts w z < rank_of ts w (Listed s)) (nat_le (length (set_with s t)) most) (Listed (set_with s t)) (Strided (widened ts w (hull s) (hull t)))
    (λ f. let size : length (set_with s t) ≤ 16 = grind (arith, nat_tests) in omega (arith, longer, fits, size)) (λ f. omega (arith, low))
grown_falls ts w (Listed s) (Strided y) few fx fy e = let low = rank_low ts w (widened ts w (hull s) y) few in omega (arith, low)
grown_falls ts w (Strided x) y few fx fy e = stretch_falls ts w x (span y) few fx (span_part w y fy) e

-- ---- widening
pub widen_stands : (c : List ℕ) (w : ℕ) (x y : Word) (n : ℕ) → Fits w x → Fits w y → Stands x n ⊎ Stands y n → Stands (widen_of c w x y) n
widen_stands c w x y n fx fy h =
    at_choice (λ z. Stands z n) (absorbs_word x y) x (grown (heeded c) w x y) (λ e. found e h) (λ e. grown_stands (heeded c) w x y n fx fy h)
  where
    found : IsTrue (absorbs_word x y) → Stands x n ⊎ Stands y n → Stands x n
    found e (inl k) = k
    found e (inr k) = absorbs_stands w x y n e k

pub widen_absorbs : (c : List ℕ) (w : ℕ) (x y : Word) → Fits w x → Fits w y → IsTrue (absorbs_word (widen_of c w x y) x) × IsTrue (absorbs_word (widen_of c w x y) y)
widen_absorbs c w x y fx fy =
    at_choice (λ z. IsTrue (absorbs_word z x) × IsTrue (absorbs_word z y)) (absorbs_word x y) x (grown (heeded c) w x y)
    (λ e. (absorbs_itself x, e)) (λ e. grown_absorbs (heeded c) w x y fx fy)

pub widen_keeps : (c : List ℕ) (w : ℕ) (x y : Word) → IsTrue (absorbs_word x y) → widen_of c w x y ≡ x
widen_keeps c w x y h = at_choice (λ z. z ≡ x) (absorbs_word x y) x (grown (heeded c) w x y) (λ e. refl) (λ e. cc)

pub widen_fits : (c : List ℕ) (w : ℕ) (x y : Word) → Fits w x → Fits w y → Fits w (widen_of c w x y)
widen_fits c w x y fx fy = at_choice (Fits w) (absorbs_word x y) x (grown (heeded c) w x y) (λ e. fx) (λ e. grown_fits (heeded c) w x y fx fy)

pub widen_falls : (c : List ℕ) (w : ℕ) (x y : Word) → Fits w x → Fits w y → absorbs_word x y ≡ false
    → rank_of (heeded c) w (widen_of c w x y) < rank_of (heeded c) w x
widen_falls c w x y fx fy h =
    at_choice (λ z. rank_of (heeded c) w z < rank_of (heeded c) w x) (absorbs_word x y) x (grown (heeded c) w x y)
    (λ e. cc) (λ e. grown_falls (heeded c) w x y (few_heeded c) fx fy h)

pub rank_height : (c : List ℕ) (w : ℕ) (x : Word) → rank_of (heeded c) w x ≤ 131 * w + 147
rank_height c w (Listed s) = omega arith
rank_height c w (Strided x) = let low = rank_low (heeded c) w x (few_heeded c) in omega (arith, low)
