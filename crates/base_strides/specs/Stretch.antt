-- Strided intervals: the numbers of one class between two ends.
use Rattle.std.proofs.Common.{◌≡◌, ℕ, zero, suc, ◌+◌, ◌-◌, ◌*◌, ◌/◌, ◌<◌, ◌≤◌, min, max, List, [], ◌∷◌, ◌++◌, length, refl, sym, ap, ◌∙◌, subst, arith, Bool, true, false, IsTrue, ◌↔◌, inl, inr, div-mul-le_self, zero-le, mul-le-mul_right}
use Rattle.std.specs.Prelude.{◌==◌, ◌&&◌, nat_le, ◌%◌}
use Rattle.std.specs.Int.{◌∣◌}
use Rattle.std.proofs.Math.Nat.{dvd_refl, dvd-zero, dvd_trans, dvd-add, dvd-sub, dvd-mul_left, dvd-mul_right, div-mul_cancel, mod-eq-zero_of_dvd, dvd_of_mod-eq-zero, div-zero}
use Rattle.std.proofs.lemmas.Bool.Decides.{nat_tests}
use Rattle.std.proofs.lemmas.Nat.{le-div}
use Rattle.base_trait.specs.Lists.{IsAmong, IsAscendingFrom}
use Rattle.base_strides.specs.Gcd.{gcd, gcd_is}
use Rattle.base_strides.specs.declared.stretch.Stretch.{Stretch}

-- the number lies between the ends, and is a multiple of the step from the low one
pub record Holds (x : Stretch) (n : ℕ) : Type 0 where
  pub above : x.lo ≤ n
  pub below : n ≤ x.hi
  pub class : x.step ∣ n - x.lo

-- the high end is one of the numbers
abbrev pub IsWhole : Stretch → Type 0
IsWhole x = Holds x x.hi

-- the numbers of the class of low modulo step, from low to high at most
abbrev pub stretch : ℕ → ℕ → ℕ → Stretch
stretch low step high = record { lo = low; step = step; hi = low + (high - low) / step * step }

-- one number alone
abbrev pub one : ℕ → Stretch
one n = record { lo = n; step = 0; hi = n }

-- the numbers of the inner one are numbers of the outer one
pub record IsWithin (outer inner : Stretch) : Type 0 where
  pub low : outer.lo ≤ inner.lo
  pub high : inner.hi ≤ outer.hi
  pub steps : outer.step ∣ inner.step
  pub class : outer.step ∣ inner.lo - outer.lo

-- whether d divides n
abbrev pub divides : ℕ → ℕ → Bool
divides d n = n % d == 0

-- whether the inner one is within the outer one
abbrev pub is_within : Stretch → Stretch → Bool
is_within outer inner =
    nat_le outer.lo inner.lo && (nat_le inner.hi outer.hi && (divides outer.step inner.step && divides outer.step (inner.lo - outer.lo)))

-- whether the stretch has the number
abbrev pub has_number : Stretch → ℕ → Bool
has_number x n = nat_le x.lo n && (nat_le n x.hi && divides x.step (n - x.lo))

-- by how much two numbers differ
abbrev pub apart : ℕ → ℕ → ℕ
apart m n = m - n + (n - m)

-- the step of a stretch that holds both
abbrev pub common_step : Stretch → Stretch → ℕ
common_step x y = gcd (gcd x.step y.step) (apart x.lo y.lo)

-- the least stretch that holds both
abbrev pub hull_of : Stretch → Stretch → Stretch
hull_of x y = stretch (min x.lo y.lo) (common_step x y) (max x.hi y.hi)

-- the least stretch that holds the first, and each number of the list
abbrev pub hull_with : Stretch → List ℕ → Stretch
hull_with x [] = x
hull_with x (n ∷ ns) = hull_with (hull_of x (one n)) ns

abbrev pub hull : List ℕ → Stretch
hull [] = one 0
hull (n ∷ ns) = hull_with (one n) ns

-- how many numbers there are after the first
abbrev pub more : Stretch → ℕ
more x = (x.hi - x.lo) / x.step

abbrev pub by_steps : ℕ → ℕ → ℕ → List ℕ
by_steps low step zero = low ∷ []
by_steps low step (suc n) = low ∷ by_steps (low + step) step n

-- all numbers, ascending
abbrev pub numbers : Stretch → List ℕ
numbers x = by_steps x.lo x.step (more x)

-- ---- tests
pub divides_told : (d n : ℕ) → IsTrue (divides d n) ↔ (d ∣ n)
divides_told d n = (λ h. dvd_of_mod-eq-zero d (grind (arith, nat_tests)), λ h. let e = mod-eq-zero_of_dvd d h in grind (arith, nat_tests))

-- ---- the numbers of a stretch
quotient_le : (d m n : ℕ) → m ≤ n → m / d ≤ n / d
quotient_le zero m n h = rw (div-zero m, div-zero n) (omega arith)
quotient_le (suc d) m n h = le-div (m / suc d) n (suc d) (omega arith) (let part = div-mul-le_self m (suc d) in omega (arith, part))

-- a multiple of the step, as far as the high end
pub stretch_holds : (low step high n : ℕ) → low ≤ n → n ≤ high → step ∣ n - low → Holds (stretch low step high) n
stretch_holds low step high n a b d =
    let whole = div-mul_cancel step d in
    let fewer = quotient_le step (n - low) (high - low) (omega arith) in
    let less : (n - low) / step * step ≤ (high - low) / step * step = mul-le-mul_right step fewer in
    record { above = a; below = omega (arith, whole, less); class = d }

pub stretch_below : (low step high : ℕ) → low ≤ high → low + (high - low) / step * step ≤ high
stretch_below low step high h = let part = div-mul-le_self (high - low) step in omega (arith, part)

pub stretch_whole : (low step high : ℕ) → IsWhole (stretch low step high)
stretch_whole low step high =
    let q = (high - low) / step in
    let rest : low + q * step - low ≡ q * step = omega arith in
    record { above = omega arith; below = omega arith; class = subst (λ z. step ∣ z) (sym rest) (dvd-mul_left step q) }

pub one_whole : (n : ℕ) → IsWhole (one n)
one_whole n = let none : n - n ≡ 0 = omega arith in record { above = omega arith; below = omega arith; class = subst (λ z. 0 ∣ z) (sym none) (dvd-zero 0) }

-- ---- one within another
pub within_holds : (x y : Stretch) (n : ℕ) → IsWithin x y → Holds y n → Holds x n
within_holds x y n w h =
    let low = w.low in let high = w.high in let above = h.above in let below = h.below in
    let sum : y.lo - x.lo + (n - y.lo) ≡ n - x.lo = omega arith in
    record {
      above = omega arith;
      below = omega arith;
      class = subst (λ z. x.step ∣ z) sum (dvd-add x.step w.class (dvd_trans x.step w.steps h.class));
    }

pub within_itself : (x : Stretch) → IsWithin x x
within_itself x =
    let none : x.lo - x.lo ≡ 0 = omega arith in
    record { low = omega arith; high = omega arith; steps = dvd_refl x.step; class = subst (λ z. x.step ∣ z) (sym none) (dvd-zero x.step) }

pub within_on : (x y z : Stretch) → IsWithin x y → IsWithin y z → IsWithin x z
within_on x y z h k =
    let a = h.low in let b = h.high in let c = k.low in let d = k.high in
    let sum : y.lo - x.lo + (z.lo - y.lo) ≡ z.lo - x.lo = omega arith in
    record {
      low = omega arith;
      high = omega arith;
      steps = dvd_trans x.step h.steps k.steps;
      class = subst (λ t. x.step ∣ t) sum (dvd-add x.step h.class (dvd_trans x.step h.steps k.class));
    }

pub within_told : (x y : Stretch) → IsTrue (is_within x y) ↔ IsWithin x y
within_told x y = (
  λ h. let steps = (divides_told x.step y.step).0 in let class = (divides_told x.step (y.lo - x.lo)).0 in from_parts h steps class,
  λ h. let low = h.low in let high = h.high in let steps = (divides_told x.step y.step).1 h.steps in let class = (divides_told x.step (y.lo - x.lo)).1 h.class in grind (arith, nat_tests),
)
  where
    from_parts : IsTrue (is_within x y) → (IsTrue (divides x.step y.step) → x.step ∣ y.step) → (IsTrue (divides x.step (y.lo - x.lo)) → x.step ∣ y.lo - x.lo) → IsWithin x y
    from_parts h f g = record { low = grind (arith, nat_tests); high = grind (arith, nat_tests); steps = f (grind (arith, nat_tests)); class = g (grind (arith, nat_tests)) }

-- ---- hulls
pub common_left : (x y : Stretch) → common_step x y ∣ x.step
common_left x y = dvd_trans (common_step x y) (gcd_is (gcd x.step y.step) (apart x.lo y.lo)).0 (gcd_is x.step y.step).0

pub common_right : (x y : Stretch) → common_step x y ∣ y.step
common_right x y = dvd_trans (common_step x y) (gcd_is (gcd x.step y.step) (apart x.lo y.lo)).0 (gcd_is x.step y.step).1

pub common_apart : (x y : Stretch) → common_step x y ∣ apart x.lo y.lo
common_apart x y = (gcd_is (gcd x.step y.step) (apart x.lo y.lo)).1

-- a divisor of how far two numbers are apart divides either difference
pub apart_left : (d m n : ℕ) → d ∣ apart m n → d ∣ m - n
apart_left d m n h = let e : apart m n - (n - m) ≡ m - n = omega arith in split (nat_le m n) refl
  where
    split : (b : Bool) → b ≡ nat_le m n → d ∣ m - n
    split true e = let none : m - n ≡ 0 = grind (arith, nat_tests) in subst (λ z. d ∣ z) (sym none) (dvd-zero d)
    split false e = let all : apart m n ≡ m - n = grind (arith, nat_tests) in subst (λ z. d ∣ z) all h

pub apart_right : (d m n : ℕ) → d ∣ apart m n → d ∣ n - m
apart_right d m n h = apart_left d n m (subst (λ z. d ∣ z) (omega arith) h)

-- what divides how far m and n are from some number divides how far they are apart
pub apart_from : (d k m n : ℕ) → k ≤ m → k ≤ n → d ∣ m - k → d ∣ n - k → d ∣ apart m n
apart_from d k m n a b h j =
    let e : m - k - (n - k) + (n - k - (m - k)) ≡ apart m n = omega arith in
    subst (λ z. d ∣ z) e (dvd-add d (dvd-sub d h j) (dvd-sub d j h))

pub hull_whole : (x y : Stretch) → IsWhole (hull_of x y)
hull_whole x y = stretch_whole (min x.lo y.lo) (common_step x y) (max x.hi y.hi)

pub hull_left : (x y : Stretch) → IsWhole x → IsWithin (hull_of x y) x
hull_left x y h =
    let g = common_step x y in
    let above = h.above in
    let from : g ∣ x.lo - min x.lo y.lo = subst (λ z. g ∣ z) (omega arith) (apart_left g x.lo y.lo (common_apart x y)) in
    let sum : x.lo - min x.lo y.lo + (x.hi - x.lo) ≡ x.hi - min x.lo y.lo = omega arith in
    let top = stretch_holds (min x.lo y.lo) g (max x.hi y.hi) x.hi (omega arith) (omega arith) (subst (λ z. g ∣ z) sum (dvd-add g from (dvd_trans g (common_left x y) h.class))) in
    record { low = omega arith; high = top.below; steps = common_left x y; class = from }

pub hull_right : (x y : Stretch) → IsWhole y → IsWithin (hull_of x y) y
hull_right x y h =
    let g = common_step x y in
    let above = h.above in
    let from : g ∣ y.lo - min x.lo y.lo = subst (λ z. g ∣ z) (omega arith) (apart_right g x.lo y.lo (common_apart x y)) in
    let sum : y.lo - min x.lo y.lo + (y.hi - y.lo) ≡ y.hi - min x.lo y.lo = omega arith in
    let top = stretch_holds (min x.lo y.lo) g (max x.hi y.hi) y.hi (omega arith) (omega arith) (subst (λ z. g ∣ z) sum (dvd-add g from (dvd_trans g (common_right x y) h.class))) in
    record { low = omega arith; high = top.below; steps = common_right x y; class = from }

pub hull_least : (x y z : Stretch) → IsWhole x → IsWhole y → IsWithin z x → IsWithin z y → IsWithin z (hull_of x y)
hull_least x y z wx wy h k =
    let a = h.low in let b = h.high in let c = k.low in let d = k.high in let e = wx.above in let f = wy.above in
    let below = stretch_below (min x.lo y.lo) (common_step x y) (max x.hi y.hi) (omega arith) in
    let both : z.step ∣ gcd x.step y.step = (gcd_is x.step y.step).2 z.step h.steps k.steps in
    let far : z.step ∣ apart x.lo y.lo = apart_from z.step z.lo x.lo y.lo a c h.class k.class in
    record {
      low = omega arith;
      high = omega (arith, below);
      steps = (gcd_is (gcd x.step y.step) (apart x.lo y.lo)).2 z.step both far;
      class = at_low (nat_le x.lo y.lo) refl;
    }
  where
    at_low : (b : Bool) → b ≡ nat_le x.lo y.lo → z.step ∣ min x.lo y.lo - z.lo
    at_low true e = let same : min x.lo y.lo ≡ x.lo = grind (arith, nat_tests) in subst (λ t. z.step ∣ t - z.lo) (sym same) h.class
    at_low false e = let same : min x.lo y.lo ≡ y.lo = grind (arith, nat_tests) in subst (λ t. z.step ∣ t - z.lo) (sym same) k.class

-- ---- hulls of lists
pub one_held : (x : Stretch) (n : ℕ) → IsWithin x (one n) → Holds x n
one_held x n h = record { above = h.low; below = h.high; class = h.class }

pub held_one : (x : Stretch) (n : ℕ) → Holds x n → IsWithin x (one n)
held_one x n h = record { low = h.above; high = h.below; steps = dvd-zero x.step; class = h.class }

pub with_whole : (x : Stretch) (ns : List ℕ) → IsWhole x → IsWhole (hull_with x ns)
with_whole x [] h = h
with_whole x (n ∷ ns) h = with_whole (hull_of x (one n)) ns (hull_whole x (one n))

pub with_first : (x : Stretch) (ns : List ℕ) → IsWhole x → IsWithin (hull_with x ns) x
with_first x [] h = within_itself x
with_first x (n ∷ ns) h = within_on (hull_with (hull_of x (one n)) ns) (hull_of x (one n)) x (with_first (hull_of x (one n)) ns (hull_whole x (one n))) (hull_left x (one n) h)

pub with_holds : (x : Stretch) (ns : List ℕ) (k : ℕ) → IsWhole x → IsAmong k ns → Holds (hull_with x ns) k
with_holds x [] k h a = absurd a
with_holds x (n ∷ ns) k h (inl e) =
    subst (Holds (hull_with (hull_of x (one n)) ns)) (sym e) (one_held (hull_with (hull_of x (one n)) ns) n
    (within_on (hull_with (hull_of x (one n)) ns) (hull_of x (one n)) (one n) (with_first (hull_of x (one n)) ns (hull_whole x (one n))) (hull_right x (one n) (one_whole n))))
with_holds x (n ∷ ns) k h (inr a) = with_holds (hull_of x (one n)) ns k (hull_whole x (one n)) a

pub with_least : (x z : Stretch) (ns : List ℕ) → IsWhole x → IsWithin z x → ((k : ℕ) → IsAmong k ns → Holds z k) → IsWithin z (hull_with x ns)
with_least x z [] w h f = h
with_least x z (n ∷ ns) w h f =
    with_least (hull_of x (one n)) z ns (hull_whole x (one n)) (hull_least x (one n) z w (one_whole n) h (held_one z n (f n (inl refl)))) (λ k a. f k (inr a))

pub list_whole : (ns : List ℕ) → IsWhole (hull ns)
list_whole [] = one_whole 0
list_whole (n ∷ ns) = with_whole (one n) ns (one_whole n)

pub list_holds : (ns : List ℕ) (k : ℕ) → IsAmong k ns → Holds (hull ns) k
list_holds [] k a = absurd a
list_holds (n ∷ ns) k (inl e) = subst (Holds (hull_with (one n) ns)) (sym e) (one_held (hull_with (one n) ns) n (with_first (one n) ns (one_whole n)))
list_holds (n ∷ ns) k (inr a) = with_holds (one n) ns k (one_whole n) a

pub list_least : (ns : List ℕ) (z : Stretch) → 1 ≤ length ns → ((k : ℕ) → IsAmong k ns → Holds z k) → IsWithin z (hull ns)
list_least [] z h f = absurd (omega arith)
list_least (n ∷ ns) z h f = with_least (one n) z ns (one_whole n) (held_one z n (f n (inl refl))) (λ k a. f k (inr a))

-- the numbers of a list that a stretch holds have a hull whose high end is no greater
pub list_below : (ns : List ℕ) (w : ℕ) → 1 ≤ length ns → ((k : ℕ) → IsAmong k ns → k < w) → (hull ns).hi < w
list_below ns w h f =
    let bound : Stretch = record { lo = 0; step = 1; hi = w - 1 } in
    let in_bound = list_least ns bound h (λ k a. let less = f k a in record { above = zero-le; below = omega (arith, less); class = ones (k - 0) }) in
    let high = in_bound.high in
    some ns h f high
  where
    ones : (n : ℕ) → 1 ∣ n
    ones n = subst (λ z. 1 ∣ z) (omega arith) (dvd-mul_right 1 n)

    some : (ns : List ℕ) → 1 ≤ length ns → ((k : ℕ) → IsAmong k ns → k < w) → (hull ns).hi ≤ w - 1 → (hull ns).hi < w
    some [] h f l = absurd (omega arith)
    some (n ∷ ns) h f l = let less = f n (inl refl) in omega (arith, less, l)

-- ---- the list of a stretch
pub steps_has : (low step m k : ℕ) → k ≤ m → IsAmong (low + k * step) (by_steps low step m)
steps_has low step zero k h = let none : low + k * step ≡ low = ap (λ z. low + z * step) {x = k} {y = 0} (omega arith) ∙ omega arith in inl none
steps_has low step (suc m) zero h = inl (omega arith)
steps_has low step (suc m) (suc k) h =
    let next : low + step + k * step ≡ low + suc k * step = omega arith in
    inr (subst (λ z. IsAmong z (by_steps (low + step) step m)) next (steps_has (low + step) step m k (omega arith)))

pub steps_only : (low step m n : ℕ) → IsAmong n (by_steps low step m) → (k : ℕ) × (k ≤ m) × (n ≡ low + k * step)
steps_only low step zero n (inl e) = (0, omega arith, e ∙ omega arith)
steps_only low step zero n (inr a) = absurd a
steps_only low step (suc m) n (inl e) = (0, omega arith, e ∙ omega arith)
steps_only low step (suc m) n (inr a) = let r = steps_only (low + step) step m n a in (suc r.0, omega (arith, r.1), r.2 ∙ omega arith)

pub steps_ascend : (low step m : ℕ) → 1 ≤ step → IsAscendingFrom low (by_steps low step m)
steps_ascend low step zero h = (omega arith, tt)
steps_ascend low step (suc m) h = (omega arith, lower (low + 1) (low + step) (omega arith) (by_steps (low + step) step m) (steps_ascend (low + step) step m h))
  where
    lower : (a b : ℕ) → a ≤ b → (ns : List ℕ) → IsAscendingFrom b ns → IsAscendingFrom a ns
    lower a b l [] k = tt
    lower a b l (n ∷ ns) k = (let first = k.0 in omega (arith, first), k.1)

pub steps_length : (low step m : ℕ) → length (by_steps low step m) ≡ m + 1
steps_length low step zero = omega arith
steps_length low step (suc m) = let rest = steps_length (low + step) step m in omega (arith, rest)

pub numbers_has : (x : Stretch) (n : ℕ) → Holds x n → IsAmong n (numbers x)
numbers_has x n h =
    let above = h.above in let below = h.below in
    let whole = div-mul_cancel x.step h.class in
    let few = quotient_le x.step (n - x.lo) (x.hi - x.lo) (omega arith) in
    let is : x.lo + (n - x.lo) / x.step * x.step ≡ n = omega (arith, whole) in
    subst (λ z. IsAmong z (numbers x)) is (steps_has x.lo x.step (more x) ((n - x.lo) / x.step) few)

pub numbers_hold : (x : Stretch) (n : ℕ) → x.lo ≤ x.hi → IsAmong n (numbers x) → Holds x n
numbers_hold x n order a =
    let r = steps_only x.lo x.step (more x) n a in
    let k = r.0 in let few = r.1 in let e = r.2 in
    let less : k * x.step ≤ more x * x.step = mul-le-mul_right x.step few in
    let part = div-mul-le_self (x.hi - x.lo) x.step in
    let rest : k * x.step ≡ n - x.lo = omega (arith, e) in
    record { above = omega (arith, e); below = omega (arith, e, less, part); class = subst (λ z. x.step ∣ z) rest (dvd-mul_left x.step k) }

pub numbers_ascend : (x : Stretch) → IsAscendingFrom 0 (numbers x)
numbers_ascend x = at_step x.step
  where
    lower : (b : ℕ) (ns : List ℕ) → IsAscendingFrom b ns → IsAscendingFrom 0 ns
    lower b [] k = tt
    lower b (n ∷ ns) k = (zero-le, k.1)

    at_step : (s : ℕ) → IsAscendingFrom 0 (by_steps x.lo s ((x.hi - x.lo) / s))
    at_step zero = rw (div-zero (x.hi - x.lo)) (zero-le, tt)
    at_step (suc s) = lower x.lo (by_steps x.lo (suc s) ((x.hi - x.lo) / suc s)) (steps_ascend x.lo (suc s) ((x.hi - x.lo) / suc s) (omega arith))

-- one number more
pub with_more : (x : Stretch) (ns ms : List ℕ) → hull_with x (ns ++ ms) ≡ hull_with (hull_with x ns) ms
with_more x [] ms = refl
with_more x (n ∷ ns) ms = with_more (hull_of x (one n)) ns ms

pub hull_more : (n : ℕ) (ns ms : List ℕ) → hull ((n ∷ ns) ++ ms) ≡ hull_with (hull (n ∷ ns)) ms
hull_more n ns ms = with_more (one n) ns ms
