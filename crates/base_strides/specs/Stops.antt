-- Stops of widening.
use Rattle.std.proofs.Common.{◌≡◌, ℕ, ◌+◌, ◌<◌, ◌≤◌, Bool, true, false, List, [], ◌∷◌, length, refl, sym, ap, ◌∙◌, arith, IsTrue, inl, inr}
use Rattle.std.specs.Prelude.{nat_le, ◌&&◌, if◌then◌else◌}
use Rattle.std.proofs.lemmas.Bool.Decides.{nat_tests}
use Rattle.base_trait.specs.Lists.{IsAmong}
use Rattle.base_trait.proofs.Tests.{at_choice}
use Rattle.base_strides.specs.Meaning.{stop_below, stop_above, how_many}

pub record IsStopBelow (ts : List ℕ) (n s : ℕ) : Type 0 where
  pub least : s ≤ n
  pub listed : IsAmong s (0 ∷ ts)

pub below_is : (ts : List ℕ) (n : ℕ) → IsStopBelow ts n (stop_below ts n)
below_is [] n = record { least = omega arith; listed = inl refl }
below_is (t ∷ ts) n =
    let rest = below_is ts n in
    at_choice (IsStopBelow (t ∷ ts) n) (nat_le t n && nat_le (stop_below ts n) t) t (stop_below ts n)
    (λ e. record { least = grind (arith, nat_tests); listed = inr (inl refl) })
    (λ e. record { least = rest.least; listed = further rest.listed })
  where
    further : IsAmong (stop_below ts n) (0 ∷ ts) → IsAmong (stop_below ts n) (0 ∷ t ∷ ts)
    further (inl e) = inl e
    further (inr a) = inr (inr a)

pub record IsStopAbove (top : ℕ) (ts : List ℕ) (n s : ℕ) : Type 0 where
  pub most : n ≤ s
  pub within : s ≤ top
  pub listed : IsAmong s (top ∷ ts)

pub above_is : (top : ℕ) (ts : List ℕ) (n : ℕ) → n ≤ top → IsStopAbove top ts n (stop_above top ts n)
above_is top [] n h = record { most = h; within = omega arith; listed = inl refl }
above_is top (t ∷ ts) n h =
    let rest = above_is top ts n h in let within = rest.within in
    at_choice (IsStopAbove top (t ∷ ts) n) (nat_le n t && nat_le t (stop_above top ts n)) t (stop_above top ts n)
    (λ e. record { most = grind (arith, nat_tests); within = grind (arith, nat_tests); listed = inr (inl refl) })
    (λ e. record { most = rest.most; within = within; listed = further rest.listed })
  where
    further : IsAmong (stop_above top ts n) (top ∷ ts) → IsAmong (stop_above top ts n) (top ∷ t ∷ ts)
    further (inl e) = inl e
    further (inr a) = inr (inr a)

-- ---- counts
pub many_le : (p : ℕ → Bool) (ts : List ℕ) → how_many p ts ≤ length ts
many_le p [] = omega arith
many_le p (t ∷ ts) = let rest = many_le p ts in at_choice (λ z. z + how_many p ts ≤ length (t ∷ ts)) (p t) 1 0 (λ e. omega (arith, rest)) (λ e. omega (arith, rest))

pub fewer : (p q : ℕ → Bool) → ((t : ℕ) → IsTrue (p t) → IsTrue (q t)) → (ts : List ℕ) → how_many p ts ≤ how_many q ts
fewer p q f [] = omega arith
fewer p q f (t ∷ ts) = at_tests (p t) (q t) (f t) (fewer p q f ts)
  where
    at_tests : (a b : Bool) → (IsTrue a → IsTrue b) → how_many p ts ≤ how_many q ts → (if a then 1 else 0) + how_many p ts ≤ (if b then 1 else 0) + how_many q ts
    at_tests true true g h = omega (arith, h)
    at_tests true false g h = absurd (never (g refl))
      where
        never : IsTrue false → ⊥
        never e = cc
    at_tests false true g h = omega (arith, h)
    at_tests false false g h = omega (arith, h)

-- where one passes the second test alone there are fewer of the first
pub fewer_by : (p q : ℕ → Bool) → ((t : ℕ) → IsTrue (p t) → IsTrue (q t)) → (s : ℕ) → p s ≡ false → IsTrue (q s) → (ts : List ℕ) → IsAmong s ts → how_many p ts < how_many q ts
fewer_by p q f s misses passes [] a = absurd a
fewer_by p q f s misses passes (t ∷ ts) (inl e) = at_tests (p t) (q t) (ap p (sym e) ∙ misses) (ap q (sym e) ∙ passes) (fewer p q f ts)
  where
    at_tests : (a b : Bool) → a ≡ false → IsTrue b → how_many p ts ≤ how_many q ts → (if a then 1 else 0) + how_many p ts < (if b then 1 else 0) + how_many q ts
    at_tests false true g h l = omega (arith, l)
    at_tests true b g h l = cc
    at_tests false false g h l = cc
fewer_by p q f s misses passes (t ∷ ts) (inr a) = at_tests (p t) (q t) (f t) (fewer_by p q f s misses passes ts a)
  where
    at_tests : (a b : Bool) → (IsTrue a → IsTrue b) → how_many p ts < how_many q ts → (if a then 1 else 0) + how_many p ts < (if b then 1 else 0) + how_many q ts
    at_tests true true g h = omega (arith, h)
    at_tests true false g h = absurd (never (g refl))
      where
        never : IsTrue false → ⊥
        never e = cc
    at_tests false true g h = omega (arith, h)
    at_tests false false g h = omega (arith, h)
