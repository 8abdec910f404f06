-- Ascending lists of keys.
use Rattle.std.proofs.Common.{◌≡◌, ℕ, ◌+◌, ◌≤◌, false, List, [], ◌∷◌, refl, sym, subst, arith, IsTrue, cond, ◌⊎◌, inl, inr}
use Rattle.std.specs.Prelude.{◌==◌, nat_lt}
use Rattle.std.proofs.lemmas.Bool.Decides.{nat_tests}
use Rattle.base_trait.specs.Lists.{IsAmong, IsAscendingFrom, Each}
use Rattle.base_trait.proofs.Lists.{number_itself, number_told}
use Rattle.base_trait.proofs.Tests.{or_sorted, or_left, or_right, at_choice, decide}
use Rattle.abstract_map_laws.specs.Keys.{has_key, with_key, either_key}

-- ---- the test of membership
pub has_from : (k : ℕ) (ks : List ℕ) → IsTrue (has_key ks k) → IsAmong k ks
has_from k [] h = cc
has_from k (j ∷ js) h = sorted (or_sorted (j == k) (has_key js k) h) (λ l. has_from k js l)
  where
    sorted : IsTrue (j == k) ⊎ IsTrue (has_key js k) → (IsTrue (has_key js k) → IsAmong k js) → IsAmong k (j ∷ js)
    sorted (inl e) f = inl (sym (number_told j k e))
    sorted (inr l) f = inr (f l)

pub has_to : (k : ℕ) (ks : List ℕ) → IsAmong k ks → IsTrue (has_key ks k)
has_to k [] h = absurd h
has_to k (j ∷ js) (inl e) = or_left (j == k) (has_key js k) (subst (λ t. IsTrue (t == k)) e (number_itself k))
has_to k (j ∷ js) (inr h) = or_right (j == k) (has_key js k) (has_to k js h)

pub has_not : (k : ℕ) (ks : List ℕ) → has_key ks k ≡ false → IsAmong k ks → ⊥
has_not k ks e h = let t = has_to k ks h in cc

-- a key is listed or not
pub sort_key : (k : ℕ) (ks : List ℕ) → IsAmong k ks ⊎ (IsAmong k ks → ⊥)
sort_key k ks = sorted (decide (has_key ks k))
  where
    sorted : IsTrue (has_key ks k) ⊎ (has_key ks k ≡ false) → IsAmong k ks ⊎ (IsAmong k ks → ⊥)
    sorted (inl h) = inl (has_from k ks h)
    sorted (inr h) = inr (has_not k ks h)

-- ---- one more key
pub with_itself : (k : ℕ) (ks : List ℕ) → IsAmong k (with_key k ks)
with_itself k [] = inl refl
with_itself k (j ∷ js) = place (with_itself k js)
  where
    place : IsAmong k (with_key k js) → IsAmong k (with_key k (j ∷ js))
    place later = at_choice (λ t. IsAmong k t) (nat_lt k j) (k ∷ j ∷ js) (cond (k == j) (j ∷ js) (j ∷ with_key k js)) (λ e. inl refl)
        (λ e. at_choice (λ t. IsAmong k t) (k == j) (j ∷ js) (j ∷ with_key k js) (λ d. inl (number_told k j d)) (λ d. inr later))

pub with_keeps : (i k : ℕ) (ks : List ℕ) → IsAmong i ks → IsAmong i (with_key k ks)
with_keeps i k [] h = absurd h
with_keeps i k (j ∷ js) h = place h (λ l. with_keeps i k js l)
  where
    place : IsAmong i (j ∷ js) → (IsAmong i js → IsAmong i (with_key k js)) → IsAmong i (with_key k (j ∷ js))
    place a f = at_choice (λ t. IsAmong i t) (nat_lt k j) (k ∷ j ∷ js) (cond (k == j) (j ∷ js) (j ∷ with_key k js)) (λ e. inr a)
        (λ e. at_choice (λ t. IsAmong i t) (k == j) (j ∷ js) (j ∷ with_key k js) (λ d. a) (λ d. sorted a))
      where
        sorted : IsAmong i (j ∷ js) → IsAmong i (j ∷ with_key k js)
        sorted (inl e) = inl e
        sorted (inr l) = inr (f l)

pub with_only : (i k : ℕ) (ks : List ℕ) → IsAmong i (with_key k ks) → (i ≡ k) ⊎ IsAmong i ks
with_only i k [] (inl e) = inl e
with_only i k [] (inr h) = absurd h
with_only i k (j ∷ js) h = place (λ l. with_only i k js l) h
  where
    place : (IsAmong i (with_key k js) → (i ≡ k) ⊎ IsAmong i js) → IsAmong i (with_key k (j ∷ js)) → (i ≡ k) ⊎ IsAmong i (j ∷ js)
    place f = at_choice (λ t. IsAmong i t → (i ≡ k) ⊎ IsAmong i (j ∷ js)) (nat_lt k j) (k ∷ j ∷ js) (cond (k == j) (j ∷ js) (j ∷ with_key k js)) (λ e a. a)
        (λ e. at_choice (λ t. IsAmong i t → (i ≡ k) ⊎ IsAmong i (j ∷ js)) (k == j) (j ∷ js) (j ∷ with_key k js) (λ d a. inr a) (λ d a. sorted a))
      where
        sorted : IsAmong i (j ∷ with_key k js) → (i ≡ k) ⊎ IsAmong i (j ∷ js)
        sorted (inl e) = inr (inl e)
        sorted (inr l) = again (f l)
          where
            again : (i ≡ k) ⊎ IsAmong i js → (i ≡ k) ⊎ IsAmong i (j ∷ js)
            again (inl e) = inl e
            again (inr b) = inr (inr b)

pub with_ascends : (low k : ℕ) (ks : List ℕ) → low ≤ k → IsAscendingFrom low ks → IsAscendingFrom low (with_key k ks)
with_ascends low k [] l h = (l, tt)
with_ascends low k (j ∷ js) l h = place (λ m. with_ascends (j + 1) k js m h.1)
  where
    place : (j + 1 ≤ k → IsAscendingFrom (j + 1) (with_key k js)) → IsAscendingFrom low (with_key k (j ∷ js))
    place f = at_choice (λ t. IsAscendingFrom low t) (nat_lt k j) (k ∷ j ∷ js) (cond (k == j) (j ∷ js) (j ∷ with_key k js)) (λ e. (l, (grind (arith, nat_tests), h.1)))
        (λ e. at_choice (λ t. IsAscendingFrom low t) (k == j) (j ∷ js) (j ∷ with_key k js) (λ d. h) (λ d. (h.0, f (grind (arith, nat_tests)))))

-- ---- the keys of either list
pub either_left : (i : ℕ) (ks js : List ℕ) → IsAmong i ks → IsAmong i (either_key ks js)
either_left i [] js h = absurd h
either_left i (k ∷ ks) js (inl e) = subst (λ t. IsAmong t (with_key k (either_key ks js))) (sym e) (with_itself k (either_key ks js))
either_left i (k ∷ ks) js (inr h) = with_keeps i k (either_key ks js) (either_left i ks js h)

pub either_right : (i : ℕ) (ks js : List ℕ) → IsAmong i js → IsAmong i (either_key ks js)
either_right i [] js h = h
either_right i (k ∷ ks) js h = with_keeps i k (either_key ks js) (either_right i ks js h)

pub either_only : (i : ℕ) (ks js : List ℕ) → IsAmong i (either_key ks js) → IsAmong i ks ⊎ IsAmong i js
either_only i [] js h = inr h
either_only i (k ∷ ks) js h = sorted (with_only i k (either_key ks js) h) (λ l. either_only i ks js l)
  where
    sorted : (i ≡ k) ⊎ IsAmong i (either_key ks js) → (IsAmong i (either_key ks js) → IsAmong i ks ⊎ IsAmong i js) → IsAmong i (k ∷ ks) ⊎ IsAmong i js
    sorted (inl e) f = inl (inl e)
    sorted (inr l) f = again (f l)
      where
        again : IsAmong i ks ⊎ IsAmong i js → IsAmong i (k ∷ ks) ⊎ IsAmong i js
        again (inl a) = inl (inr a)
        again (inr a) = inr a

pub either_ascends : (low : ℕ) (ks js : List ℕ) → Each (λ k. low ≤ k) ks → IsAscendingFrom low js → IsAscendingFrom low (either_key ks js)
either_ascends low [] js h k = k
either_ascends low (i ∷ ks) js h k = with_ascends low i (either_key ks js) h.0 (either_ascends low ks js h.1 k)
