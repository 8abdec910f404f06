-- Constructors of which one is present alone.
use Rattle.std.proofs.Common.{◌≡◌, ℕ, zero, suc, ◌-◌, ◌<◌, Bool, true, false, List, [], ◌∷◌, ◌++◌, map, Option, Some, None, replicate, length, refl, sym, ap, subst, ◌∙◌, arith}
use Rattle.std.specs.Prelude.{◌&&◌}
use Rattle.abstract_value_laws.specs.Abs.{Parts, Cases, absent, cases, no_case, parts, present}
use Rattle.abstract_value_laws.specs.OfValues.{absent_onto, one_case}
use Rattle.abstract_value.specs.Constructors.{AreOnly, IsOnly, only}
use Rattle.abstract_value.specs.View.{abs, case_of}
use Rattle.abstract_value.specs.declared.value.AbstractValue.{AbstractValue}

-- ---- lists behind others
nothing_behind : {A : Type 0} (xs : List A) → xs ++ [] ≡ xs
nothing_behind [] = refl
nothing_behind (x ∷ xs) = ap (λ l. x ∷ l) (nothing_behind xs)

behind : {A : Type 0} (xs ys zs : List A) → (xs ++ ys) ++ zs ≡ xs ++ (ys ++ zs)
behind [] ys zs = refl
behind (x ∷ xs) ys zs = ap (λ l. x ∷ l) (behind xs ys zs)

-- ---- one constructor of several
module _ {W N : Type 0} where
  one_apart : (n k : ℕ) (xs : Parts W N) → k < n → one_case n k xs ≡ absent_onto k (present xs (absent_onto (n - k - 1) no_case))
  one_apart zero k xs h = absurd (omega (arith, h))
  one_apart (suc n) zero xs h = let same : n ≡ suc n - 0 - 1 = omega arith in ap (λ m. present xs (absent_onto m no_case)) same
  one_apart (suc n) (suc k) xs h = let same : n - k - 1 ≡ suc n - suc k - 1 = omega arith in ap (λ z. absent z) (one_apart n k xs (omega (arith, h)) ∙ ap (λ m. absent_onto k (present xs (absent_onto m no_case))) same)

module _ {X W N C : Type 0} where
  absent_seen : (n : ℕ) (rest : List (Option (List (AbstractValue X W N C)))) → cases (map case_of (replicate n None ++ rest)) ≡ absent_onto n (cases (map case_of rest))
  absent_seen zero rest = refl
  absent_seen (suc n) rest = ap (λ z. absent z) (absent_seen n rest)

  pub one_seen : (n k : ℕ) (f : List (AbstractValue X W N C)) → k < n → cases (map case_of (only n k f)) ≡ one_case n k (parts (map abs f))
  one_seen n k f h =
      ap (λ l. cases (map case_of l)) (behind (replicate k None) (Some f ∷ []) (replicate (n - k - 1) None)) ∙ absent_seen k (Some f ∷ replicate (n - k - 1) None)
      ∙ ap (λ l. absent_onto k (present (parts (map abs f)) (cases (map case_of l)))) (sym (nothing_behind (replicate (n - k - 1) None)))
      ∙ ap (λ z. absent_onto k (present (parts (map abs f)) z)) (absent_seen (n - k - 1) []) ∙ sym (one_apart n k (parts (map abs f)) h)

  -- the constructors where one is present alone
  pub alone_seen : (l : List (Option (List (AbstractValue X W N C)))) (k : ℕ) (f : List (AbstractValue X W N C)) → IsOnly l k f → cases (map case_of l) ≡ one_case (length l) k (parts (map abs f))
  alone_seen l k f o = ap (λ m. cases (map case_of m)) o.is ∙ one_seen (length l) k f o.within

-- a test of all constructors is that of the one
pub record TestsEach {W N V M : Type 0} (one : Parts W N → Parts V M → Bool) (test : Cases W N → Cases V M → Bool) : Type 0 where
  pub end : test no_case no_case ≡ true
  pub both_absent : (cs : Cases W N) (ds : Cases V M) → test (absent cs) (absent ds) ≡ test cs ds
  pub both_present : (xs : Parts W N) (ys : Parts V M) (cs : Cases W N) (ds : Cases V M) → test (present xs cs) (present ys ds) ≡ (one xs ys && test cs ds)

pub and_true : (b : Bool) → (b && true) ≡ b
and_true true = refl
and_true false = refl

module _ {W N V M : Type 0} {one : Parts W N → Parts V M → Bool} {test : Cases W N → Cases V M → Bool} (each : TestsEach one test) where
  none_tested : (n : ℕ) → test (absent_onto n no_case) (absent_onto n no_case) ≡ true
  none_tested zero = each.end
  none_tested (suc n) = each.both_absent (absent_onto n no_case) (absent_onto n no_case) ∙ none_tested n

  pub one_tested : (n k : ℕ) (xs : Parts W N) (ys : Parts V M) → k < n → test (one_case n k xs) (one_case n k ys) ≡ one xs ys
  one_tested zero k xs ys h = absurd (omega (arith, h))
  one_tested (suc n) zero xs ys h = each.both_present xs ys (absent_onto n no_case) (absent_onto n no_case) ∙ ap (λ b. one xs ys && b) (none_tested n) ∙ and_true (one xs ys)
  one_tested (suc n) (suc k) xs ys h = each.both_absent (one_case n k xs) (one_case n k ys) ∙ one_tested n k xs ys (omega (arith, h))

  pub alone_tested : {X C Y D : Type 0} (l : List (Option (List (AbstractValue X W N C)))) (m : List (Option (List (AbstractValue Y V M D)))) (k : ℕ) (f : List (AbstractValue X W N C)) (g : List (AbstractValue Y V M D)) → AreOnly l m k f g
      → one (parts (map abs f)) (parts (map abs g)) ≡ test (cases (map case_of l)) (cases (map case_of m))
  alone_tested l m k f g o =
      sym (ap (λ z. test z (cases (map case_of m))) (alone_seen l k f o.first) ∙ ap (λ z. test (one_case (length l) k (parts (map abs f))) z) (alone_seen m k g o.second ∙ ap (λ n. one_case n k (parts (map abs g))) (sym o.lengths))
      ∙ one_tested (length l) k (parts (map abs f)) (parts (map abs g)) o.first.within)
