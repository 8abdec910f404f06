-- Stamps.
use Rattle.std.proofs.Common.{◌≡◌, false, List, [], ◌∷◌, refl, sym, ap, subst, arith, IsTrue, ◌⊎◌, inl, inr}
use Rattle.std.proofs.lemmas.Bool.Decides.{nat_tests}
use Rattle.base_trait.specs.Identity.{IsIdentity, IsReflexive}
use Rattle.base_trait.specs.Lists.{IsAmong}
use Rattle.base_trait.specs.Stamps.{same_stamp, is_before, is_listed}
use Rattle.base_trait.specs.declared.uses.Stamp.{Stamp}
use Rattle.base_trait.specs.declared.uses.Stamp.TheVariants.{Entry, At}
use Rattle.base_trait.proofs.Lists.{number_itself, number_told}
use Rattle.base_trait.proofs.Tests.{or_sorted, or_left, or_right}

pub stamp_itself : IsReflexive same_stamp
stamp_itself Entry = refl
stamp_itself (At x) = number_itself x

pub stamp_told : IsIdentity same_stamp
stamp_told Entry Entry h = refl
stamp_told (At x) (At y) h = ap At (number_told x y h)
stamp_told Entry (At y) h = cc
stamp_told (At x) Entry h = cc

pub listed_from : (s : Stamp) (xs : List Stamp) → IsAmong s xs → IsTrue (is_listed xs s)
listed_from s [] h = absurd h
listed_from s (x ∷ xs) (inl e) = or_left (same_stamp x s) _ (subst (λ z. IsTrue (same_stamp x z)) (sym e) (stamp_itself x))
listed_from s (x ∷ xs) (inr h) = or_right (same_stamp x s) _ (listed_from s xs h)

pub among_listed : (s : Stamp) (xs : List Stamp) → IsTrue (is_listed xs s) → IsAmong s xs
among_listed s [] h = cc
among_listed s (x ∷ xs) h = sorted (or_sorted (same_stamp x s) _ h) (among_listed s xs)
  where
    sorted : IsTrue (same_stamp x s) ⊎ IsTrue (is_listed xs s) → (IsTrue (is_listed xs s) → IsAmong s xs) → IsAmong s (x ∷ xs)
    sorted (inl e) f = inl (sym (stamp_told x s e))
    sorted (inr k) f = inr (f k)

-- of two stamps one comes before the other, or they are one
pub before_on : (r s t : Stamp) → IsTrue (is_before r s) → IsTrue (is_before s t) → IsTrue (is_before r t)
before_on Entry Entry t h k = cc
before_on Entry (At y) Entry h k = cc
before_on Entry (At y) (At z) h k = refl
before_on (At x) Entry t h k = cc
before_on (At x) (At y) Entry h k = cc
before_on (At x) (At y) (At z) h k = grind (arith, nat_tests)

pub before_or_after : (s t : Stamp) → is_before s t ≡ false → same_stamp t s ≡ false → IsTrue (is_before t s)
before_or_after Entry Entry h k = cc
before_or_after Entry (At y) h k = cc
before_or_after (At x) Entry h k = refl
before_or_after (At x) (At y) h k = grind (arith, nat_tests)
