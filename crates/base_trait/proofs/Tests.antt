-- Tests put together.
use Rattle.std.proofs.Common.{◌≡◌, Bool, true, false, cond, refl, rules, IsTrue, ◌⊎◌, inl, inr}
use Rattle.std.specs.Prelude.{◌||◌, ◌&&◌}

pub or_sorted : (p q : Bool) → IsTrue (p || q) → IsTrue p ⊎ IsTrue q
or_sorted true q h = inl refl
or_sorted false q h = inr h

pub or_left : (p q : Bool) → IsTrue p → IsTrue (p || q)
or_left p q h = search rules

pub or_right : (p q : Bool) → IsTrue q → IsTrue (p || q)
or_right true q h = refl
or_right false q h = h

pub neither : (p q : Bool) → (p || q) ≡ false → (p ≡ false) × (q ≡ false)
neither true q h = cc
neither false q h = (refl, h)

pub and_both : (p q : Bool) → IsTrue p → IsTrue q → IsTrue (p && q)
and_both true q h k = k
and_both false q h k = cc

pub and_parts : (p q : Bool) → IsTrue (p && q) → IsTrue p × IsTrue q
and_parts true q h = (refl, h)
and_parts false q h = cc

pub not_both : (p q : Bool) → (p && q) ≡ false → (p ≡ false) ⊎ (q ≡ false)
not_both true q h = inr h
not_both false q h = inl refl

-- a test is true or false
pub decide : (b : Bool) → IsTrue b ⊎ (b ≡ false)
decide true = inl refl
decide false = inr refl

-- a choice has what both sides have
pub at_choice : {A : Type 0} (P : A → Type 0) (b : Bool) (y z : A) → (b ≡ true → P y) → (b ≡ false → P z) → P (cond b y z)
at_choice P true y z h k = h refl
at_choice P false y z h k = k refl

-- what follows from either side
pub from_either : {P Q R : Type 0} → (P → R) → (Q → R) → P ⊎ Q → R
from_either f g (inl h) = f h
from_either f g (inr h) = g h
