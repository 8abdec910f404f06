-- What an option that is something was made of.
use Rattle.std.proofs.Common.{◌≡◌, Bool, true, false, cond, Option, Some, None, option_map, refl, ap}
use Rattle.std.specs.Option.{option_and_then, option_zip}
use Rattle.std.proofs.lemmas.Option.{none-some, same_Some, some_pair_parts}

-- of a choice
pub cond_then : {A : Type 0} (b : Bool) (o : Option A) (x : A) → cond b o None ≡ Some x → (b ≡ true) × (o ≡ Some x)
cond_then true o x e = (refl, e)
cond_then false o x e = absurd (none-some x e)

pub unless : {A : Type 0} (b : Bool) (y x : A) → cond b None (Some y) ≡ Some x → (b ≡ false) × (y ≡ x)
unless true y x e = absurd (none-some x e)
unless false y x e = (refl, same_Some y x e)

-- of a map
pub record Mapped {A B : Type 0} (f : A → B) (o : Option A) (y : B) : Type 0 where
  pub from : A
  pub is : o ≡ Some from
  pub gives : f from ≡ y

pub mapped : {A B : Type 0} (f : A → B) (o : Option A) (y : B) → option_map f o ≡ Some y → Mapped f o y
mapped f None y e = absurd (none-some y e)
mapped f (Some x) y e = record { from = x; is = refl; gives = same_Some (f x) y e }

-- of one after another
pub record Followed {A B : Type 0} (f : A → Option B) (o : Option A) (y : B) : Type 0 where
  pub from : A
  pub is : o ≡ Some from
  pub gives : f from ≡ Some y

pub followed : {A B : Type 0} (f : A → Option B) (o : Option A) (y : B) → option_and_then f o ≡ Some y → Followed f o y
followed f None y e = absurd (none-some y e)
followed f (Some x) y e = record { from = x; is = refl; gives = e }

-- two of which the second is nothing are nothing
pub zip_none : {A B : Type 0} (o : Option A) → option_zip {U = B} o None ≡ None
zip_none None = refl
zip_none (Some x) = refl

-- of two
pub zipped : {A B : Type 0} (o : Option A) (p : Option B) (z : A × B) → option_zip o p ≡ Some z → (o ≡ Some z.0) × (p ≡ Some z.1)
zipped None p z e = absurd (none-some z e)
zipped (Some x) None z e = absurd (none-some z e)
zipped (Some x) (Some y) z e = let same = some_pair_parts x z.0 y z.1 e in (ap Some same.0, ap Some same.1)
