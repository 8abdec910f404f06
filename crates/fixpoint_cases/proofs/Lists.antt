-- Lists of which one item has a property.
use Rattle.std.proofs.Common.{List, [], ◌∷◌, ◌++◌, Option, Some, None, inl, inr}
use Rattle.std.specs.Prelude.{IfSome, IsSomeAnd}
use Rattle.base_trait.specs.Lists.{Each}
use Rattle.fixpoint_cases.specs.Lists.{OneOf, if_there}

module _ {A : Type 0} (P : A → Type 0) where
  pub one_left : (xs ys : List A) → OneOf P xs → OneOf P (xs ++ ys)
  one_left [] ys h = absurd h
  one_left (x ∷ xs) ys (inl p) = inl p
  one_left (x ∷ xs) ys (inr h) = inr (one_left xs ys h)

  pub one_right : (xs ys : List A) → OneOf P ys → OneOf P (xs ++ ys)
  one_right [] ys h = h
  one_right (x ∷ xs) ys h = inr (one_right xs ys h)

  pub each_both : (xs ys : List A) → Each P xs → Each P ys → Each P (xs ++ ys)
  each_both [] ys h k = k
  each_both (x ∷ xs) ys h k = (h.0, each_both xs ys h.1 k)

  pub one_there : (o : Option A) (xs : List A) → IsSomeAnd o P → OneOf P (if_there o xs)
  one_there None xs h = absurd h
  one_there (Some x) xs h = inl h

  pub one_later : (o : Option A) (xs : List A) → OneOf P xs → OneOf P (if_there o xs)
  one_later None xs h = h
  one_later (Some x) xs h = inr h

  pub each_there : (o : Option A) (xs : List A) → IfSome o P → Each P xs → Each P (if_there o xs)
  each_there None xs h k = k
  each_there (Some x) xs h k = (h, k)

-- of an item that has one property, where each has another, both are known
pub from_both : {A : Type 0} (P Q : A → Type 0) (R : Type 0) (xs : List A) → OneOf P xs → Each Q xs → ((x : A) → P x → Q x → R) → R
from_both P Q R [] h k f = absurd h
from_both P Q R (x ∷ xs) (inl p) k f = f x p k.0
from_both P Q R (x ∷ xs) (inr h) k f = from_both P Q R xs h k.1 f

pub one_map : {A : Type 0} (P Q : A → Type 0) (xs : List A) → ((x : A) → P x → Q x) → OneOf P xs → OneOf Q xs
one_map P Q [] f h = absurd h
one_map P Q (x ∷ xs) f (inl p) = inl (f x p)
one_map P Q (x ∷ xs) f (inr h) = inr (one_map P Q xs f h)
