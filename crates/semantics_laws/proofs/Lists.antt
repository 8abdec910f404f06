-- Lists of which each is there.
use Rattle.std.proofs.Common.{◌≡◌, Option, Some, None, option_map, option_and_then, List, [], ◌∷◌, ◌++◌, refl, ap, ◌∙◌}
use Rattle.semantics_laws.specs.Places.{all_of}

-- two lists one behind the other, where both are there
abbrev joined : {B : Type 0} → Option (List B) → Option (List B) → Option (List B)
joined xs ys = option_and_then (λ xs. option_map (λ ys. xs ++ ys) ys) xs

joined_one : {B : Type 0} (o : Option B) (xs ys : Option (List B)) → option_and_then (λ x. option_map (λ xs. x ∷ xs) (joined xs ys)) o ≡ joined (option_and_then (λ x. option_map (λ xs. x ∷ xs) xs) o) ys
joined_one None xs ys = refl
joined_one (Some x) None ys = refl
joined_one (Some x) (Some xs) None = refl
joined_one (Some x) (Some xs) (Some ys) = refl

joined_none : {B : Type 0} (ys : Option (List B)) → ys ≡ joined (Some []) ys
joined_none None = refl
joined_none (Some ys) = refl

all_append : {A B : Type 0} (f : A → Option B) (xs ys : List A) → all_of f (xs ++ ys) ≡ joined (all_of f xs) (all_of f ys)
all_append f [] ys = joined_none (all_of f ys)
all_append f (x ∷ xs) ys = ap (λ q. option_and_then (λ x. option_map (λ xs. x ∷ xs) q) (f x)) (all_append f xs ys) ∙ joined_one (f x) (all_of f xs) (all_of f ys)

pub all_both : {A B : Type 0} (f : A → Option B) (xs ys : List A) (us vs : List B) → all_of f xs ≡ Some us → all_of f ys ≡ Some vs → all_of f (xs ++ ys) ≡ Some (us ++ vs)
all_both f xs ys us vs h k = all_append f xs ys ∙ ap (λ q. joined q (all_of f ys)) h ∙ ap (λ q. joined (Some us) q) k
