-- As many values as are asked for.
use Rattle.std.proofs.Common.{◌≡◌, suc, List, [], ◌∷◌, Option, Some, None, length, refl, sym, ap, ◌∙◌, option_map}
use Rattle.std.specs.Prelude.{option_and_then}
use Rattle.semantics_laws.specs.Places.{all_of}

pub all_of_long : {A D : Type 0} (f : A → Option D) (xs : List A) (ys : List D) → all_of f xs ≡ Some ys → length ys ≡ length xs
all_of_long f [] ys h = let same : [] ≡ ys = cc in ap length (sym same)
all_of_long {D = D} f (x ∷ xs) ys h = first (f x) (all_of f xs) (λ zs e. all_of_long f xs zs e) refl h
  where
    first : (o : Option D) (os : Option (List D)) → ((zs : List D) → all_of f xs ≡ Some zs → length zs ≡ length xs) → all_of f xs ≡ os → option_and_then (λ y. option_map (λ ys. y ∷ ys) os) o ≡ Some ys → length ys ≡ suc (length xs)
    first None os go e k = absurd cc
    first (Some y) None go e k = absurd cc
    first (Some y) (Some zs) go e k = let same : y ∷ zs ≡ ys = cc in ap length (sym same) ∙ ap suc (go zs e)
