-- Values of slots, one after the other.
use Rattle.std.proofs.Common.{◌≡◌, ℕ, suc, ◌+◌, ◌<◌, List, [], ◌∷◌, ◌++◌, Option, Some, None, option_map, drop, get_or, length, refl, sym, ap, ◌∙◌, append_assoc}
use Rattle.std.specs.Prelude.{option_and_then}
use Rattle.std.proofs.lemmas.List.{drop_more}
use Rattle.semantics_laws.specs.Places.{all_of}

module _ {A D : Type 0} (f : A → Option D) where
  pub one_more : (y : D) (out : List D) (o : Option (List D)) → option_map (λ ys. out ++ ys) (option_map (λ ys. y ∷ ys) o) ≡ option_map (λ ys. (out ++ y ∷ []) ++ ys) o
  one_more y out None = refl
  one_more y out (Some ys) = ap Some (sym (append_assoc out (y ∷ []) ys))

  -- one that is there
  pub all_next : (xs : List A) (i : ℕ) (d : A) (y : D) (out : List D) (whole : Option (List D)) → i < length xs → f (get_or xs i d) ≡ Some y → option_map (λ ys. out ++ ys) (all_of f (drop i xs)) ≡ whole
      → option_map (λ ys. (out ++ y ∷ []) ++ ys) (all_of f (drop (i + 1) xs)) ≡ whole
  all_next xs i d y out whole lt e h =
      sym (one_more y out (all_of f (drop (i + 1) xs)))
      ∙ ap (λ o. option_map (λ ys. out ++ ys) (option_and_then (λ z. option_map (λ ys. z ∷ ys) (all_of f (drop (i + 1) xs))) o)) (sym e)
      ∙ ap (λ zs. option_map (λ ys. out ++ ys) (all_of f zs)) (sym (drop_more xs i d lt)) ∙ h
