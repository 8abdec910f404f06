-- Lists that grow by one: what is out, with what is left behind it, is the whole.
use Rattle.std.proofs.Common.{◌≡◌, ℕ, ◌+◌, ◌<◌, ◌≤◌, zero, suc, List, [], ◌∷◌, ◌++◌, length, get_or, drop, drop-cons, Some, Result, Ok, Err, refl, sym, ap, ◌∙◌, arith, append_assoc}
use Rattle.std.specs.Prelude.{slice_get, IfOk, IsOkAnd}
use Rattle.std.proofs.lemmas.List.{drop_all}
use Rattle.abstract_map_laws.specs.declared.cell.AbstractCell.{AbstractCell}
use Rattle.abstract_map_laws.specs.Maps.{cells_at}

module _ {S : Type 0} where
  -- what is left from a place on
  rest_at : (xs : List S) (i : ℕ) (x : S) → slice_get xs i ≡ Some x → drop i xs ≡ x ∷ drop (suc i) xs
  rest_at [] i x h = absurd cc
  rest_at (y ∷ xs) zero x h = let same : y ≡ x = cc in ap (λ z. z ∷ xs) same
  rest_at (y ∷ xs) (suc i) x h = rest_at xs i x h

  nothing_behind : (xs : List S) → xs ++ [] ≡ xs
  nothing_behind [] = refl
  nothing_behind (x ∷ xs) = ap (λ l. x ∷ l) (nothing_behind xs)

  -- one more behind those that are out
  pub one_out : (xs : List S) (i : ℕ) (x : S) (out out' whole : List S) → slice_get xs i ≡ Some x → out' ≡ out ++ x ∷ [] → out ++ drop i xs ≡ whole → out' ++ drop (i + 1) xs ≡ whole
  one_out xs i x out out' whole at more h =
      let next : i + 1 ≡ suc i = omega arith in
      ap (λ n. out' ++ drop n xs) next ∙ ap (λ l. l ++ drop (suc i) xs) more ∙ append_assoc out (x ∷ []) (drop (suc i) xs) ∙ sym (ap (λ l. out ++ l) (rest_at xs i x at)) ∙ h

  -- where nothing is left
  ended : (out rest whole : List S) → rest ≡ [] → out ++ rest ≡ whole → out ≡ whole
  ended out rest whole e h = sym (nothing_behind out) ∙ sym (ap (λ t. out ++ t) e) ∙ h

  pub all_out : (xs : List S) (i : ℕ) (out whole : List S) → length xs ≤ i → out ++ drop i xs ≡ whole → out ≡ whole
  all_out xs i out whole l h = ended out (drop i xs) whole (drop_all i xs l) h

-- the next of a list, where there is one
module _ {S E : Type 0} where
  pub pushed_next : (xs : List S) (i : ℕ) (out out' whole : List S) (next : Result S E) → IsOkAnd next (λ z. out' ≡ out ++ z ∷ []) → IfOk next (λ z. slice_get xs i ≡ Some z) → out ++ drop i xs ≡ whole → out' ++ drop (i + 1) xs ≡ whole
  pushed_next xs i out out' whole (Ok z) more is h = one_out xs i z out out' whole is more h
  pushed_next xs i out out' whole (Err e) more is h = absurd more

-- the cell at the next key, where there is one
module _ {W N : Type 0} (f : ℕ → AbstractCell W N) (ks : List ℕ) (i : ℕ) where
  pub cells_more : {E : Type 0} (d : ℕ) (out out' whole : List (ℕ × AbstractCell W N)) (next : Result (ℕ × AbstractCell W N) E) → i < length ks → IsOkAnd next (λ z. out' ≡ out ++ z ∷ [])
      → IfOk next (λ z. z ≡ (get_or ks i d, f (get_or ks i d))) → out ++ cells_at (drop i ks) f ≡ whole → out' ++ cells_at (drop (i + 1) ks) f ≡ whole
  cells_more d out out' whole (Ok z) l more is h =
      let next : suc i ≡ i + 1 = omega arith in
      let rest = cells_at (drop (i + 1) ks) f in
      let here : drop i ks ≡ get_or ks i d ∷ drop (i + 1) ks = drop-cons ks i d l ∙ ap (λ n. get_or ks i d ∷ drop n ks) next in
      ap (λ l. l ++ rest) more ∙ append_assoc out (z ∷ []) rest ∙ ap (λ t. out ++ t ∷ rest) is ∙ sym (ap (λ l. out ++ cells_at l f) here) ∙ h
  cells_more d out out' whole (Err e) l more is h = absurd more

  pub cells_done : (out whole : List (ℕ × AbstractCell W N)) → length ks ≤ i → out ++ cells_at (drop i ks) f ≡ whole → out ≡ whole
  cells_done out whole l h = ended out (cells_at (drop i ks) f) whole (ap (λ t. cells_at t f) (drop_all i ks l)) h
