-- Steps of loops over lists.
use Rattle.std.proofs.Common.{◌≡◌, ℕ, zero, suc, ◌+◌, ◌<◌, List, [], ◌∷◌, ◌++◌, length, take, drop, map, get_or, refl, ap, ◌∙◌, arith, add-one, Some}
use Rattle.std.specs.Prelude.{slice_get}
use Rattle.std.proofs.Math.Seq.{take-suc}
use Rattle.spec_match_compiler.proofs.Loops.{drop_here}

pub take_here : {A : Type 0} (xs : List A) (i : ℕ) (x : A) → x ≡ get_or xs i x → i < length xs → take (i + 1) xs ≡ take i xs ++ x ∷ []
take_here xs i x e h = rw (add-one, take-suc xs i x h, ← e) refl

-- the same of the images of a list
module _ {A B : Type 0} (f : A → B) (xs : List A) (i : ℕ) (x : A) (e : x ≡ get_or xs i x) (h : i < length xs) where
  pub map_drop : map f (drop i xs) ≡ f x ∷ map f (drop (i + 1) xs)
  map_drop = ap (map f) (drop_here xs i x e h)

-- the element at a place
pub record IsElement {A : Type 0} (xs : List A) (i : ℕ) (x : A) : Type 0 where
  pub at : slice_get xs i ≡ Some x
  pub front : take (i + 1) xs ≡ take i xs ++ x ∷ []

pub element : {A : Type 0} (xs : List A) (i : ℕ) → i < length xs → (x : A) × IsElement xs i x
element [] i h = absurd (omega (arith, h))
element (x ∷ xs) zero h =
    let next : 0 + 1 ≡ suc 0 = omega arith in
    (x, record { at = refl; front = ap (λ n. take n (x ∷ xs)) next })
element (x ∷ xs) (suc i) h =
    let more = element xs i (omega (arith, h)) in
    let next : suc i + 1 ≡ suc (i + 1) = omega arith in
    (more.0, record { at = more.1.at; front = ap (λ n. take n (x ∷ xs)) next ∙ ap (λ r. x ∷ r) more.1.front })
