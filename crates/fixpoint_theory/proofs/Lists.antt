-- Lists of items as they are seen, one by one.
use Rattle.std.proofs.Common.{◌≡◌, ◌∙◌, ℕ, zero, suc, ◌+◌, ◌<◌, List, [], ◌∷◌, ◌++◌, length, get_or, take, map, ap, sym, subst, arith}
use Rattle.std.proofs.Math.Seq.{take-suc}
use Rattle.std.proofs.lemmas.List.{map-append}
use Rattle.base_trait.specs.Lists.{Each}
use Rattle.fixpoint_theory.specs.Outcome.{addresses}

-- one item more of those that are taken, as they are seen
pub seen_more : {X E : Type 0} (view : X → E) (xs : List X) (i : ℕ) (x : X) → i < length xs → x ≡ get_or xs i x → map view (take (i + 1) xs) ≡ map view (take i xs) ++ view x ∷ []
seen_more view xs i x h e =
    let next : suc i ≡ i + 1 = omega arith in
    ap (λ n. map view (take n xs)) (sym next) ∙ ap (map view) (take-suc xs i x h) ∙ ap (λ z. map view (take i xs ++ z ∷ [])) (sym e) ∙ map-append view (take i xs) (x ∷ [])

-- what holds of each as it is seen
pub each_seen : {X E : Type 0} (P : E → Type 0) (view : X → E) (xs : List X) (i : ℕ) (x : X) → i < length xs → x ≡ get_or xs i x → Each P (map view xs) → P (view x)
each_seen P view [] i x h e each = absurd (omega (arith, h))
each_seen P view (y ∷ ys) zero x h e each = subst (λ z. P (view z)) (sym e) each.0
each_seen P view (y ∷ ys) (suc i) x h e each = each_seen P view ys i x (omega (arith, h)) e each.1

pub each_taken : {X E : Type 0} (P : E → Type 0) (view : X → E) (xs : List X) (i : ℕ) → Each P (map view xs) → Each P (map view (take i xs))
each_taken P view xs zero each = tt
each_taken P view [] (suc i) each = tt
each_taken P view (y ∷ ys) (suc i) each = (each.0, each_taken P view ys i each.1)

pub addresses_more : {E : Type 0} (xs : List (ℕ × E)) (x : ℕ × E) → addresses (xs ++ x ∷ []) ≡ addresses xs ++ x.0 ∷ []
addresses_more xs x = map-append (λ a. a.0) xs (x ∷ [])
