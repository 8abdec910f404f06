-- Items of lists.
use Rattle.std.proofs.Common.{◌≡◌, ℕ, zero, suc, ◌<◌, List, [], ◌∷◌, map, length, get_or, sym, subst, arith}
use Rattle.base_trait.specs.Lists.{Each}

pub each_item : {A B : Type 0} (P : B → Type 0) (f : A → B) (xs : List A) (i : ℕ) (x : A) → x ≡ get_or xs i x → i < length xs → Each P (map f xs) → P (f x)
each_item P f [] i x e lt h = absurd (omega (arith, lt))
each_item P f (y ∷ xs) zero x e lt h = subst (λ z. P (f z)) (sym e) h.0
each_item P f (y ∷ xs) (suc i) x e lt h = each_item P f xs i x e (omega (arith, lt)) h.1
