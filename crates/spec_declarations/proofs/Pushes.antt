-- A list that is made element by element.
use Rattle.std.proofs.Common.{◌≡◌, ℕ, zero, suc, ◌+◌, ◌<◌, ◌≤◌, List, [], ◌∷◌, ◌++◌, map, drop, length, get_or, refl, sym, ap, ◌∙◌, Result, Ok, Err, arith}
use Rattle.std.specs.Prelude.{IfOk, IsOkAnd}
use Rattle.std.specs.List.{flat_map}
use Rattle.std.proofs.lemmas.List.{append-nil, append_assoc, map_push, drop_all, drop_more}

pub push_more : {X Y Z W : Type 0} (view : X → Y) (F : W → Y) (H : Z → W) (out new : List X) (x : X) (xs : List Z) (i : ℕ) (z : Z) (all : List Y) → i < length xs → z ≡ get_or xs i z
    → new ≡ out ++ x ∷ [] → view x ≡ F (H z) → map view out ++ map F (map H (drop i xs)) ≡ all → map view new ++ map F (map H (drop (i + 1) xs)) ≡ all
push_more view F H out new x xs i z all l e n v h =
    ap (λ ys. map view ys ++ map F (map H (drop (i + 1) xs))) n
    ∙ ap (λ ys. ys ++ map F (map H (drop (i + 1) xs))) (map_push view out x)
    ∙ append_assoc (map view out) (view x ∷ []) (map F (map H (drop (i + 1) xs)))
    ∙ ap (λ y. map view out ++ y ∷ map F (map H (drop (i + 1) xs))) (v ∙ ap (λ q. F (H q)) e)
    ∙ ap (λ ys. map view out ++ map F (map H ys)) (sym (drop_more xs i z l))
    ∙ h

-- the same of one that may fail
pub pushed_more : {E X Y Z W : Type 0} (view : X → Y) (F : W → Y) (H : Z → W) (item : Result X E) (out new : List X) (xs : List Z) (i : ℕ) (z : Z) (all : List Y) → i < length xs → z ≡ get_or xs i z
    → IsOkAnd item (λ x. new ≡ out ++ x ∷ []) → IfOk item (λ x. view x ≡ F (H z)) → map view out ++ map F (map H (drop i xs)) ≡ all → map view new ++ map F (map H (drop (i + 1) xs)) ≡ all
pushed_more view F H (Ok x) out new xs i z all l e n v h = push_more view F H out new x xs i z all l e n v h
pushed_more view F H (Err k) out new xs i z all l e n v h = absurd n

pub pushed_all : {X Y Z W : Type 0} (view : X → Y) (F : W → Y) (H : Z → W) (out : List X) (xs : List Z) (i : ℕ) (all : List Y) → length xs ≤ i → map view out ++ map F (map H (drop i xs)) ≡ all → map view out ≡ all
pushed_all view F H out xs i all past h = sym (append-nil (map view out)) ∙ sym (ap (λ l. map view out ++ map F (map H l)) (drop_all i xs past)) ∙ h

-- an element that is there is the same by any default
pub other_default : {A : Type 0} (xs : List A) (i : ℕ) (d e : A) → i < length xs → get_or xs i d ≡ get_or xs i e
other_default [] i d e l = absurd (omega arith)
other_default (x ∷ xs) zero d e l = refl
other_default (x ∷ xs) (suc i) d e l = other_default xs i d e (omega arith)

-- a list of what a function gives of each element
module _ {Y Z : Type 0} (F : Z → Y) where
  pub next_more : (out new : List Y) (xs : List Z) (i : ℕ) (z : Z) (all : List Y) → i < length xs → z ≡ get_or xs i z → new ≡ out ++ F z ∷ [] → out ++ map F (drop i xs) ≡ all → new ++ map F (drop (i + 1) xs) ≡ all
  next_more out new xs i z all l e n h =
      ap (λ ys. ys ++ map F (drop (i + 1) xs)) n ∙ append_assoc out (F z ∷ []) (map F (drop (i + 1) xs)) ∙ ap (λ y. out ++ F y ∷ map F (drop (i + 1) xs)) e ∙ ap (λ ys. out ++ map F ys) (sym (drop_more xs i z l)) ∙ h

  pub next_pushed : {E : Type 0} (item : Result Y E) (out new : List Y) (xs : List Z) (i : ℕ) (z : Z) (all : List Y) → i < length xs → z ≡ get_or xs i z → IsOkAnd item (λ x. new ≡ out ++ x ∷ []) → IfOk item (λ x. x ≡ F z)
      → out ++ map F (drop i xs) ≡ all → new ++ map F (drop (i + 1) xs) ≡ all
  next_pushed (Ok x) out new xs i z all l e n v h = next_more out new xs i z all l e (n ∙ ap (λ y. out ++ y ∷ []) v) h
  next_pushed (Err k) out new xs i z all l e n v h = absurd n

  pub next_all : (out : List Y) (xs : List Z) (i : ℕ) (all : List Y) → length xs ≤ i → out ++ map F (drop i xs) ≡ all → out ≡ all
  next_all out xs i all past h = sym (append-nil out) ∙ sym (ap (λ l. out ++ map F l) (drop_all i xs past)) ∙ h

-- lists of what a function gives of each element, one behind another
module _ {Y Z W : Type 0} (F : W → List Y) (H : Z → W) where
  pub flat_more : (out new : List Y) (xs : List Z) (i : ℕ) (z : Z) (all : List Y) → i < length xs → z ≡ get_or xs i z → new ≡ out ++ F (H z) → out ++ flat_map F (map H (drop i xs)) ≡ all → new ++ flat_map F (map H (drop (i + 1) xs)) ≡ all
  flat_more out new xs i z all l e n h =
      ap (λ ys. ys ++ flat_map F (map H (drop (i + 1) xs))) n ∙ append_assoc out (F (H z)) (flat_map F (map H (drop (i + 1) xs))) ∙ ap (λ q. out ++ (F (H q) ++ flat_map F (map H (drop (i + 1) xs)))) e
      ∙ ap (λ ys. out ++ flat_map F (map H ys)) (sym (drop_more xs i z l)) ∙ h

  pub flat_all : (out : List Y) (xs : List Z) (i : ℕ) (all : List Y) → length xs ≤ i → out ++ flat_map F (map H (drop i xs)) ≡ all → out ≡ all
  flat_all out xs i all past h = sym (append-nil out) ∙ sym (ap (λ l. out ++ flat_map F (map H l)) (drop_all i xs past)) ∙ h
