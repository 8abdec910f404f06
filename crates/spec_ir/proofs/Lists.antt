-- What stands at a place of a list, and past its end; tests of all items; sizes.
use Rattle.std.proofs.Common.{◌≡◌, ℕ, zero, suc, ◌+◌, ◌<◌, ◌≤◌, Bool, true, Some, List, [], ◌∷◌, length, map, drop, get_or, slice_get, refl, sym, subst, arith}
use Rattle.std.specs.List.{list_all}
use Rattle.std.proofs.lemmas.Bool.{and_parts}
use Rattle.std.proofs.lemmas.Option.{get_or_from_slice_get, slice_get-get_or, slice_get_within}
use Rattle.spec_match_compiler.proofs.Loops.{drop_here}
use Rattle.spec_match_compiler.proofs.Truth.{both}

-- an item, whatever stands for one past the end
pub item_itself : {A : Type 0} (xs : List A) (i : ℕ) (d : A) → i < length xs → get_or xs i d ≡ get_or xs i (get_or xs i d)
item_itself xs i d l = sym (get_or_from_slice_get xs i (get_or xs i d) (get_or xs i d) (slice_get-get_or xs i d l))

pub drop_got : {A : Type 0} (xs : List A) (i : ℕ) (x : A) → slice_get xs i ≡ Some x → drop i xs ≡ x ∷ drop (i + 1) xs
drop_got xs i x h = drop_here xs i x (sym (get_or_from_slice_get xs i x x h)) (slice_get_within xs i x h)

pub drop_past : {A : Type 0} (xs : List A) (i : ℕ) → length xs ≤ i → drop i xs ≡ []
drop_past [] zero h = refl
drop_past [] (suc i) h = refl
drop_past (x ∷ xs) zero h = absurd (omega (arith, h))
drop_past (x ∷ xs) (suc i) h = drop_past xs i (omega (arith, h))

-- a test of all items, and of one
pub all_at : {A : Type 0} (f : A → Bool) (xs : List A) (k : ℕ) (x : A) → list_all f xs ≡ true → slice_get xs k ≡ Some x → f x ≡ true
all_at f [] k x h e = absurd cc
all_at f (y ∷ xs) zero x h e = let same : y ≡ x = cc in subst (λ z. f z ≡ true) same (and_parts (f y) (list_all f xs) h).0
all_at f (y ∷ xs) (suc k) x h e = all_at f xs k x (and_parts (f y) (list_all f xs) h).1 e

pub all_from : {A : Type 0} (f : A → Bool) (xs : List A) → ((k : ℕ) (x : A) → slice_get xs k ≡ Some x → f x ≡ true) → list_all f xs ≡ true
all_from f [] h = refl
all_from f (x ∷ xs) h = both (f x) (list_all f xs) (h 0 x refl) (all_from f xs (λ k y e. h (suc k) y e))

pub map_size : {A B : Type 0} (f : A → B) (xs : List A) → length (map f xs) ≡ length xs
map_size f [] = refl
map_size f (x ∷ xs) = let rest = map_size f xs in omega (arith, rest)
