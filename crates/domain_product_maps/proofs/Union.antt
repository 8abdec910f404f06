-- The keys of two lists, put in order.
use Rattle.std.proofs.Common.{◌≡◌, ℕ, ◌+◌, ◌<◌, ◌≤◌, zero, suc, List, [], ◌∷◌, ◌++◌, length, sym, subst, ap, ◌∙◌, arith, ◌⊎◌, inl, inr}
use Rattle.std.specs.Prelude.{slice_index_or}
use Rattle.std.specs.List.{AllPairs, Contains}
use Rattle.std.specs.List.Sorted.{IsStrictlyIncreasing}
use Rattle.std.proofs.lemmas.List.Elements.{Contains-append_cases, Contains-append_left, Contains-append_right}
use Rattle.std.proofs.lemmas.List.Kept.{AllPairs-from_increasing}
use Rattle.base_trait.specs.Lists.{IsAmong, IsAscending, IsAscendingFrom}
use Rattle.base_trait.proofs.Lists.{ascending_same}
use Rattle.abstract_map_laws.specs.Keys.{either_key}
use Rattle.abstract_map_laws.proofs.KeyLists.{either_ascends, either_left, either_only, either_right}
use Rattle.abstract_map_laws.proofs.Fitting.{each_zero}

-- ---- items, by their places and by cases
among_at : (n : ℕ) (xs : List ℕ) (k : ℕ) → k < length xs → slice_index_or xs k n ≡ n → IsAmong n xs
among_at n [] k l e = absurd (omega arith)
among_at n (x ∷ xs) zero l e = inl (sym e)
among_at n (x ∷ xs) (suc k) l e = inr (among_at n xs k (omega arith) e)

among_from : (n : ℕ) (xs : List ℕ) → Contains xs n → IsAmong n xs
among_from n xs c = among_at n xs c.0 c.1 c.2

among_to : (n : ℕ) (xs : List ℕ) → IsAmong n xs → Contains xs n
among_to n [] h = absurd h
among_to n (x ∷ xs) (inl e) = (0, omega arith, sym e)
among_to n (x ∷ xs) (inr h) = let c = among_to n xs h in let l = c.1 in (suc c.0, omega (arith, l), c.2)

-- ---- order, by places and by the list
rising : (low : ℕ) (xs : List ℕ) → ((j : ℕ) → j < length xs → low ≤ slice_index_or xs j 0) → AllPairs (λ x y. x < y) xs → IsAscendingFrom low xs
rising low [] l h = tt
rising low (x ∷ xs) l h = (
  l 0 (omega arith),
  rising (x + 1) xs (λ j m. let above = h 0 (suc j) 0 (omega arith) (omega arith) in omega (arith, above)) (λ i j d a b. h (suc i) (suc j) d (omega arith) (omega arith)),
)

-- the items of both lists in order, each once
pub either_is : (xs ys first all out : List ℕ) → first ≡ xs → all ≡ first ++ ys → IsAscending ys → IsStrictlyIncreasing out → ((k : ℕ) → Contains all k → Contains out k) → ((k : ℕ) → Contains out k → Contains all k)
    → out ≡ either_key xs ys
either_is xs ys first all out e d order rises keeps adds =
    ascending_same 0 0 out (either_key xs ys) (rising 0 out (λ j l. omega arith) (AllPairs-from_increasing out rises)) (either_ascends 0 xs ys (each_zero xs) order)
    (λ k a. onwards k (Contains-append_cases xs ys k (subst (λ l. Contains l k) same (adds k (among_to k out a)))))
    (λ k a. among_from k out (keeps k (subst (λ l. Contains l k) (sym same) (back k (either_only k xs ys a)))))
  where
    same : all ≡ xs ++ ys
    same = d ∙ ap (λ l. l ++ ys) e

    onwards : (k : ℕ) → Contains xs k ⊎ Contains ys k → IsAmong k (either_key xs ys)
    onwards k (inl c) = either_left k xs ys (among_from k xs c)
    onwards k (inr c) = either_right k xs ys (among_from k ys c)

    back : (k : ℕ) → IsAmong k xs ⊎ IsAmong k ys → Contains (xs ++ ys) k
    back k (inl a) = Contains-append_left xs ys k (among_to k xs a)
    back k (inr a) = Contains-append_right xs ys k (among_to k ys a)
