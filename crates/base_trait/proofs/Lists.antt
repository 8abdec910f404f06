-- Items of lists.
use Rattle.std.proofs.Common.{◌≡◌, ℕ, ◌+◌, ◌<◌, ◌≤◌, Bool, true, false, List, [], ◌∷◌, ◌++◌, map, length, suc, zero, refl, sym, ap, ◌∙◌, subst, arith, IsTrue, cond, ◌↔◌, ◌⊎◌, inl, inr}
use Rattle.std.specs.Prelude.{◌==◌, nat_le}
use Rattle.std.specs.List.{filter, list_all, range_with_len}
use Rattle.std.proofs.lemmas.Bool.Decides.{nat_tests}
use Rattle.base_trait.specs.Lists.{IsAmong, AreAmong, Each, IsAscendingFrom, ascends_from}
use Rattle.base_trait.proofs.Tests.{and_both, and_parts}

module _ {A : Type 0} where
  -- ---- items of two lists, one behind the other
  pub among_left : (x : A) (xs ys : List A) → IsAmong x xs → IsAmong x (xs ++ ys)
  among_left x [] ys h = absurd h
  among_left x (z ∷ xs) ys (inl e) = inl e
  among_left x (z ∷ xs) ys (inr h) = inr (among_left x xs ys h)

  pub among_right : (x : A) (xs ys : List A) → IsAmong x ys → IsAmong x (xs ++ ys)
  among_right x [] ys h = h
  among_right x (z ∷ xs) ys h = inr (among_right x xs ys h)

  pub among_either : (x : A) (xs ys : List A) → IsAmong x (xs ++ ys) → IsAmong x xs ⊎ IsAmong x ys
  among_either x [] ys h = inr h
  among_either x (z ∷ xs) ys (inl e) = inl (inl e)
  among_either x (z ∷ xs) ys (inr h) = sorted (among_either x xs ys h)
    where
      sorted : IsAmong x xs ⊎ IsAmong x ys → IsAmong x (z ∷ xs) ⊎ IsAmong x ys
      sorted (inl k) = inl (inr k)
      sorted (inr k) = inr k

  -- ---- lists within lists
  pub are_among_from : (xs ys : List A) → ((x : A) → IsAmong x xs → IsAmong x ys) → AreAmong xs ys
  are_among_from [] ys h = tt
  are_among_from (x ∷ xs) ys h = (h x (inl refl), are_among_from xs ys (λ z k. h z (inr k)))

  pub are_among_at : (xs ys : List A) (x : A) → AreAmong xs ys → IsAmong x xs → IsAmong x ys
  are_among_at [] ys x h k = absurd k
  are_among_at (z ∷ xs) ys x h (inl e) = subst (λ t. IsAmong t ys) (sym e) h.0
  are_among_at (z ∷ xs) ys x h (inr k) = are_among_at xs ys x h.1 k

  -- ---- what holds of each item
  pub each_from : (P : A → Type 0) (xs : List A) → ((x : A) → IsAmong x xs → P x) → Each P xs
  each_from P [] h = tt
  each_from P (x ∷ xs) h = (h x (inl refl), each_from P xs (λ z k. h z (inr k)))

  pub each_at : (P : A → Type 0) (xs : List A) (x : A) → Each P xs → IsAmong x xs → P x
  each_at P [] x h k = absurd k
  each_at P (z ∷ xs) x h (inl e) = subst P (sym e) h.0
  each_at P (z ∷ xs) x h (inr k) = each_at P xs x h.1 k

  -- what a test says of each item
  pub all_told : (test : A → Bool) (xs : List A) → IsTrue (list_all test xs) ↔ Each (λ x. IsTrue (test x)) xs
  all_told test xs = (from xs, to xs)
    where
      from : (xs : List A) → IsTrue (list_all test xs) → Each (λ x. IsTrue (test x)) xs
      from [] h = tt
      from (x ∷ xs) h = let k = and_parts (test x) (list_all test xs) h in (k.0, from xs k.1)

      to : (xs : List A) → Each (λ x. IsTrue (test x)) xs → IsTrue (list_all test xs)
      to [] h = refl
      to (x ∷ xs) h = and_both (test x) (list_all test xs) h.0 (to xs h.1)

  -- ---- what passes a test
  pub filter_shorter : (test : A → Bool) (xs : List A) → length (filter test xs) ≤ length xs
  filter_shorter test [] = omega arith
  filter_shorter test (x ∷ xs) = at_test (test x) (filter_shorter test xs)
    where
      at_test : (b : Bool) → length (filter test xs) ≤ length xs → length (cond b (x ∷ filter test xs) (filter test xs)) ≤ length (x ∷ xs)
      at_test true k = omega (arith, k)
      at_test false k = omega (arith, k)

-- ---- items of a map
module _ {A B : Type 0} (f : A → B) where
  pub among_map : (x : A) (xs : List A) → IsAmong x xs → IsAmong (f x) (map f xs)
  among_map x [] h = absurd h
  among_map x (z ∷ xs) (inl e) = inl (ap f e)
  among_map x (z ∷ xs) (inr h) = inr (among_map x xs h)

  pub map_among : (y : B) (xs : List A) → IsAmong y (map f xs) → (x : A) × IsAmong x xs × (y ≡ f x)
  map_among y [] h = absurd h
  map_among y (z ∷ xs) (inl e) = (z, inl refl, e)
  map_among y (z ∷ xs) (inr h) = let k = map_among y xs h in (k.0, inr k.1, k.2)

-- ---- numbers
pub number_itself : (n : ℕ) → IsTrue (n == n)
number_itself n = grind (arith, nat_tests)

pub number_told : (m n : ℕ) → IsTrue (m == n) → m ≡ n
number_told m n h = grind (arith, nat_tests)

-- an item of an ascending list is no less than where it begins
pub ascending_above : (low n : ℕ) (xs : List ℕ) → IsAscendingFrom low xs → IsAmong n xs → low ≤ n
ascending_above low n [] h k = absurd k
ascending_above low n (x ∷ xs) h (inl e) = subst (λ z. low ≤ z) (sym e) h.0
ascending_above low n (x ∷ xs) h (inr k) = let later = ascending_above (x + 1) n xs h.1 k in let first = h.0 in omega arith

-- the test tells ascending lists
pub ascends_told : (low : ℕ) (xs : List ℕ) → IsTrue (ascends_from low xs) ↔ IsAscendingFrom low xs
ascends_told low xs = (from low xs, to low xs)
  where
    from : (low : ℕ) (xs : List ℕ) → IsTrue (ascends_from low xs) → IsAscendingFrom low xs
    from low [] h = tt
    from low (x ∷ xs) h = let k = and_parts (nat_le low x) (ascends_from (x + 1) xs) h in (let first = k.0 in grind (arith, nat_tests), from (x + 1) xs k.1)

    to : (low : ℕ) (xs : List ℕ) → IsAscendingFrom low xs → IsTrue (ascends_from low xs)
    to low [] h = refl
    to low (x ∷ xs) h = and_both (nat_le low x) (ascends_from (x + 1) xs) (let first = h.0 in grind (arith, nat_tests)) (to (x + 1) xs h.1)

pub ascending_lower : (low less : ℕ) (xs : List ℕ) → less ≤ low → IsAscendingFrom low xs → IsAscendingFrom less xs
ascending_lower low less [] l h = tt
ascending_lower low less (x ∷ xs) l h = (let first = h.0 in omega arith, h.1)

-- where the items of an ascending list are items of another, it is no longer
pub ascending_shorter : (low bottom : ℕ) (xs ys : List ℕ) → IsAscendingFrom low xs → IsAscendingFrom bottom ys
    → ((n : ℕ) → IsAmong n xs → IsAmong n ys) → length xs ≤ length ys
ascending_shorter low bottom [] ys h k f = omega arith
ascending_shorter low bottom (x ∷ xs) [] h k f = absurd (f x (inl refl))
ascending_shorter low bottom (x ∷ xs) (y ∷ ys) h k f =
    at_first (f x (inl refl)) (λ e. ascending_shorter (x + 1) (y + 1) xs ys h.1 k.1 (others e)) (λ b. ascending_shorter low (y + 1) (x ∷ xs) ys h k.1 (rest b))
  where
    others : x ≡ y → (n : ℕ) → IsAmong n xs → IsAmong n ys
    others e n a = pick (f n (inr a))
      where
        pick : IsAmong n (y ∷ ys) → IsAmong n ys
        pick (inl d) = let above = ascending_above (x + 1) n xs h.1 a in absurd (omega (arith, above, d, e))
        pick (inr b) = b

    rest : IsAmong x ys → (n : ℕ) → IsAmong n (x ∷ xs) → IsAmong n ys
    rest b n a = pick (f n a)
      where
        pick : IsAmong n (y ∷ ys) → IsAmong n ys
        pick (inl d) =
            let above = ascending_above x n (x ∷ xs) (omega arith, h.1) a in
            let below = ascending_above (y + 1) x ys k.1 b in
            absurd (omega (arith, above, below, d))
        pick (inr c) = c

    at_first : IsAmong x (y ∷ ys) → (x ≡ y → length xs ≤ length ys) → (IsAmong x ys → length (x ∷ xs) ≤ length ys) → length (x ∷ xs) ≤ length (y ∷ ys)
    at_first (inl e) g l = let less = g e in omega (arith, less)
    at_first (inr b) g l = let less = l b in omega (arith, less)

-- ---- successive numbers
pub range_ascends : (low n : ℕ) → IsAscendingFrom low (range_with_len low n)
range_ascends low zero = tt
range_ascends low (suc n) = (omega arith, range_ascends (low + 1) n)

pub range_has : (low n k : ℕ) → low ≤ k → k < low + n → IsAmong k (range_with_len low n)
range_has low zero k a b = absurd (omega arith)
range_has low (suc n) k a b = at_first (k == low) refl (λ apart. range_has (low + 1) n k (omega arith) (omega arith))
  where
    at_first : (b : Bool) → b ≡ (k == low) → (low < k → IsAmong k (range_with_len (low + 1) n)) → IsAmong k (range_with_len low (suc n))
    at_first true e f = inl (number_told k low (sym e))
    at_first false e f = inr (f (grind (arith, nat_tests)))

pub range_within : (low n k : ℕ) → IsAmong k (range_with_len low n) → (low ≤ k) × (k < low + n)
range_within low zero k h = absurd h
range_within low (suc n) k (inl e) = (omega arith, omega arith)
range_within low (suc n) k (inr h) = let r = range_within (low + 1) n k h in (omega (arith, r.0), omega (arith, r.1))

-- ascending lists with the same items are the same
pub ascending_same : (low bottom : ℕ) (xs ys : List ℕ) → IsAscendingFrom low xs → IsAscendingFrom bottom ys
    → ((n : ℕ) → IsAmong n xs → IsAmong n ys) → ((n : ℕ) → IsAmong n ys → IsAmong n xs) → xs ≡ ys
ascending_same low bottom [] [] h k f g = refl
ascending_same low bottom [] (y ∷ ys) h k f g = absurd (g y (inl refl))
ascending_same low bottom (x ∷ xs) [] h k f g = absurd (f x (inl refl))
ascending_same low bottom (x ∷ xs) (y ∷ ys) h k f g =
    let over : y ≤ x = ascending_above y x (y ∷ ys) (omega arith, k.1) (f x (inl refl)) in
    let under : x ≤ y = ascending_above x y (x ∷ xs) (omega arith, h.1) (g y (inl refl)) in
    let first : x ≡ y = omega (arith, over, under) in
    ap (λ z. z ∷ xs) first ∙ ap (λ zs. y ∷ zs) (ascending_same (x + 1) (y + 1) xs ys h.1 k.1 (onwards first) (back first))
  where
    onwards : x ≡ y → (n : ℕ) → IsAmong n xs → IsAmong n ys
    onwards e n a = pick (f n (inr a))
      where
        pick : IsAmong n (y ∷ ys) → IsAmong n ys
        pick (inl d) = let above = ascending_above (x + 1) n xs h.1 a in absurd (omega (arith, above, d, e))
        pick (inr b) = b

    back : x ≡ y → (n : ℕ) → IsAmong n ys → IsAmong n xs
    back e n a = pick (g n (inr a))
      where
        pick : IsAmong n (x ∷ xs) → IsAmong n xs
        pick (inl d) = let above = ascending_above (y + 1) n ys k.1 a in absurd (omega (arith, above, d, e))
        pick (inr b) = b
