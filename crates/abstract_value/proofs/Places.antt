-- Constructors as a list, place by place.
use Rattle.std.proofs.Common.{◌≡◌, ℕ, zero, suc, ◌+◌, ◌-◌, ◌<◌, ◌≤◌, Bool, true, false, Option, Some, None, List, [], ◌∷◌, ◌++◌, length, get_or, replicate, refl, sym, ap, subst, ◌∙◌, arith}
use Rattle.std.specs.Prelude.{◌==◌, if◌then◌else◌, is_some, option_map, IfSome}
use Rattle.base_trait.proofs.Lists.{number_itself, number_told}
use Rattle.abstract_value.specs.Constructors.{AreOnly, Below, IsOnly, fields_in, only, places}

differ : (m k : ℕ) → (m ≡ k → ⊥) → (m == k) ≡ false
differ m k n = by (m == k) refl
  where
    by : (b : Bool) → (m == k) ≡ b → (m == k) ≡ false
    by true e = absurd (n (number_told m k e))
    by false e = e

-- the default of a place that is there
pub at_itself : {A : Type 0} (xs : List A) (i : ℕ) (d : A) → i < length xs → get_or xs i d ≡ get_or xs i (get_or xs i d)
at_itself [] i d h = absurd (omega (arith, h))
at_itself (x ∷ xs) zero d h = refl
at_itself (x ∷ xs) (suc i) d h = at_itself xs i d (omega (arith, h))

module _ {T : Type 0} where
  pub length_places : (es : List (ℕ × List T)) (k n : ℕ) → length (places es k n) ≡ n
  length_places es k zero = refl
  length_places es k (suc n) = ap (λ m. suc m) (length_places es (suc k) n)

  pub at_place : (es : List (ℕ × List T)) (k n i : ℕ) → i < n → get_or (places es k n) i None ≡ fields_in es (k + i)
  at_place es k zero i h = absurd (omega (arith, h))
  at_place es k (suc n) zero h = let e : k ≡ k + 0 = omega arith in ap (λ m. fields_in es m) e
  at_place es k (suc n) (suc i) h = let e : suc k + i ≡ k + suc i = omega arith in at_place es (suc k) n i (omega (arith, h)) ∙ ap (λ m. fields_in es m) e

  pub past_places : (es : List (ℕ × List T)) (k n i : ℕ) → n ≤ i → get_or (places es k n) i None ≡ None
  past_places es k zero i h = refl
  past_places es k (suc n) zero h = absurd (omega (arith, h))
  past_places es k (suc n) (suc i) h = past_places es (suc k) n i (omega (arith, h))

  -- ---- one more
  none_at : (es : List (ℕ × List T)) (n k : ℕ) → Below n es → n ≤ k → fields_in es k ≡ None
  none_at [] n k b h = refl
  none_at (e ∷ es) n k b h = ap (λ t. if t then Some e.1 else fields_in es k) (differ e.0 k (λ s. omega (arith, b.0, h, s))) ∙ none_at es n k b.1 h

  other_behind : (es : List (ℕ × List T)) (n : ℕ) (f : List T) (k : ℕ) → (n ≡ k → ⊥) → fields_in (es ++ (n, f) ∷ []) k ≡ fields_in es k
  other_behind [] n f k d = ap (λ t. if t then Some f else None) (differ n k d)
  other_behind (e ∷ es) n f k d = ap (λ z. if e.0 == k then Some e.1 else z) (other_behind es n f k d)

  this_behind : (es : List (ℕ × List T)) (n : ℕ) (f : List T) → Below n es → fields_in (es ++ (n, f) ∷ []) n ≡ Some f
  this_behind [] n f b = ap (λ t. if t then Some f else None) (number_itself n)
  this_behind (e ∷ es) n f b = ap (λ t. if t then Some e.1 else fields_in (es ++ (n, f) ∷ []) n) (differ e.0 n (λ s. omega (arith, b.0, s))) ∙ this_behind es n f b.1

  same_places : (es fs : List (ℕ × List T)) (k n : ℕ) → ((i : ℕ) → k ≤ i → i < k + n → fields_in es i ≡ fields_in fs i) → places es k n ≡ places fs k n
  same_places es fs k zero h = refl
  same_places es fs k (suc n) h = ap (λ z. z ∷ places es (suc k) n) (h k (omega arith) (omega arith)) ∙ ap (λ l. fields_in fs k ∷ l) (same_places es fs (suc k) n (λ i a b. h i (omega (arith, a)) (omega (arith, b))))

  places_more : (es : List (ℕ × List T)) (k n : ℕ) → places es k (suc n) ≡ places es k n ++ fields_in es (k + n) ∷ []
  places_more es k zero = let e : k ≡ k + 0 = omega arith in ap (λ m. fields_in es m ∷ []) e
  places_more es k (suc n) = let e : suc k + n ≡ k + suc n = omega arith in ap (λ l. fields_in es k ∷ l) (places_more es (suc k) n ∙ ap (λ m. places es (suc k) n ++ fields_in es m ∷ []) e)

  whole_more : (es : List (ℕ × List T)) (n : ℕ) → places es 0 (n + 1) ≡ places es 0 n ++ fields_in es n ∷ []
  whole_more es n =
      let a : n + 1 ≡ suc n = omega arith in
      let e : 0 + n ≡ n = omega arith in
      ap (λ m. places es 0 m) a ∙ places_more es 0 n ∙ ap (λ m. places es 0 n ++ fields_in es m ∷ []) e

  pub one_behind : (es : List (ℕ × List T)) (n : ℕ) (f : List T) → Below n es → places (es ++ (n, f) ∷ []) 0 (n + 1) ≡ places es 0 n ++ Some f ∷ []
  one_behind es n f b =
      whole_more (es ++ (n, f) ∷ []) n ∙ ap (λ l. l ++ fields_in (es ++ (n, f) ∷ []) n ∷ []) (same_places (es ++ (n, f) ∷ []) es 0 n (λ i p q. other_behind es n f i (λ s. omega (arith, q, s))))
      ∙ ap (λ z. places es 0 n ++ z ∷ []) (this_behind es n f b)

  pub none_behind : (es : List (ℕ × List T)) (n : ℕ) → Below n es → places es 0 (n + 1) ≡ places es 0 n ++ None ∷ []
  none_behind es n b = let l : n ≤ n = omega arith in whole_more es n ∙ ap (λ z. places es 0 n ++ z ∷ []) (none_at es n n b l)

  pub below_more : (es : List (ℕ × List T)) (n : ℕ) → Below n es → Below (n + 1) es
  below_more [] n b = tt
  below_more (e ∷ es) n b = (omega (arith, b.0), below_more es n b.1)

  pub below_behind : (es : List (ℕ × List T)) (n : ℕ) (f : List T) → Below n es → Below (n + 1) (es ++ (n, f) ∷ [])
  below_behind [] n f b = (omega arith, tt)
  below_behind (e ∷ es) n f b = (omega (arith, b.0), below_behind es n f b.1)

  -- ---- one alone
  none_from : (k : ℕ) (f : List T) (j n : ℕ) → k < j → places ((k, f) ∷ []) j n ≡ replicate n None
  none_from k f j zero h = refl
  none_from k f j (suc n) h = ap (λ t. (if t then Some f else None) ∷ places ((k, f) ∷ []) (suc j) n) (differ k j (λ s. omega (arith, h, s))) ∙ ap (λ l. None ∷ l) (none_from k f (suc j) n (omega (arith, h)))

  one_from : (j d n : ℕ) (f : List T) → d < n → places ((j + d, f) ∷ []) j n ≡ only n d f
  one_from j d zero f h = absurd (omega (arith, h))
  one_from j zero (suc n) f h =
      let e : j ≡ j + 0 = omega arith in
      let m : n ≡ suc n - 0 - 1 = omega arith in
      ap (λ t. (if t then Some f else None) ∷ places ((j + 0, f) ∷ []) (suc j) n) (ap (λ k. k == j) (sym e) ∙ number_itself j) ∙ ap (λ l. Some f ∷ l) (none_from (j + 0) f (suc j) n (omega arith)) ∙ ap (λ k. Some f ∷ replicate k None) m
  one_from j (suc d) (suc n) f h =
      let e : j + suc d ≡ suc j + d = omega arith in
      let m : n - d - 1 ≡ suc n - suc d - 1 = omega arith in
      ap (λ t. (if t then Some f else None) ∷ places ((j + suc d, f) ∷ []) (suc j) n) (differ (j + suc d) j (λ s. omega (arith, s))) ∙ ap (λ k. None ∷ places ((k, f) ∷ []) (suc j) n) e
      ∙ ap (λ l. None ∷ l) (one_from (suc j) d n f (omega (arith, h))) ∙ ap (λ k. None ∷ ((replicate d None ++ Some f ∷ []) ++ replicate k None)) m

  pub one_alone : (n k : ℕ) (f : List T) → k < n → places ((k, f) ∷ []) 0 n ≡ only n k f
  one_alone n k f h = let e : k ≡ 0 + k = omega arith in ap (λ m. places ((m, f) ∷ []) 0 n) e ∙ one_from 0 k n f h

  -- what stands at the place of the one
  pub at_only : (n k : ℕ) (f : List T) → k < n → get_or (only n k f) k None ≡ Some f
  at_only n k f h = ap (λ l. get_or l k None) (sym (one_alone n k f h)) ∙ at_place ((k, f) ∷ []) 0 n k h ∙ (let e : 0 + k ≡ k = omega arith in ap (λ m. fields_in ((k, f) ∷ []) m) e) ∙ ap (λ t. if t then Some f else None) (number_itself k)

  pub at_alone : (l : List (Option (List T))) (k : ℕ) (f : List T) → IsOnly l k f → get_or l k None ≡ Some f
  at_alone l k f o = ap (λ m. get_or m k None) o.is ∙ at_only (length l) k f o.within

  -- held alone
  pub held_alone : (n k : ℕ) (f : List T) → k < n → IsOnly (places ((k, f) ∷ []) 0 n) k f
  held_alone n k f h =
      let same = length_places ((k, f) ∷ []) 0 n in
      record { within = subst (λ m. k < m) (sym same) h; is = one_alone n k f h ∙ ap (λ m. only m k f) (sym same) }

-- whether an option is there, seen in another way
pub still_some : {A D : Type 0} (f : A → D) (o : Option A) → is_some (option_map f o) ≡ is_some o
still_some f None = refl
still_some f (Some x) = refl

-- what is said of an option that is there
pub when_some : {A : Type 0} (P : A → Type 0) (o : Option A) (x : A) → o ≡ Some x → IfSome o P → P x
when_some P o x e h = subst (λ z. IfSome z P) e h

pub at_whole : {T : Type 0} (es : List (ℕ × List T)) (n k : ℕ) → k < n → get_or (places es 0 n) k None ≡ fields_in es k
at_whole es n k h = let e : 0 + k ≡ k = omega arith in at_place es 0 n k h ∙ ap (λ m. fields_in es m) e
