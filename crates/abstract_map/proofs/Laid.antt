-- Cells laid over others, one by one, by their keys.
use Rattle.std.proofs.Common.{◌≡◌, ℕ, ◌+◌, ◌<◌, ◌≤◌, Bool, true, false, suc, List, [], ◌∷◌, ◌++◌, Option, Some, None, map, length, take, get_or, ltb, eqb, cond, refl, sym, ap, subst, ◌∙◌, arith, ◌⊎◌, inl, inr}
use Rattle.std.specs.Prelude.{◌||◌, is_some}
use Rattle.std.proofs.Math.Seq.{take-suc}
use Rattle.std.proofs.lemmas.Bool.Decides.{nat_tests}
use Rattle.base_trait.specs.Lists.{Each, IsAscendingFrom, IsAmong}
use Rattle.base_trait.proofs.Lists.{number_told}
use Rattle.abstract_cell_tree.specs.Entries.{listed_at, put}
use Rattle.abstract_map_laws.specs.Keys.{has_key, with_key, either_key}
use Rattle.abstract_map_laws.proofs.KeyLists.{either_left, has_from, has_not, with_ascends}
use Rattle.abstract_map.proofs.Ascending.{listed_past, sort_numbers}
use Rattle.abstract_map.proofs.ByKey.{listed_has}
use Rattle.abstract_map.proofs.Named.{has_push}

apart_below : (m n : ℕ) → m < n → eqb m n ≡ false
apart_below m n h = grind (arith, nat_tests)

same_is : (m n : ℕ) → m ≡ n → eqb m n ≡ true
same_is m n h = grind (arith, nat_tests)

apart_tests : true ≡ false → ⊥
apart_tests h = cc

pub each_zero : (ks : List ℕ) → Each (λ k. 0 ≤ k) ks
each_zero [] = tt
each_zero (k ∷ ks) = (omega arith, each_zero ks)

module _ {A : Type 0} where
  none_some : (x : A) → ◌≡◌ {A = Option A} None (Some x) → ⊥
  none_some x h = cc

  told : (x y : A) → ◌≡◌ {A = Option A} (Some x) (Some y) → x ≡ y
  told x y h = cc

  swapped : (a b : Bool) (u v w : Option A) → (a ≡ true → b ≡ true → ⊥) → cond a u (cond b v w) ≡ cond b v (cond a u w)
  swapped true true u v w h = absurd (h refl refl)
  swapped true false u v w h = refl
  swapped false true u v w h = refl
  swapped false false u v w h = refl

  hidden : (a : Bool) (u v w : Option A) → cond a u w ≡ cond a u (cond a v w)
  hidden true u v w = refl
  hidden false u v w = refl

  -- what is listed once a value is put
  listed_put : (j k : ℕ) (x : A) (es : List (ℕ × A)) → listed_at j (put k x es) ≡ cond (eqb k j) (Some x) (listed_at j es)
  listed_put j k x [] = refl
  listed_put j k x (e ∷ es) = by_tests (ltb k e.0) (eqb k e.0) (λ t. number_told k e.0 t) (λ t s r. apart t (number_told e.0 j s) (number_told k j r)) (listed_put j k x es)
    where
      apart : eqb k e.0 ≡ false → e.0 ≡ j → k ≡ j → ⊥
      apart t s r = let u = same_is k e.0 (r ∙ sym s) in cc

      by_tests : (a b : Bool) → (b ≡ true → k ≡ e.0) → (b ≡ false → eqb e.0 j ≡ true → eqb k j ≡ true → ⊥) → listed_at j (put k x es) ≡ cond (eqb k j) (Some x) (listed_at j es)
          → listed_at j (cond a ((k, x) ∷ e ∷ es) (cond b ((k, x) ∷ es) (e ∷ put k x es))) ≡ cond (eqb k j) (Some x) (cond (eqb e.0 j) (Some e.1) (listed_at j es))
      by_tests true b s n later = refl
      by_tests false true s n later = hidden (eqb k j) (Some x) (Some e.1) (listed_at j es) ∙ ap (λ i. cond (eqb k j) (Some x) (cond (eqb i j) (Some e.1) (listed_at j es))) (s refl)
      by_tests false false s n later = ap (λ o. cond (eqb e.0 j) (Some e.1) o) later ∙ swapped (eqb e.0 j) (eqb k j) (Some e.1) (Some x) (listed_at j es) (n refl)

  put_keys : (k : ℕ) (x : A) (es : List (ℕ × A)) → map (λ e. e.0) (put k x es) ≡ with_key k (map (λ e. e.0) es)
  put_keys k x [] = refl
  put_keys k x (e ∷ es) = by_tests (ltb k e.0) (eqb k e.0) (λ t. number_told k e.0 t) (put_keys k x es)
    where
      by_tests : (a b : Bool) → (b ≡ true → k ≡ e.0) → map (λ e. e.0) (put k x es) ≡ with_key k (map (λ e. e.0) es)
          → map (λ e. e.0) (cond a ((k, x) ∷ e ∷ es) (cond b ((k, x) ∷ es) (e ∷ put k x es))) ≡ cond a (k ∷ e.0 ∷ map (λ e. e.0) es) (cond b (e.0 ∷ map (λ e. e.0) es) (e.0 ∷ with_key k (map (λ e. e.0) es)))
      by_tests true b s later = refl
      by_tests false true s later = ap (λ i. i ∷ map (λ e. e.0) es) (s refl)
      by_tests false false s later = ap (λ l. e.0 ∷ l) later

  put_ascends : (k : ℕ) (x : A) (es : List (ℕ × A)) → IsAscendingFrom 0 (map (λ e. e.0) es) → IsAscendingFrom 0 (map (λ e. e.0) (put k x es))
  put_ascends k x es h = subst (λ l. IsAscendingFrom 0 l) (sym (put_keys k x es)) (with_ascends 0 k (map (λ e. e.0) es) (omega arith) h)

  -- ascending entries of which the same is listed at each key are the same
  same_listed : (low : ℕ) (xs ys : List (ℕ × A)) → IsAscendingFrom low (map (λ e. e.0) xs) → IsAscendingFrom low (map (λ e. e.0) ys) → ((j : ℕ) → listed_at j xs ≡ listed_at j ys) → xs ≡ ys
  same_listed low [] [] h g s = refl
  same_listed low [] (e ∷ ys) h g s = absurd (none_some e.1 (s e.0 ∙ ap (λ b. cond b (Some e.1) (listed_at e.0 ys)) (same_is e.0 e.0 refl)))
  same_listed low (d ∷ xs) [] h g s = absurd (none_some d.1 (sym (s d.0) ∙ ap (λ b. cond b (Some d.1) (listed_at d.0 xs)) (same_is d.0 d.0 refl)))
  same_listed low (d ∷ xs) (e ∷ ys) h g s = sorted (sort_numbers d.0 e.0) (λ t. same_listed (d.0 + 1) xs ys h.1 t)
    where
      here : Some d.1 ≡ cond (eqb e.0 d.0) (Some e.1) (listed_at d.0 ys)
      here = sym (ap (λ b. cond b (Some d.1) (listed_at d.0 xs)) (same_is d.0 d.0 refl)) ∙ s d.0

      there : cond (eqb d.0 e.0) (Some d.1) (listed_at e.0 xs) ≡ Some e.1
      there = s e.0 ∙ ap (λ b. cond b (Some e.1) (listed_at e.0 ys)) (same_is e.0 e.0 refl)

      behind : (a b : Bool) (j : ℕ) → (a ≡ true → d.0 ≡ j) → a ≡ b → IsAscendingFrom (d.0 + 1) (map (λ e. e.0) ys) → cond a (Some d.1) (listed_at j xs) ≡ cond b (Some e.1) (listed_at j ys) → listed_at j xs ≡ listed_at j ys
      behind true b j f t o r = let same = f refl in sym (listed_past (d.0 + 1) j xs (omega (arith, same)) h.1) ∙ listed_past (d.0 + 1) j ys (omega (arith, same)) o
      behind false true j f t o r = cc
      behind false false j f t o r = r

      sorted : (d.0 < e.0) ⊎ ((d.0 ≡ e.0) ⊎ (e.0 < d.0)) → (IsAscendingFrom (d.0 + 1) (map (λ e. e.0) ys) → ((j : ℕ) → listed_at j xs ≡ listed_at j ys) → xs ≡ ys) → d ∷ xs ≡ e ∷ ys
      sorted (inl less) later = absurd (none_some d.1 (listed_past (e.0 + 1) d.0 ys (omega (arith, less)) g.1 ∙ sym (here ∙ ap (λ b. cond b (Some e.1) (listed_at d.0 ys)) (above_not e.0 d.0 less))))
        where
          above_not : (m n : ℕ) → n < m → eqb m n ≡ false
          above_not m n h = grind (arith, nat_tests)
      sorted (inr (inl same)) later =
          let order = subst (λ n. IsAscendingFrom (n + 1) (map (λ e. e.0) ys)) (sym same) g.1 in
          let value : d.1 ≡ e.1 = told d.1 e.1 (here ∙ ap (λ b. cond b (Some e.1) (listed_at d.0 ys)) (same_is e.0 d.0 (sym same))) in
          let first : d ≡ e = ap (λ (k : ℕ). (k, d.1)) same ∙ ap (λ (x : A). (e.0, x)) value in
          ap (λ z. z ∷ xs) first ∙ ap (λ l. e ∷ l) (later order (λ j. behind (eqb d.0 j) (eqb e.0 j) j (λ t. number_told d.0 j t) (ap (λ n. eqb n j) same) order (s j)))
      sorted (inr (inr more)) later = absurd (none_some e.1 (listed_past (d.0 + 1) e.0 xs (omega (arith, more)) h.1 ∙ sym (ap (λ b. cond b (Some d.1) (listed_at e.0 xs)) (above_not d.0 e.0 more)) ∙ there))
        where
          above_not : (m n : ℕ) → n < m → eqb m n ≡ false
          above_not m n h = grind (arith, nat_tests)

module _ {A : Type 0} (F : ℕ → A) where
  listed_made : (j : ℕ) (ks : List ℕ) → listed_at j (map (λ k. (k, F k)) ks) ≡ cond (has_key ks j) (Some (F j)) None
  listed_made j [] = refl
  listed_made j (k ∷ ks) = by_test (eqb k j) (λ t. number_told k j t) (listed_made j ks)
    where
      by_test : (b : Bool) → (b ≡ true → k ≡ j) → listed_at j (map (λ k. (k, F k)) ks) ≡ cond (has_key ks j) (Some (F j)) None
          → cond b (Some (F k)) (listed_at j (map (λ k. (k, F k)) ks)) ≡ cond (b || has_key ks j) (Some (F j)) None
      by_test true f later = ap (λ i. Some (F i)) (f refl)
      by_test false f later = later

  made_keys : (ks : List ℕ) → map (λ (e : ℕ × A). e.0) (map (λ k. (k, F k)) ks) ≡ ks
  made_keys [] = refl
  made_keys (k ∷ ks) = ap (λ l. k ∷ l) (made_keys ks)

  -- the first keys have their cells, and what is listed at others is as it was
  pub record Laid (es out : List (ℕ × A)) (ks : List ℕ) : Type 0 where
    pub order : IsAscendingFrom 0 (map (λ e. e.0) out)
    pub listed : (j : ℕ) → listed_at j out ≡ cond (has_key ks j) (Some (F j)) (listed_at j es)

  laid_next : (es out next : List (ℕ × A)) (ks : List ℕ) (k : ℕ) (v : A) → Laid es out ks → v ≡ F k → ((Some v ≡ listed_at k es) × (next ≡ out)) ⊎ (next ≡ put k v out) → Laid es next (ks ++ k ∷ [])
  laid_next es out next ks k v h e (inl p) = record {
    order = subst (λ l. IsAscendingFrom 0 (map (λ e. e.0) l)) (sym p.1) h.order;
    listed = λ j. ap (listed_at j) p.1 ∙ h.listed j ∙ by_test j (eqb k j) (has_key ks j) (λ t. number_told k j t) ∙ sym (ap (λ b. cond b (Some (F j)) (listed_at j es)) (has_push ks k j));
  }
    where
      by_test : (j : ℕ) (a b : Bool) → (a ≡ true → k ≡ j) → cond b (Some (F j)) (listed_at j es) ≡ cond (b || (a || false)) (Some (F j)) (listed_at j es)
      by_test j a true f = refl
      by_test j false false f = refl
      by_test j true false f = let same = f refl in sym (ap (λ i. listed_at i es) same) ∙ sym p.0 ∙ ap Some (e ∙ ap F same)
  laid_next es out next ks k v h e (inr q) = record {
    order = subst (λ l. IsAscendingFrom 0 (map (λ e. e.0) l)) (sym q) (put_ascends k v out h.order);
    listed = λ j. ap (listed_at j) q ∙ listed_put j k v out ∙ ap (λ o. cond (eqb k j) (Some v) o) (h.listed j) ∙ by_test j (eqb k j) (has_key ks j) (λ t. number_told k j t) ∙ sym (ap (λ b. cond b (Some (F j)) (listed_at j es)) (has_push ks k j));
  }
    where
      by_test : (j : ℕ) (a b : Bool) → (a ≡ true → k ≡ j) → cond a (Some v) (cond b (Some (F j)) (listed_at j es)) ≡ cond (b || (a || false)) (Some (F j)) (listed_at j es)
      by_test j false true f = refl
      by_test j false false f = refl
      by_test j true true f = ap Some (e ∙ ap F (f refl))
      by_test j true false f = ap Some (e ∙ ap F (f refl))

  pub laid_put : (es out : List (ℕ × A)) (ks : List ℕ) (k : ℕ) (v : A) → Laid es out ks → v ≡ F k → Laid es (put k v out) (ks ++ k ∷ [])
  laid_put es out ks k v h e = laid_next es out (put k v out) ks k v h e (inr refl)

  -- its own keys
  pub laid_first : (es : List (ℕ × A)) → IsAscendingFrom 0 (map (λ e. e.0) es) → Laid es (map (λ k. (k, F k)) (map (λ e. e.0) es)) (map (λ e. e.0) es)
  laid_first es h = record {
    order = subst (λ l. IsAscendingFrom 0 l) (sym (made_keys (map (λ e. e.0) es))) h;
    listed = λ j. listed_made j (map (λ e. e.0) es) ∙ by_test j (has_key (map (λ e. e.0) es) j) (listed_at j es) refl (listed_has j es);
  }
    where
      by_test : (j : ℕ) (b : Bool) (o : Option A) → has_key (map (λ e. e.0) es) j ≡ b → is_some o ≡ has_key (map (λ e. e.0) es) j → cond b (Some (F j)) None ≡ cond b (Some (F j)) o
      by_test j true o t s = refl
      by_test j false None t s = refl
      by_test j false (Some x) t s = absurd (apart_tests (s ∙ t))

  -- where the keys are those of both, nothing else is left
  pub laid_all : (es out : List (ℕ × A)) (js ks : List ℕ) → ks ≡ either_key (map (λ e. e.0) es) js → IsAscendingFrom 0 ks → Laid es out ks → out ≡ map (λ k. (k, F k)) ks
  laid_all es out js ks e order h =
      same_listed 0 out (map (λ k. (k, F k)) ks) h.order (subst (λ l. IsAscendingFrom 0 l) (sym (made_keys ks)) order)
      (λ j. h.listed j ∙ by_test j (has_key ks j) (listed_at j es) refl refl ∙ sym (listed_made j ks))
    where
      by_test : (j : ℕ) (b : Bool) (o : Option A) → has_key ks j ≡ b → listed_at j es ≡ o → cond b (Some (F j)) o ≡ cond b (Some (F j)) None
      by_test j true o t s = refl
      by_test j false None t s = refl
      by_test j false (Some x) t s =
          absurd (has_not j ks t (subst (λ l. IsAmong j l) (sym e) (either_left j (map (λ e. e.0) es) js (has_from j (map (λ e. e.0) es) (sym (listed_has j es) ∙ ap is_some s)))))
