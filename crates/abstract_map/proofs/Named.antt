-- Cells changed at some of their keys.
use Rattle.std.proofs.Common.{◌≡◌, ℕ, ◌+◌, ◌<◌, ◌≤◌, Bool, true, false, suc, List, [], ◌∷◌, ◌++◌, Option, Some, None, map, length, take, get_or, ltb, eqb, cond, refl, sym, ap, subst, ◌∙◌, arith, ◌⊎◌, inl, inr}
use Rattle.std.specs.Prelude.{◌||◌, option_map}
use Rattle.std.proofs.Math.Seq.{take-suc}
use Rattle.std.proofs.lemmas.Bool.Decides.{nat_tests}
use Rattle.base_trait.specs.Lists.{IsAscendingFrom, Each}
use Rattle.abstract_cell_tree.specs.Entries.{listed_at, put}
use Rattle.abstract_map_laws.specs.Keys.{has_key}
use Rattle.abstract_map.specs.Placed.{placed}
use Rattle.abstract_map.proofs.Ascending.{listed_past, sort_numbers}

below_not : (m n : ℕ) → n ≤ m → ltb m n ≡ false
below_not m n h = grind (arith, nat_tests)

apart_below : (m n : ℕ) → m < n → eqb m n ≡ false
apart_below m n h = grind (arith, nat_tests)

apart_above : (m n : ℕ) → n < m → eqb m n ≡ false
apart_above m n h = grind (arith, nat_tests)

same_is : (m n : ℕ) → m ≡ n → eqb m n ≡ true
same_is m n h = grind (arith, nat_tests)

turned : (m n : ℕ) → eqb m n ≡ false → eqb n m ≡ false
turned m n h = grind (arith, nat_tests)

pub or_false : (b : Bool) → b || (false || false) ≡ b
or_false true = refl
or_false false = refl

pub or_true : (b : Bool) → b || (true || false) ≡ true
or_true true = refl
or_true false = refl

-- one more key
pub has_push : (ks : List ℕ) (k j : ℕ) → has_key (ks ++ k ∷ []) j ≡ has_key ks j || (eqb k j || false)
has_push [] k j = refl
has_push (i ∷ ks) k j = by_test (eqb i j) (has_push ks k j)
  where
    by_test : (b : Bool) → has_key (ks ++ k ∷ []) j ≡ has_key ks j || (eqb k j || false) → b || has_key (ks ++ k ∷ []) j ≡ (b || has_key ks j) || (eqb k j || false)
    by_test true later = refl
    by_test false later = later

has_apart : (ks : List ℕ) (k j : ℕ) → eqb k j ≡ false → has_key (ks ++ k ∷ []) j ≡ has_key ks j
has_apart ks k j h = has_push ks k j ∙ ap (λ b. has_key ks j || (b || false)) h ∙ or_false (has_key ks j)

has_itself : (ks : List ℕ) (k j : ℕ) → eqb k j ≡ true → has_key (ks ++ k ∷ []) j ≡ true
has_itself ks k j h = has_push ks k j ∙ ap (λ b. has_key ks j || (b || false)) h ∙ or_true (has_key ks j)

module _ {A : Type 0} where
  -- what holds of each holds of what is listed
  pub listed_each : (P : A → Type 0) (k : ℕ) (es : List (ℕ × A)) (y : A) → Each (λ e. P e.1) es → Some y ≡ listed_at k es → P y
  listed_each P k [] y h e = cc
  listed_each P k (x ∷ es) y h e = by_test (eqb x.0 k) e (λ l. listed_each P k es y h.1 l)
    where
      told : (u v : A) → Some u ≡ Some v → u ≡ v
      told u v s = cc

      by_test : (b : Bool) → Some y ≡ cond b (Some x.1) (listed_at k es) → (Some y ≡ listed_at k es → P y) → P y
      by_test true s later = subst P (sym (told y x.1 s)) h.0
      by_test false s later = later s

module _ {A : Type 0} (J : A → A) where
  abbrev change : List ℕ → ℕ × A → ℕ × A
  change ks e = (e.0, cond (has_key ks e.0) (J e.1) e.1)

  none_changed : (ks : List ℕ) (k : ℕ) (es : List (ℕ × A)) → None ≡ listed_at k es → map (change ks) es ≡ map (change (ks ++ k ∷ [])) es
  none_changed ks k [] h = refl
  none_changed ks k (e ∷ es) h = by_test (eqb e.0 k) refl h (λ l. none_changed ks k es l)
    where
      by_test : (b : Bool) → eqb e.0 k ≡ b → None ≡ cond b (Some e.1) (listed_at k es)
          → (None ≡ listed_at k es → map (change ks) es ≡ map (change (ks ++ k ∷ [])) es)
          → map (change ks) (e ∷ es) ≡ map (change (ks ++ k ∷ [])) (e ∷ es)
      by_test true t s later = cc
      by_test false t s later =
          let first : Bool → List (ℕ × A) = λ b. (e.0, cond b (J e.1) e.1) ∷ map (change ks) es in
          ap first (sym (has_apart ks k e.0 (turned e.0 k t))) ∙ ap (λ l. change (ks ++ k ∷ []) e ∷ l) (later s)

  some_changed : (low : ℕ) (ks : List ℕ) (k : ℕ) (y : A) (es : List (ℕ × A)) → IsAscendingFrom low (map (λ e. e.0) es) → Some y ≡ listed_at k es
      → put k (J y) (map (change ks) es) ≡ map (change (ks ++ k ∷ [])) es
  some_changed low ks k y [] h s = cc
  some_changed low ks k y (e ∷ es) h s = sorted (sort_numbers e.0 k) (λ l. some_changed (e.0 + 1) ks k y es h.1 l)
    where
      told : (u v : A) → Some u ≡ Some v → u ≡ v
      told u v s = cc

      sorted : (e.0 < k) ⊎ ((e.0 ≡ k) ⊎ (k < e.0))
          → (Some y ≡ listed_at k es → put k (J y) (map (change ks) es) ≡ map (change (ks ++ k ∷ [])) es)
          → put k (J y) (map (change ks) (e ∷ es)) ≡ map (change (ks ++ k ∷ [])) (e ∷ es)
      sorted (inl less) later =
          let apart = apart_below e.0 k less in
          let there : Some y ≡ listed_at k es = s ∙ ap (λ b. cond b (Some e.1) (listed_at k es)) apart in
          let first : Bool → List (ℕ × A) = λ b. (e.0, cond b (J e.1) e.1) ∷ put k (J y) (map (change ks) es) in
          rw (below_not k e.0 (omega (arith, less)), turned e.0 k apart)
          (ap first (sym (has_apart ks k e.0 (turned e.0 k apart))) ∙ ap (λ l. change (ks ++ k ∷ []) e ∷ l) (later there))
      sorted (inr (inl same)) later =
          let here : y ≡ e.1 = told y e.1 (s ∙ ap (λ b. cond b (Some e.1) (listed_at k es)) (same_is e.0 k same)) in
          let nothing = listed_past (e.0 + 1) k es (omega (arith, same)) h.1 in
          let value : A → List (ℕ × A) = λ z. (k, J z) ∷ map (change ks) es in
          let key : ℕ → List (ℕ × A) = λ j. (j, J e.1) ∷ map (change ks) es in
          let first : Bool → List (ℕ × A) = λ b. (e.0, cond b (J e.1) e.1) ∷ map (change ks) es in
          rw (below_not k e.0 (omega (arith, same)), same_is k e.0 (sym same))
          (ap value here ∙ ap key (sym same) ∙ ap first (sym (has_itself ks k e.0 (same_is k e.0 (sym same))))
          ∙ ap (λ l. change (ks ++ k ∷ []) e ∷ l) (none_changed ks k es nothing))
      sorted (inr (inr more)) later =
          let apart = apart_above e.0 k more in
          let there : Some y ≡ listed_at k es = s ∙ ap (λ b. cond b (Some e.1) (listed_at k es)) apart in
          let nothing = listed_past (e.0 + 1) k es (omega (arith, more)) h.1 in
          let both : Some y ≡ None = there ∙ sym nothing in
          cc

  changed_step : (ks : List ℕ) (k : ℕ) (es : List (ℕ × A)) (o : Option A) → IsAscendingFrom 0 (map (λ e. e.0) es) → o ≡ listed_at k es
      → placed k (option_map J o) (map (change ks) es) ≡ map (change (ks ++ k ∷ [])) es
  changed_step ks k es None h e = none_changed ks k es e
  changed_step ks k es (Some y) h e = some_changed 0 ks k y es h e

  -- one more of the keys
  pub changed_more : (ks : List ℕ) (i d : ℕ) (es out next : List (ℕ × A)) → i < length ks → IsAscendingFrom 0 (map (λ e. e.0) es) → out ≡ map (change (take i ks)) es
      → next ≡ placed (get_or ks i d) (option_map J (listed_at (get_or ks i d) es)) out → next ≡ map (change (take (i + 1) ks)) es
  changed_more ks i d es out next l h o n =
      let one : suc i ≡ i + 1 = omega arith in
      let k = get_or ks i d in
      n ∙ ap (λ t. placed k (option_map J (listed_at k es)) t) o ∙ changed_step (take i ks) k es (listed_at k es) h refl
      ∙ ap (λ l. map (change l) es) (sym (take-suc ks i d l) ∙ ap (λ j. take j ks) one)

  -- none of them
  pub changed_none : (es : List (ℕ × A)) → es ≡ map (change []) es
  changed_none [] = refl
  changed_none (e ∷ es) = ap (λ l. e ∷ l) (changed_none es)
