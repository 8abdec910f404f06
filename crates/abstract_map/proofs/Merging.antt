-- The keys of two ascending lists.
use Rattle.std.proofs.Common.{◌≡◌, ℕ, Some, ◌+◌, ◌<◌, ◌≤◌, Bool, true, false, zero, suc, List, [], ◌∷◌, ◌++◌, map, length, get_or, ltb, eqb, leb, drop, min, refl, sym, ap, subst, ◌∙◌, arith, ◌⊎◌, inl, inr, append_assoc, drop-cons}
use Rattle.std.specs.Int.{from_bool}
use Rattle.std.specs.Prelude.{slice_get}
use Rattle.abstract_map.proofs.Items.{item_is}
use Rattle.std.proofs.lemmas.Bool.Decides.{nat_tests}
use Rattle.std.proofs.lemmas.List.{drop_all}
use Rattle.base_trait.specs.Lists.{IsAscendingFrom, Each}
use Rattle.abstract_map_laws.specs.Keys.{with_key, either_key}
use Rattle.base_trait.proofs.Lists.{ascending_lower}
use Rattle.abstract_map_laws.proofs.KeyLists.{either_ascends}
use Rattle.abstract_map.proofs.Ascending.{sort_numbers}

with_front : (k : ℕ) (ks : List ℕ) → IsAscendingFrom (k + 1) ks → with_key k ks ≡ k ∷ ks
with_front k [] h = refl
with_front k (j ∷ js) h = let first = h.0 in let less : ltb k j ≡ true = grind (arith, nat_tests) in rw less refl

each_above : (low : ℕ) (ks : List ℕ) → IsAscendingFrom low ks → Each (λ k. low ≤ k) ks
each_above low [] h = tt
each_above low (k ∷ ks) h = (h.0, weaker (k + 1) ks (each_above (k + 1) ks h.1))
  where
    weaker : (more : ℕ) (js : List ℕ) → Each (λ j. k + 1 ≤ j) js → Each (λ j. low ≤ j) js
    weaker more [] g = tt
    weaker more (j ∷ js) g = (let first = h.0 in let later = g.0 in omega (arith, first, later), weaker more js g.1)

-- a key below all of the others comes first
either_least : (j : ℕ) (ks js : List ℕ) → Each (λ k. j + 1 ≤ k) ks → either_key ks (j ∷ js) ≡ j ∷ either_key ks js
either_least j [] js h = refl
either_least j (k ∷ ks) js h =
    let above = h.0 in
    let less : ltb k j ≡ false = grind (arith, nat_tests) in
    let apart : eqb k j ≡ false = grind (arith, nat_tests) in
    ap (λ l. with_key k l) (either_least j ks js h.1) ∙ (rw (less, apart) refl)

pub either_nothing : (low : ℕ) (ks : List ℕ) → IsAscendingFrom low ks → either_key ks [] ≡ ks
either_nothing low [] h = refl
either_nothing low (k ∷ ks) h = ap (λ l. with_key k l) (either_nothing (k + 1) ks h.1) ∙ with_front k ks h.1

pub either_here : (k j : ℕ) (ks js : List ℕ) → k < j → IsAscendingFrom (k + 1) ks → IsAscendingFrom (j + 1) js → either_key (k ∷ ks) (j ∷ js) ≡ k ∷ either_key ks (j ∷ js)
either_here k j ks js l h g = with_front k (either_key ks (j ∷ js)) (either_ascends (k + 1) ks (j ∷ js) (each_above (k + 1) ks h) (omega arith, g))

pub either_there : (k j : ℕ) (ks js : List ℕ) → j < k → IsAscendingFrom (k + 1) ks → either_key (k ∷ ks) (j ∷ js) ≡ j ∷ either_key (k ∷ ks) js
either_there k j ks js l h = either_least j (k ∷ ks) js (each_above (j + 1) (k ∷ ks) (omega arith, h))

pub either_both : (k j : ℕ) (ks js : List ℕ) → k ≡ j → IsAscendingFrom (k + 1) ks → either_key (k ∷ ks) (j ∷ js) ≡ k ∷ either_key ks js
either_both k j ks js s h =
    let less : ltb k k ≡ false = grind (arith, nat_tests) in
    let same : eqb k k ≡ true = grind (arith, nat_tests) in
    ap (λ i. with_key k (either_key ks (i ∷ js))) (sym s) ∙ ap (λ l. with_key k l) (either_least k ks js (each_above (k + 1) ks h)) ∙ (rw (less, same) refl)

nothing_behind : (xs : List ℕ) → xs ++ [] ≡ xs
nothing_behind [] = refl
nothing_behind (x ∷ xs) = ap (λ l. x ∷ l) (nothing_behind xs)

-- one more key behind those that are out
pushed : (out : List ℕ) (m : ℕ) (xs ys whole : List ℕ) → m ∷ xs ≡ ys → out ++ ys ≡ whole → (out ++ m ∷ []) ++ xs ≡ whole
pushed out m xs ys whole e h = append_assoc out (m ∷ []) xs ∙ ap (λ l. out ++ l) e ∙ h

module _ {A : Type 0} where
  abbrev names : List (ℕ × A) → List ℕ
  names es = map (λ e. e.0) es

  drop_order : (low i : ℕ) (es : List (ℕ × A)) → IsAscendingFrom low (names es) → IsAscendingFrom low (names (drop i es))
  drop_order low zero es h = h
  drop_order low (suc i) [] h = tt
  drop_order low (suc i) (e ∷ es) h = let first = h.0 in ascending_lower (e.0 + 1) low (names (drop i es)) (omega (arith, first)) (drop_order (e.0 + 1) i es h.1)

  module _ (es ds : List (ℕ × A)) (i j : ℕ) (d e : ℕ × A) (more : i < length es) (also : j < length ds) (left : IsAscendingFrom 0 (names es)) (right : IsAscendingFrom 0 (names ds)) where
    here_is : drop i es ≡ get_or es i d ∷ drop (suc i) es
    here_is = drop-cons es i d more

    there_is : drop j ds ≡ get_or ds j e ∷ drop (suc j) ds
    there_is = drop-cons ds j e also

    here_order : IsAscendingFrom ((get_or es i d).0 + 1) (names (drop (suc i) es))
    here_order = (subst (λ l. IsAscendingFrom 0 (names l)) here_is (drop_order 0 i es left)).1

    there_order : IsAscendingFrom ((get_or ds j e).0 + 1) (names (drop (suc j) ds))
    there_order = (subst (λ l. IsAscendingFrom 0 (names l)) there_is (drop_order 0 j ds right)).1

    -- the lesser of the two first keys, and then those of what is left
    next : (m p q : ℕ) → m ≡ min (get_or es i d).0 (get_or ds j e).0 → p ≡ i + from_bool (leb (get_or es i d).0 (get_or ds j e).0) → q ≡ j + from_bool (leb (get_or ds j e).0 (get_or es i d).0)
        → m ∷ either_key (names (drop p es)) (names (drop q ds)) ≡ either_key (names (drop i es)) (names (drop j ds))
    next m p q m_is p_is q_is = sorted (sort_numbers (get_or es i d).0 (get_or ds j e).0)
      where
        le_is : (a b : ℕ) → a ≤ b → leb a b ≡ true
        le_is a b l = grind (arith, nat_tests)

        le_not : (a b : ℕ) → b < a → leb a b ≡ false
        le_not a b l = grind (arith, nat_tests)

        onwards : (n t : ℕ) (b : Bool) → b ≡ true → t ≡ n + from_bool b → t ≡ suc n
        onwards n t b s u = let v = ap (λ z. n + from_bool z) s in omega (arith, u, v)

        stays : (n t : ℕ) (b : Bool) → b ≡ false → t ≡ n + from_bool b → t ≡ n
        stays n t b s u = let v = ap (λ z. n + from_bool z) s in omega (arith, u, v)

        both_are : (x y : ℕ × A) (xs ys : List (ℕ × A)) → drop i es ≡ x ∷ xs → drop j ds ≡ y ∷ ys → either_key (x.0 ∷ names xs) (y.0 ∷ names ys) ≡ either_key (names (drop i es)) (names (drop j ds))
        both_are x y xs ys h g = sym (ap (λ l. either_key (names l) (names (drop j ds))) h ∙ ap (λ l. either_key (x.0 ∷ names xs) (names l)) g)

        renamed : (k s t : ℕ) → m ≡ k → p ≡ s → q ≡ t → m ∷ either_key (names (drop p es)) (names (drop q ds)) ≡ k ∷ either_key (names (drop s es)) (names (drop t ds))
        renamed k s t a b c = ap (λ z. z ∷ either_key (names (drop p es)) (names (drop q ds))) a ∙ ap (λ z. k ∷ either_key (names (drop z es)) (names (drop q ds))) b ∙ ap (λ z. k ∷ either_key (names (drop s es)) (names (drop z ds))) c

        sorted : ((get_or es i d).0 < (get_or ds j e).0) ⊎ (((get_or es i d).0 ≡ (get_or ds j e).0) ⊎ ((get_or ds j e).0 < (get_or es i d).0))
            → m ∷ either_key (names (drop p es)) (names (drop q ds)) ≡ either_key (names (drop i es)) (names (drop j ds))
        sorted (inl l) =
            renamed (get_or es i d).0 (suc i) j (omega (arith, m_is)) (onwards i p (leb (get_or es i d).0 (get_or ds j e).0) (le_is (get_or es i d).0 (get_or ds j e).0 (omega arith)) p_is) (stays j q (leb (get_or ds j e).0 (get_or es i d).0) (le_not (get_or ds j e).0 (get_or es i d).0 l) q_is)
            ∙ ap (λ l. (get_or es i d).0 ∷ either_key (names (drop (suc i) es)) (names l)) there_is
            ∙ sym (either_here (get_or es i d).0 (get_or ds j e).0 (names (drop (suc i) es)) (names (drop (suc j) ds)) l here_order there_order)
            ∙ both_are (get_or es i d) (get_or ds j e) (drop (suc i) es) (drop (suc j) ds) here_is there_is
        sorted (inr (inl s)) =
            renamed (get_or es i d).0 (suc i) (suc j) (omega (arith, m_is, s)) (onwards i p (leb (get_or es i d).0 (get_or ds j e).0) (le_is (get_or es i d).0 (get_or ds j e).0 (omega (arith, s))) p_is) (onwards j q (leb (get_or ds j e).0 (get_or es i d).0) (le_is (get_or ds j e).0 (get_or es i d).0 (omega (arith, s))) q_is)
            ∙ sym (either_both (get_or es i d).0 (get_or ds j e).0 (names (drop (suc i) es)) (names (drop (suc j) ds)) s here_order)
            ∙ both_are (get_or es i d) (get_or ds j e) (drop (suc i) es) (drop (suc j) ds) here_is there_is
        sorted (inr (inr l)) =
            renamed (get_or ds j e).0 i (suc j) (omega (arith, m_is)) (stays i p (leb (get_or es i d).0 (get_or ds j e).0) (le_not (get_or es i d).0 (get_or ds j e).0 l) p_is) (onwards j q (leb (get_or ds j e).0 (get_or es i d).0) (le_is (get_or ds j e).0 (get_or es i d).0 (omega arith)) q_is)
            ∙ ap (λ l. (get_or ds j e).0 ∷ either_key (names l) (names (drop (suc j) ds))) here_is
            ∙ sym (either_there (get_or es i d).0 (get_or ds j e).0 (names (drop (suc i) es)) (names (drop (suc j) ds)) l here_order)
            ∙ both_are (get_or es i d) (get_or ds j e) (drop (suc i) es) (drop (suc j) ds) here_is there_is

    pub merge_more : (out out' whole : List ℕ) (m a b : ℕ) → m ≡ min (get_or es i d).0 (get_or ds j e).0 → a ≡ from_bool (leb (get_or es i d).0 (get_or ds j e).0) → b ≡ from_bool (leb (get_or ds j e).0 (get_or es i d).0)
        → out' ≡ out ++ m ∷ [] → out ++ either_key (names (drop i es)) (names (drop j ds)) ≡ whole → out' ++ either_key (names (drop (i + a) es)) (names (drop (j + b) ds)) ≡ whole
    merge_more out out' whole m a b m_is a_is b_is o h =
        ap (λ l. l ++ either_key (names (drop (i + a) es)) (names (drop (j + b) ds))) o
        ∙ pushed out m (either_key (names (drop (i + a) es)) (names (drop (j + b) ds))) (either_key (names (drop i es)) (names (drop j ds))) whole (next m (i + a) (j + b) m_is (ap (λ n. i + n) a_is) (ap (λ n. j + n) b_is)) h

  -- the entries that stand at these places
  pub merge_at : (es ds : List (ℕ × A)) (i j k l : ℕ) (x y : A) → slice_get es i ≡ Some (k, x) → slice_get ds j ≡ Some (l, y) → i < length es → j < length ds → IsAscendingFrom 0 (names es) → IsAscendingFrom 0 (names ds)
      → (out out' whole : List ℕ) (m a b : ℕ) → m ≡ min k l → a ≡ from_bool (leb k l) → b ≡ from_bool (leb l k)
      → out' ≡ out ++ m ∷ [] → out ++ either_key (names (drop i es)) (names (drop j ds)) ≡ whole → out' ++ either_key (names (drop (i + a) es)) (names (drop (j + b) ds)) ≡ whole
  merge_at es ds i j k l x y h g more also left right out out' whole m a b m_is a_is b_is =
      let here = ap (λ e. e.0) (item_is es i k x h) in
      let there = ap (λ e. e.0) (item_is ds j l y g) in
      merge_more es ds i j (k, x) (l, y) more also left right out out' whole m a b
      (m_is ∙ ap (λ n. min n l) here ∙ ap (λ n. min (get_or es i (k, x)).0 n) there)
      (a_is ∙ ap (λ n. from_bool (leb n l)) here ∙ ap (λ n. from_bool (leb (get_or es i (k, x)).0 n)) there)
      (b_is ∙ ap (λ n. from_bool (leb l n)) here ∙ ap (λ n. from_bool (leb n (get_or es i (k, x)).0)) there)

  -- one more key behind others
  pub key_more : (es : List (ℕ × A)) (i k : ℕ) (x : A) → slice_get es i ≡ Some (k, x) → i < length es → (out out' whole : List ℕ) → out' ≡ out ++ k ∷ [] → out ++ names (drop i es) ≡ whole → out' ++ names (drop (i + 1) es) ≡ whole
  key_more es i k x h more out out' whole o e =
      let next : i + 1 ≡ suc i = omega arith in
      let first = item_is es i k x h in
      ap (λ l. l ++ names (drop (i + 1) es)) o
      ∙ pushed out k (names (drop (i + 1) es)) (names (drop i es)) whole
      (ap (λ n. k ∷ names (drop n es)) next ∙ ap (λ d. d.0 ∷ names (drop (suc i) es)) first ∙ sym (ap (λ l. names l) (drop-cons es i (k, x) more))) e

  -- where one list is done, what is left of the other comes behind
  pub merge_end : (es ds : List (ℕ × A)) (i j : ℕ) (out all done whole : List ℕ) → IsAscendingFrom 0 (names es) → (length es ≤ i) ⊎ (length ds ≤ j)
      → out ++ either_key (names (drop i es)) (names (drop j ds)) ≡ whole
      → all ≡ out ++ names (drop i es) → done ≡ all ++ names (drop j ds) → done ≡ whole
  merge_end es ds i j out all done whole left ends h a b =
      b ∙ ap (λ l. l ++ names (drop j ds)) a ∙ append_assoc out (names (drop i es)) (names (drop j ds)) ∙ ap (λ l. out ++ l) (sorted ends) ∙ h
    where
      sorted : (length es ≤ i) ⊎ (length ds ≤ j) → names (drop i es) ++ names (drop j ds) ≡ either_key (names (drop i es)) (names (drop j ds))
      sorted (inl l) = ap (λ x. names x ++ names (drop j ds)) (drop_all i es l) ∙ sym (ap (λ x. either_key (names x) (names (drop j ds))) (drop_all i es l))
      sorted (inr l) = ap (λ x. names (drop i es) ++ names x) (drop_all j ds l) ∙ nothing_behind (names (drop i es)) ∙ sym (either_nothing 0 (names (drop i es)) (drop_order 0 i es left)) ∙ sym (ap (λ x. either_key (names (drop i es)) (names x)) (drop_all j ds l))
