-- Counts of leaves.
use Rattle.std.proofs.Common.{◌≡◌, ℕ, ◌+◌, ◌<◌, ◌≤◌, min, Option, Some, None, List, [], ◌∷◌, length, get_or, set, refl, sym, ap, ◌∙◌, subst, inl, inr, arith, zero, suc}
use Rattle.std.proofs.lemmas.Bool.{cases_eq, cases_lt}
use Rattle.std.proofs.lemmas.List.{get_or_past, get_or-set_same, get_or-set_other}
use Rattle.spec_declarations.specs.Counts.{capped_sum, total, CountOf, SumOf, counted, nothing, next, count_in, IsCount, AreSound, AreSettled, AreCounts, uncounted}
use Rattle.spec_declarations.specs.Leaves.{most_leaves, past_leaves}

total_none : (counts : List (Option ℕ)) (ds : List ℕ) → total None counts ds ≡ None
total_none counts [] = refl
total_none counts (d ∷ ds) = total_none counts ds

pub none_some : {A : Type 0} (k : ℕ) → None ≡ Some k → A
none_some k e = absurd cc

module _ (graph : List (List ℕ)) (own : List (Option ℕ)) where
  -- ---- what is counted is right

  total_sound : (counts : List (Option ℕ)) → AreSound graph own counts → (ds : List ℕ) (a x k : ℕ) → a ≡ min x past_leaves → total (Some a) counts ds ≡ Some k
      → (m : ℕ) × SumOf graph own ds m × (k ≡ min (x + m) past_leaves)
  total_sound counts sound [] a x k e t = (0, nothing, omega (arith, e, same t))
    where
      same : Some a ≡ Some k → a ≡ k
      same p = cc
  total_sound counts sound (d ∷ ds) a x k e t = more (get_or counts d None) refl t
      (λ b n is t'. total_sound counts sound ds (min (a + b) past_leaves) (x + n) k (omega (arith, e, is)) t')
    where
      more : (o : Option ℕ) → get_or counts d None ≡ o → total (capped_sum (Some a) o) counts ds ≡ Some k
          → ((b n : ℕ) → b ≡ min n past_leaves → total (Some (min (a + b) past_leaves)) counts ds ≡ Some k → (m : ℕ) × SumOf graph own ds m × (k ≡ min (x + n + m) past_leaves))
          → (m : ℕ) × SumOf graph own (d ∷ ds) m × (k ≡ min (x + m) past_leaves)
      more None is u go = none_some k (sym (total_none counts ds) ∙ u)
      more (Some b) is u go =
          let right = sound d b is in
          let rest = go b right.0 right.2 u in
          (right.0 + rest.0, next right.1 rest.1, omega (arith, rest.2))

  count_sound : (counts : List (Option ℕ)) → AreSound graph own counts → (d k : ℕ) → count_in graph own counts d ≡ Some k → IsCount graph own d k
  count_sound counts sound d k h = start (get_or own d None) refl h
    where
      start : (o : Option ℕ) → get_or own d None ≡ o → total (capped_sum (Some 0) o) counts (get_or graph d []) ≡ Some k → IsCount graph own d k
      start None is t = none_some k (sym (total_none counts (get_or graph d [])) ∙ t)
      start (Some p) is t =
          let sum = total_sound counts sound (get_or graph d []) (min (0 + p) past_leaves) p k (omega arith) t in
          (p + sum.0, counted is sum.1, sum.2)

  -- ---- all is counted that can be

  split_total : (counts : List (Option ℕ)) (ds : List ℕ) (a : ℕ) (o : Option ℕ) → total (capped_sum (Some a) o) counts ds ≡ None
      → (o ≡ None → ⊥) → ((b : ℕ) → total (Some (min (a + b) past_leaves)) counts ds ≡ None → ⊥) → ⊥
  split_total counts ds a None t f g = f refl
  split_total counts ds a (Some b) t f g = g b t

  abbrev AllSettled : List (Option ℕ) → Type 0
  AllSettled counts = (d : ℕ) → get_or counts d None ≡ None → count_in graph own counts d ≡ None

  mutual
    complete : (counts : List (Option ℕ)) → AllSettled counts → (d n : ℕ) → CountOf graph own d n → get_or counts d None ≡ None → ⊥
    complete counts settled d n (counted {p = p} {m = m} is sum) none =
        sum_complete counts settled (get_or graph d []) m sum (min (0 + p) past_leaves) (sym (ap (λ o. total (capped_sum (Some 0) o) counts (get_or graph d [])) is) ∙ settled d none)

    sum_complete : (counts : List (Option ℕ)) → AllSettled counts → (ds : List ℕ) (m : ℕ) → SumOf graph own ds m → (a : ℕ) → total (Some a) counts ds ≡ None → ⊥
    sum_complete counts settled ds m nothing a t = none_some a (sym t)
    sum_complete counts settled ds m (next {d = d} {m = k} {n = n} {ds = rest} here more) a t =
        split_total counts rest a (get_or counts d None) t (λ is. complete counts settled d k here is) (λ b u. sum_complete counts settled rest n more (min (a + b) past_leaves) u)

  all_settled : (counts : List (Option ℕ)) → length own ≡ length graph → AreSettled graph own counts (length graph) → AllSettled counts
  all_settled counts w h d none = elim (cases_lt d (length graph)) [
    | inl l ↦ h d l none
    | inr past ↦ ap (λ o. total (capped_sum (Some 0) o) counts (get_or graph d [])) (get_or_past own d None (out past)) ∙ total_none counts (get_or graph d [])
  ]
    where
      out : length graph ≤ d → length own ≤ d
      out past = omega (arith, past, w)

  -- ---- there is one count

  one_own : (d p q : ℕ) → get_or own d None ≡ Some p → get_or own d None ≡ Some q → p ≡ q
  one_own d p q e f = same (sym e ∙ f)
    where
      same : Some p ≡ Some q → p ≡ q
      same g = cc

  mutual
    one_count : (d n m : ℕ) → CountOf graph own d n → CountOf graph own d m → n ≡ m
    one_count d n m (counted {p = p} {m = i} e s) (counted {p = q} {m = j} f t) = omega (arith, one_own d p q e f, one_sum (get_or graph d []) i j s t)

    one_sum : (ds : List ℕ) (n m : ℕ) → SumOf graph own ds n → SumOf graph own ds m → n ≡ m
    one_sum ds n m nothing nothing = refl
    one_sum ds n m (next {d = d} {m = a} {n = b} {ds = rest} x s) (next {m = a'} {n = b'} y t) = omega (arith, one_count d a a' x y, one_sum rest b b' s t)

  -- ---- the counts of settled tables

  -- a count is past the limit exactly where its datatype's is
  pub past_limit : (counts : List (Option ℕ)) → length own ≡ length graph → AreCounts graph own counts → (d n : ℕ) → CountOf graph own d n → most_leaves < n
      → (k : ℕ) × (get_or counts d None ≡ Some k) × (most_leaves < k)
  past_limit counts w h d n c l = found (get_or counts d None) refl
    where
      right : (k : ℕ) → get_or counts d None ≡ Some k → most_leaves < k
      right k e =
          let r = h.sound d k e in
          let same = one_count d n r.0 c r.1 in
          omega (arith, l, same, r.2)

      found : (o : Option ℕ) → get_or counts d None ≡ o → (k : ℕ) × (get_or counts d None ≡ Some k) × (most_leaves < k)
      found None e = absurd (complete counts (all_settled counts w h.settled) d n c e)
      found (Some k) e = (k, e, right k e)

  -- ---- rounds

  -- a datatype's count is looked for where there is none
  pub sound_set : (counts : List (Option ℕ)) (d k : ℕ) → d < length counts → count_in graph own counts d ≡ Some k → AreSound graph own counts → AreSound graph own (set counts d (Some k))
  sound_set counts d k l is sound x j e = elim (cases_eq x d) [
    | inl same ↦ subst (IsCount graph own x) (one (sym (get_or-set_same counts d (Some k) None l) ∙ sym (ap (λ y. get_or (set counts d (Some k)) y None) same) ∙ e))
        (subst (λ y. IsCount graph own y k) (sym same) (count_sound counts sound d k is))
    | inr apart ↦ sound x j (sym (get_or-set_other counts d x (Some k) None apart) ∙ e)
  ]
    where
      one : Some k ≡ Some j → k ≡ j
      one p = cc

pub uncounted_less : (counts : List (Option ℕ)) (d k : ℕ) → d < length counts → get_or counts d None ≡ None → uncounted (set counts d (Some k)) + 1 ≡ uncounted counts
uncounted_less [] d k l e = absurd (omega arith)
uncounted_less (None ∷ counts) zero k l e = refl
uncounted_less (Some n ∷ counts) zero k l e = none_some n (sym e)
uncounted_less (None ∷ counts) (suc d) k l e = ap (λ n. n + 1) (uncounted_less counts d k (omega arith) e)
uncounted_less (Some n ∷ counts) (suc d) k l e = uncounted_less counts d k (omega arith) e
