-- The rank, by the kept rows and by members.
use Rattle.std.proofs.Common.{◌≡◌, ◌≢◌, ℕ, zero, suc, ◌+◌, ◌*◌, ◌/◌, ◌%◌, ◌^◌, ◌<◌, ◌≤◌, List, [], ◌∷◌, ◌++◌, length, length-append, get_or, drop, sum, refl, ap, ap₂, sym, ◌∙◌, subst, arith, inl, inr, pow_pos, mod-eq_of_lt, mod-lt, div-add-mod'}
use Rattle.std.proofs.Math.Nat.{mul-mod_left}
use Rattle.std.proofs.lemmas.Nat.{pow_below}
use Rattle.std.proofs.lemmas.Bool.{cases_lt, cases_eq}
use Rattle.std.proofs.lemmas.List.Sums.{sum_by-cons, sum_by_push}
use Rattle.support_modular_rows.specs.Submodule.{IsMember}
use Rattle.support_modular_rows.specs.Rank.{IsExponent, IsRank}
use Rattle.support_modular_rows.specs.Laws.{RankIsBounded, IsWithin, RankFalls}
use Rattle.support_modular_rows.specs.Reduction.{Span, Kills, divisor_of, Reduced, IsStore, HasExponents}
use Rattle.support_modular_rows.proofs.Powers.{mod_power, power_next, square_one, product_step}
use Rattle.support_modular_rows.proofs.Leads.{divisor_cases, entry_multiple, mul_zero_mod, rest_mod}
use Rattle.support_modular_rows.proofs.Spans.{skip, span_split, tail_zero, in_rows, span_zero, span_alike, span_add, span_mul, span_cancel, cong_neg, cong_add, cong_drop, cong_mul, cong_mul_zero}
use Rattle.support_modular_rows.proofs.Growth.{greatest, of, row}
use Rattle.support_modular_rows.proofs.Images.{tabulate, of_tabulate}
use Rattle.support_modular_rows.proofs.Members.{spans_member, member_spans}
use Rattle.support_modular_rows.proofs.Store.{kept, store_has, has_store}
use Rattle.support_modular_rows.proofs.Closure.{within_spans}

-- a member that is 0 before a column is in the span of the rows from the column on
reach : (n c : ℕ) (rs : List (List ℕ)) (v : ℕ → ℕ) → length rs ≡ n → c ≤ n → Reduced rs → ((j : ℕ) → j < c → v j % 2 ^ 32 ≡ 0) → Span greatest n rs v → Span greatest n (drop c rs) v
reach n zero rs v size le red zeros h = h
reach n (suc c) rs v size le red zeros h =
    let within : c < length rs = omega arith in
    skip greatest n rs c v within (omega arith) red.triangular
    (subst (λ k. Kills greatest k (drop (suc c) rs) (get_or rs c []) c) size (red.kills c within))
    (zeros c (omega arith)) (reach n c rs v size (omega arith) red (λ j lt. zeros j (omega arith)) h)

-- the exponent of a column is that of the kept row's divisor
pub exponent_of : (k : ℕ) (rs : List (List ℕ)) (c v : ℕ) → IsStore k rs → c ≤ k → v ≤ 32 → divisor_of (of (row rs c) c) ≡ 2 ^ v → IsExponent k (kept k rs) c v
exponent_of k rs c v store le limit is =
    let within : c < length rs = omega (arith, store.size) in
    let column : c < k + 1 = omega arith in
    record {
      limit = limit;
      divides = λ x leads.
          let there = reach (k + 1) c rs (of x) store.size (omega arith) store.reduced (λ j lt. leads.1 j lt) (store_has k rs x leads.0) in
          let split = span_split greatest (k + 1) rs c (of x) within there in
          let none : (of x c + split.0 * of (row rs c) c) % 2 ^ 32 ≡ 0 = tail_zero greatest (k + 1) rs c (λ j. of x j + split.0 * of (row rs c) j) column store.reduced.triangular split.1 in
          let low : split.0 * of (row rs c) c % 2 ^ v ≡ 0 = mul_zero_mod split.0 (of (row rs c) c) (2 ^ v) (entry_multiple (of (row rs c) c) v limit is) in
          sym (rest_mod (of x c) (split.0 * of (row rs c) c) (2 ^ v) low)
          ∙ sym (mod_power (of x c + split.0 * of (row rs c) c) v 32 limit) ∙ ap (λ y. y % 2 ^ v) none
          ∙ (let f : 0 ≡ 0 * 2 ^ v = omega arith in ap (λ y. y % 2 ^ v) f) ∙ mul-mod_left 0 (2 ^ v);
      greatest = λ less.
          let small : 2 ^ v < 2 ^ 32 = pow_below v 32 less in
          let entry : of (row rs c) c ≡ 2 ^ v = elim (divisor_cases (of (row rs c) c)) [ inl same ↦ sym same ∙ is | inr (none, whole) ↦ absurd (omega arith) ] in
          let next : 2 ^ v < 2 ^ (v + 1) = pow_below v (v + 1) (omega arith) in (
            row rs c,
            (has_store k rs (row rs c) store (in_rows greatest (k + 1) rs 0 c (omega arith) within), λ j lt. store.reduced.triangular c j within lt),
            λ e. let same : of (row rs c) c % 2 ^ (v + 1) ≡ 2 ^ v = ap (λ y. y % 2 ^ (v + 1)) entry ∙ mod-eq_of_lt next in
                let positive : 0 < 2 ^ v = pow_pos v in omega arith,
          );
    }

-- an odd number has an inverse
inverse_steps : (o j : ℕ) → o % 2 ≡ 1 → j ≤ 31 → (u : ℕ) × (p : ℕ) × (o * u % 2 ^ 32 ≡ p % 2 ^ 32) × (p % 2 ^ (j + 1) ≡ 1)
inverse_steps o zero odd le = (1, o, (let f : o * 1 ≡ o = omega arith in ap (λ z. z % 2 ^ 32) f), odd)
inverse_steps o (suc j) odd le =
    let before = inverse_steps o j odd (omega arith) in
    let next : j + 1 + 1 ≡ suc j + 1 = omega arith in (
      before.0 * before.1 % 2 ^ 32,
      before.1 * before.1 % 2 ^ 32,
      product_step o before.0 before.1 before.2,
      subst (λ k. before.1 * before.1 % 2 ^ 32 % 2 ^ k ≡ 1) next (mod_power (before.1 * before.1) (j + 1 + 1) 32 (omega arith) ∙ square_one before.1 j before.3),
    )

odd_inverse : (o : ℕ) → o % 2 ≡ 1 → (u : ℕ) × (o * u % 2 ^ 32 ≡ 1)
odd_inverse o odd = let last = inverse_steps o 31 odd (omega arith) in (last.0, last.2 ∙ last.3)

-- a number that 2 ^ v divides and 2 ^ (v + 1) does not is an odd multiple of 2 ^ v
odd_multiple : (y v : ℕ) → y % 2 ^ v ≡ 0 → y % 2 ^ (v + 1) ≢ 0 → (o : ℕ) × (o % 2 ≡ 1) × (y ≡ o * 2 ^ v)
odd_multiple y v divides not_next =
    let is : y ≡ y / 2 ^ v * 2 ^ v = omega (arith, div-add-mod' y (2 ^ v)) in
    let below : y / 2 ^ v % 2 < 2 = mod-lt (y / 2 ^ v) (omega arith) in (
      y / 2 ^ v,
      elim (cases_eq (y / 2 ^ v % 2) 0) [
        | inl even ↦
            let half : y / 2 ^ v ≡ y / 2 ^ v / 2 * 2 = omega (arith, div-add-mod' (y / 2 ^ v) 2) in
            let twice : y ≡ y / 2 ^ v / 2 * 2 ^ (v + 1) =
            is ∙ ap (λ z. z * 2 ^ v) half ∙ regroup (y / 2 ^ v / 2) (2 ^ v) ∙ ap (λ z. y / 2 ^ v / 2 * z) (sym (power_next v)) in
            absurd (not_next (ap (λ z. z % 2 ^ (v + 1)) twice ∙ mul-mod_left (y / 2 ^ v / 2) (2 ^ (v + 1))))
        | inr other ↦ omega arith
      ],
      is,
    )
  where
    regroup : (a b : ℕ) → a * 2 * b ≡ a * (2 * b)
    regroup a b = omega arith

-- a multiple of the one entry cancels the other
cancelling : (x y v : ℕ) → x % 2 ^ v ≡ 0 → y % 2 ^ v ≡ 0 → y % 2 ^ (v + 1) ≢ 0 → (q : ℕ) × ((x + q * y) % 2 ^ 32 ≡ 0)
cancelling x y v hx hy ny =
    let odd = odd_multiple y v hy ny in
    let inv = odd_inverse odd.0 odd.1 in
    let is : x ≡ x / 2 ^ v * 2 ^ v = omega (arith, div-add-mod' x (2 ^ v)) in (
      greatest * (x / 2 ^ v * inv.0),
      ap₂ (λ x y. (x + greatest * (x / 2 ^ v * inv.0) * y) % 2 ^ 32) refl odd.2
          ∙ ap (λ z. z % 2 ^ 32) (regroup x (x / 2 ^ v) inv.0 odd.0 (2 ^ v))
          ∙ cong_add greatest x (x / 2 ^ v * 2 ^ v) (greatest * (x / 2 ^ v * 2 ^ v * (odd.0 * inv.0))) (greatest * (x / 2 ^ v * 2 ^ v * 1)) (ap (λ z. z % 2 ^ 32) is)
          (scaled greatest (x / 2 ^ v * 2 ^ v) (odd.0 * inv.0) 1 inv.1)
          ∙ (let f : x / 2 ^ v * 2 ^ v + greatest * (x / 2 ^ v * 2 ^ v * 1) ≡ x / 2 ^ v * 2 ^ v + greatest * (x / 2 ^ v * 2 ^ v) = omega arith in ap (λ z. z % 2 ^ 32) f)
          ∙ cong_neg greatest (x / 2 ^ v * 2 ^ v),
    )
  where
    regroup : (x a u o p : ℕ) → x + greatest * (a * u) * (o * p) ≡ x + greatest * (a * p * (o * u))
    regroup x a u o p = omega arith

    scaled : (g b s t : ℕ) → s % 2 ^ 32 ≡ t % 2 ^ 32 → g * (b * s) % 2 ^ 32 ≡ g * (b * t) % 2 ^ 32
    scaled g b s t e = cong_mul greatest g (b * s) (b * t) (cong_mul greatest b s t e)

-- the members of the larger one that a column's exponent does not tell apart
module _ (k : ℕ) (rows more : List (List ℕ)) (within : IsWithin k rows more) (vs : ℕ → ℕ)
    (small : (c : ℕ) → c ≤ k → IsExponent k rows c (vs c)) (large : (c : ℕ) → c ≤ k → IsExponent k more c (vs c)) where
  in_both : (d i : ℕ) → i + d ≡ k + 1 → (v : ℕ → ℕ) → ((j : ℕ) → j < i → v j % 2 ^ 32 ≡ 0) → Span greatest (k + 1) more v → Span greatest (k + 1) rows v
  in_both zero i e v zeros h = span_zero greatest (k + 1) rows v (λ j lt. zeros j (omega arith))
  in_both (suc d) i e v zeros h =
      let le : i ≤ k = omega arith in
      let column : i < k + 1 = omega arith in
      let x : List ℕ = tabulate (k + 1) v in
      let same : (j : ℕ) → j < k + 1 → v j % 2 ^ 32 ≡ of (tabulate (k + 1) v) j % 2 ^ 32 = λ j lt. ap (λ z. z % 2 ^ 32) (sym (of_tabulate (k + 1) j v lt)) in
      let member : IsMember k more (tabulate (k + 1) v) = member_spans k more (tabulate (k + 1) v) (span_alike greatest (k + 1) more v (of (tabulate (k + 1) v)) same h) in
      let divides : v i % 2 ^ vs i ≡ 0 =
      ap (λ z. z % 2 ^ vs i) (sym (of_tabulate (k + 1) i v column))
      ∙ (large i le).divides (tabulate (k + 1) v) (member, λ j lt. (let w : j < k + 1 = omega arith in sym (same j w) ∙ zeros j lt)) in
      elim (cases_lt (vs i) 32) [
        | inl less ↦
            let witness = (small i le).greatest less in
            let q = cancelling (v i) (of witness.0 i) (vs i) divides ((small i le).divides witness.0 witness.1) witness.2 in
            let inside : Span greatest (k + 1) rows (of witness.0) = spans_member k rows witness.0 witness.1.0 in
            let multiple : Span greatest (k + 1) rows (λ j. q.0 * of witness.0 j) = span_mul greatest (k + 1) q.0 rows (of witness.0) inside in
            span_cancel greatest (k + 1) rows v (λ j. q.0 * of witness.0 j)
            (in_both d (suc i) (omega arith) (λ j. v j + q.0 * of witness.0 j)
            (λ j lt. elim (cases_lt j i) [
              | inl before ↦ cong_drop greatest (v j) (q.0 * of witness.0 j) (cong_mul_zero greatest q.0 (of witness.0 j) (witness.1.1 j before)) ∙ zeros j before
              | inr at ↦ let here : j ≡ i = omega arith in subst (λ j. (v j + q.0 * of witness.0 j) % 2 ^ 32 ≡ 0) (sym here) q.1
            ])
            (span_add greatest (k + 1) more v (λ j. q.0 * of witness.0 j) h (within_spans k rows more within (λ j. q.0 * of witness.0 j) multiple)))
            multiple
        | inr all ↦
            let whole : vs i ≡ 32 = omega (arith, (small i le).limit) in
            in_both d (suc i) (omega arith) v
            (λ j lt. elim (cases_lt j i) [
              | inl before ↦ zeros j before
              | inr at ↦ let here : j ≡ i = omega arith in subst (λ j. v j % 2 ^ 32 ≡ 0) (sym here) (subst (λ w. v i % 2 ^ w ≡ 0) whole divides)
            ])
            h
      ]

-- a larger submodule has no greater exponents
exponent_falls : (k c v w : ℕ) (rows more : List (List ℕ)) → IsWithin k rows more → IsExponent k rows c v → IsExponent k more c w → w ≤ v
exponent_falls k c v w rows more within small large =
    elim (cases_lt v w) [
      | inl less ↦
          let witness = small.greatest (omega (arith, large.limit)) in
          let zero_there = large.divides witness.0 (within witness.0 witness.1.0, witness.1.1) in
          absurd (witness.2 (sym (mod_power (of witness.0 c) (v + 1) w (omega arith)) ∙ ap (λ z. z % 2 ^ (v + 1)) zero_there
          ∙ (let f : 0 ≡ 0 * 2 ^ (v + 1) = omega arith in ap (λ z. z % 2 ^ (v + 1)) f) ∙ mul-mod_left 0 (2 ^ (v + 1))))
      | inr le ↦ le
    ]

-- sums of numbers that are no greater
sum_falls : (vs ws : List ℕ) → length vs ≡ length ws → ((c : ℕ) → c < length vs → get_or ws c 0 ≤ get_or vs c 0) → sum ws ≤ sum vs
sum_falls [] [] e h = omega arith
sum_falls [] (w ∷ ws) e h = absurd (omega arith)
sum_falls (v ∷ vs) [] e h = absurd (omega arith)
sum_falls (v ∷ vs) (w ∷ ws) e h =
    let first : w ≤ v = h 0 (omega arith) in
    let rest : sum ws ≤ sum vs = sum_falls vs ws (omega arith) (λ c lt. h (suc c) (omega arith)) in
    let left : sum (w ∷ ws) ≡ w + sum ws = sum_by-cons (λ x. x) w ws in
    let right : sum (v ∷ vs) ≡ v + sum vs = sum_by-cons (λ x. x) v vs in
    omega arith

sum_same : (vs ws : List ℕ) → length vs ≡ length ws → ((c : ℕ) → c < length vs → get_or ws c 0 ≤ get_or vs c 0) → sum vs ≤ sum ws → (c : ℕ) → c < length vs → get_or ws c 0 ≡ get_or vs c 0
sum_same [] ws e h le c lt = absurd (omega arith)
sum_same (v ∷ vs) [] e h le c lt = absurd (omega arith)
sum_same (v ∷ vs) (w ∷ ws) e h le c lt =
    let first : w ≤ v = h 0 (omega arith) in
    let rest : sum ws ≤ sum vs = sum_falls vs ws (omega arith) (λ c lt. h (suc c) (omega arith)) in
    let left : sum (w ∷ ws) ≡ w + sum ws = sum_by-cons (λ x. x) w ws in
    let right : sum (v ∷ vs) ≡ v + sum vs = sum_by-cons (λ x. x) v vs in
    let here : w ≡ v = omega arith in
    at_place c here lt (λ d less. sum_same vs ws (omega arith) (λ c lt. h (suc c) (omega arith)) (omega arith) d less)
  where
    at_place : (c : ℕ) → w ≡ v → c < length (v ∷ vs) → ((d : ℕ) → d < length vs → get_or ws d 0 ≡ get_or vs d 0) → get_or (w ∷ ws) c 0 ≡ get_or (v ∷ vs) c 0
    at_place zero e lt f = e
    at_place (suc d) e lt f = f d (omega arith)

pub rank_falls : RankFalls
rank_falls k n m rows more within (vs, vsize, small, n_is) (ws, wsize, large, m_is) =
    let below : (c : ℕ) → c < length vs → get_or ws c 0 ≤ get_or vs c 0 =
    λ c lt. (let le : c ≤ k = omega arith in exponent_falls k c (get_or vs c 0) (get_or ws c 0) rows more within (small c le) (large c le)) in
    let sizes : length vs ≡ length ws = omega arith in
    let falls : sum ws ≤ sum vs = sum_falls vs ws sizes below in (
      omega arith,
      λ x member no. elim (cases_lt m n) [
        | inl less ↦ less
        | inr equal ↦
            let same : (c : ℕ) → c < length vs → get_or ws c 0 ≡ get_or vs c 0 = sum_same vs ws sizes below (omega arith) in
            absurd (no (member_spans k rows x
            (in_both k rows more within (λ c. get_or vs c 0) small (λ c le. subst (IsExponent k more c) (let lt : c < length vs = omega arith in same c lt) (large c le))
            (k + 1) 0 (omega arith) (of x) (λ j lt. absurd (omega arith)) (spans_member k more x member))))
      ],
    )

-- the stored rows' exponents give the rank
pub rank_of_store : (k n : ℕ) (rs : List (List ℕ)) → IsStore k rs → HasExponents rs n → IsRank k (kept k rs) n
rank_of_store k n rs store (vs, size, limits, powers, total) =
    (vs, size ∙ store.size, λ c le. (let lt : c < length rs = omega (arith, store.size) in exponent_of k rs c (get_or vs c 0) store le (limits c lt) (powers c lt)), total)

at_old : (xs : List ℕ) (y i : ℕ) → i < length xs → get_or (xs ++ y ∷ []) i 0 ≡ get_or xs i 0
at_old [] y i lt = absurd (omega arith)
at_old (x ∷ xs) y zero lt = refl
at_old (x ∷ xs) y (suc i) lt = at_old xs y i (omega arith)

at_new : (xs : List ℕ) (y i : ℕ) → i ≡ length xs → get_or (xs ++ y ∷ []) i 0 ≡ y
at_new [] y i e = ap (λ i. get_or (y ∷ []) i 0) e
at_new (x ∷ xs) y zero e = absurd (omega arith)
at_new (x ∷ xs) y (suc i) e = at_new xs y i (omega arith)

-- the exponents of the first rows
abbrev pub FirstExponents : List (List ℕ) → ℕ → ℕ → Type 0
FirstExponents rs c n =
    (vs : List ℕ) × (length vs ≡ c) × ((d : ℕ) → d < c → get_or vs d 0 ≤ 32)
    × ((d : ℕ) → d < c → divisor_of (get_or (get_or rs d []) d 0) ≡ 2 ^ get_or vs d 0) × (n ≡ sum vs)

pub exponents_more : (rs : List (List ℕ)) (c n v : ℕ) → v ≤ 32 → divisor_of (get_or (get_or rs c []) c 0) ≡ 2 ^ v → FirstExponents rs c n → FirstExponents rs (c + 1) (n + v)
exponents_more rs c n v limit is (vs, size, limits, powers, total) = (
  vs ++ v ∷ [],
  length-append vs (v ∷ []) ∙ omega arith,
  λ d lt. elim (cases_lt d c) [
    | inl less ↦ subst (λ z. z ≤ 32) (sym (at_old vs v d (omega arith))) (limits d less)
    | inr here ↦ subst (λ z. z ≤ 32) (sym (at_new vs v d (omega arith))) limit
  ],
  λ d lt. elim (cases_lt d c) [
    | inl less ↦ powers d less ∙ ap (λ z. 2 ^ z) (sym (at_old vs v d (omega arith)))
    | inr here ↦
        let same : d ≡ c = omega arith in
        subst (λ k. divisor_of (get_or (get_or rs k []) k 0) ≡ 2 ^ v) (sym same) is ∙ ap (λ z. 2 ^ z) (sym (at_new vs v d (omega arith)))
  ],
  ap (λ z. z + v) total ∙ sym (sum_by_push (λ x. x) vs v),
)

sum_bounded : (vs : List ℕ) → ((c : ℕ) → c < length vs → get_or vs c 0 ≤ 32) → sum vs ≤ 32 * length vs
sum_bounded [] h = omega arith
sum_bounded (v ∷ vs) h =
    let first : v ≤ 32 = h 0 (omega arith) in
    let rest : sum vs ≤ 32 * length vs = sum_bounded vs (λ c lt. h (suc c) (omega arith)) in
    let whole : sum (v ∷ vs) ≡ v + sum vs = sum_by-cons (λ x. x) v vs in
    omega arith

pub rank_is_bounded : RankIsBounded
rank_is_bounded k n rows (vs, size, exponents, total) =
    let bound : sum vs ≤ 32 * length vs = sum_bounded vs (λ c lt. (let le : c ≤ k = omega arith in (exponents c le).limit)) in
    omega arith
