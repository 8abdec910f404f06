-- The rows that are not 0 span what all rows span.
use Rattle.std.proofs.Common.{◌≡◌, ◌≢◌, ℕ, zero, suc, ◌+◌, ◌*◌, ◌%◌, ◌^◌, ◌<◌, List, [], ◌∷◌, ◌++◌, length, get_or, take, drop, refl, ap, sym, ◌∙◌, subst, arith, inl, inr, ◌==◌, if◌then◌else◌, append_assoc, append-nil}
use Rattle.std.proofs.Math.Seq.{drop-cons}
use Rattle.std.proofs.lemmas.Bool.{cases_eq}
use Rattle.support_modular_rows.specs.Reduction.{Span, Reduced, kept_from, IsPlace}
use Rattle.support_modular_rows.proofs.Spans.{span_alike, span_zero, span_more, span_head, span_sub, AllIn}
use Rattle.support_modular_rows.proofs.Growth.{greatest, of, row}

-- the first n numbers of a row
pub of_take : (n j : ℕ) (r : List ℕ) → j < n → of (take n r) j ≡ of r j
of_take zero j r lt = absurd (omega arith)
of_take (suc n) j [] lt = refl
of_take (suc n) zero (x ∷ r) lt = refl
of_take (suc n) (suc j) (x ∷ r) lt = of_take n j r (omega arith)

if_kept : (e : ℕ) (a b : List (List ℕ)) → e ≢ 0 → (if e == 0 then a else b) ≡ b
if_kept zero a b h = absurd (h refl)
if_kept (suc e) a b h = grind arith

if_none : (e : ℕ) (a b : List (List ℕ)) → e ≡ 0 → (if e == 0 then a else b) ≡ a
if_none e a b h = ap (λ z. if z == 0 then a else b) h

module _ (n : ℕ) where
  pub span_left : (xs ys : List (List ℕ)) (v : ℕ → ℕ) → Span greatest n xs v → Span greatest n (xs ++ ys) v
  span_left [] ys v h = span_zero greatest n ys v h
  span_left (x ∷ xs) ys v (c, h) = (c, span_left xs ys (λ j. v j + c * get_or x j 0) h)

  pub span_right : (xs ys : List (List ℕ)) (v : ℕ → ℕ) → Span greatest n ys v → Span greatest n (xs ++ ys) v
  span_right [] ys v h = h
  span_right (x ∷ xs) ys v h = span_more greatest n x (xs ++ ys) v (span_right xs ys v h)

  pub all_append : (ss xs ys : List (List ℕ)) → AllIn greatest n ss xs → AllIn greatest n ss ys → AllIn greatest n ss (xs ++ ys)
  all_append ss [] ys h g = g
  all_append ss (x ∷ xs) ys h g = (h.0, all_append ss xs ys h.1 g)

  all_left : (ss ts xs : List (List ℕ)) → AllIn greatest n ss xs → AllIn greatest n (ss ++ ts) xs
  all_left ss ts [] h = tt
  all_left ss ts (x ∷ xs) h = (span_left ss ts (of x) h.0, all_left ss ts xs h.1)

  -- each kept row is in a span that has all rows
  kept_in : (ss : List (List ℕ)) (c : ℕ) (rs : List (List ℕ)) → AllIn greatest n ss rs → AllIn greatest n ss (kept_from n c rs)
  kept_in ss c [] h = tt
  kept_in ss c (r ∷ rs) h =
      all_append ss (kept_from n (suc c) rs) (if get_or r c 0 == 0 then [] else take n r ∷ []) (kept_in ss (suc c) rs h.1)
      (elim (cases_eq (get_or r c 0) 0) [
        | inl none ↦ subst (AllIn greatest n ss) (sym (if_none (get_or r c 0) [] (take n r ∷ []) none)) tt
        | inr some ↦ subst (AllIn greatest n ss) (sym (if_kept (get_or r c 0) [] (take n r ∷ []) some))
            (span_alike greatest n ss (of r) (of (take n r)) (λ j lt. ap (λ z. z % 2 ^ 32) (sym (of_take n j r lt))) h.0, tt)
      ])

  -- the row at place c + j is 0 where its entry in that column is
  abbrev EmptyFrom : ℕ → List (List ℕ) → Type 0
  EmptyFrom c rs = (i j : ℕ) → i < length rs → j < n → of (row rs i) (c + i) ≡ 0 → of (row rs i) j ≡ 0

  -- each row is in the span of the kept ones
  in_kept : (c : ℕ) (rs : List (List ℕ)) → EmptyFrom c rs → AllIn greatest n (kept_from n c rs) rs
  in_kept c [] h = tt
  in_kept c (r ∷ rs) h = (
    elim (cases_eq (get_or r c 0) 0) [
      | inl none ↦ span_zero greatest n (kept_from n c (r ∷ rs)) (of r)
          (λ j lt. let here : of r (c + 0) ≡ 0 = subst (λ k. of r k ≡ 0) (let f : c ≡ c + 0 = omega arith in f) none in ap (λ z. z % 2 ^ 32) (h 0 j (omega arith) lt here))
      | inr some ↦ span_right (kept_from n (suc c) rs) (if get_or r c 0 == 0 then [] else take n r ∷ []) (of r)
          (subst (λ l. Span greatest n l (of r)) (sym (if_kept (get_or r c 0) [] (take n r ∷ []) some))
          (span_alike greatest n (take n r ∷ []) (of (take n r)) (of r) (λ j lt. ap (λ z. z % 2 ^ 32) (of_take n j r lt)) (span_head greatest n (take n r) [])))
    ],
    all_left (kept_from n (suc c) rs) (if get_or r c 0 == 0 then [] else take n r ∷ []) rs
        (in_kept (suc c) rs (λ i j lt within zero_there. h (suc i) j (omega arith) within (subst (λ k. of (row rs i) k ≡ 0) (let f : suc c + i ≡ c + suc i = omega arith in f) zero_there))),
  )

  all_self : (rs : List (List ℕ)) → AllIn greatest n rs rs
  all_self [] = tt
  all_self (r ∷ rs) = (span_head greatest n r rs, all_more r rs rs (all_self rs))
    where
      all_more : (r : List ℕ) (ss xs : List (List ℕ)) → AllIn greatest n ss xs → AllIn greatest n (r ∷ ss) xs
      all_more r ss [] h = tt
      all_more r ss (x ∷ xs) h = (span_more greatest n r ss (of x) h.0, all_more r ss xs h.1)

  pub kept_to_rows : (c : ℕ) (rs : List (List ℕ)) (v : ℕ → ℕ) → Span greatest n (kept_from n c rs) v → Span greatest n rs v
  kept_to_rows c rs v h = span_sub greatest n rs (kept_from n c rs) v (kept_in rs c rs (all_self rs)) h

  pub rows_to_kept : (rs : List (List ℕ)) (v : ℕ → ℕ) → length rs ≡ n → Reduced rs → Span greatest n rs v → Span greatest n (kept_from n 0 rs) v
  rows_to_kept rs v size red h =
      span_sub greatest n (kept_from n 0 rs) rs v
      (in_kept 0 rs (λ i j lt within zero_there. red.empty i j lt (omega arith) (subst (λ k. of (row rs i) k ≡ 0) (let f : 0 + i ≡ i = omega arith in f) zero_there)))
      h

-- the kept rows from a later column on come first
kept_split : (n c j : ℕ) (rs : List (List ℕ)) → (out : List (List ℕ)) × (kept_from n c rs ≡ kept_from n (c + j) (drop j rs) ++ out)
kept_split n c zero rs = ([], (let e : c ≡ c + 0 = omega arith in ap (λ k. kept_from n k rs) e) ∙ sym (append-nil (kept_from n (c + 0) rs)))
kept_split n c (suc j) [] = ([], refl)
kept_split n c (suc j) (r ∷ rs) =
    let rest = kept_split n (suc c) j rs in (
      rest.0 ++ (if get_or r c 0 == 0 then [] else take n r ∷ []),
      ap (λ l. l ++ (if get_or r c 0 == 0 then [] else take n r ∷ [])) (rest.1 ∙ (let e : suc c + j ≡ c + suc j = omega arith in ap (λ k. kept_from n k (drop j rs) ++ rest.0) e))
          ∙ append_assoc (kept_from n (c + suc j) (drop j rs)) rest.0 (if get_or r c 0 == 0 then [] else take n r ∷ []),
    )

-- the kept rows around that of column c
pub place_split : (n : ℕ) (rs : List (List ℕ)) (i c : ℕ) → IsPlace n rs i c
    → (out : List (List ℕ)) × (kept_from n 0 rs ≡ kept_from n (suc c) (drop (suc c) rs) ++ take n (row rs c) ∷ out)
place_split n rs i c p =
    let around = kept_split n 0 c rs in (
      around.0,
      around.1 ∙ (let e : 0 + c ≡ c = omega arith in ap (λ k. kept_from n k (drop c rs) ++ around.0) e)
          ∙ ap (λ l. kept_from n c l ++ around.0) (drop-cons rs c [] p.within)
          ∙ ap (λ l. (kept_from n (suc c) (drop (suc c) rs) ++ l) ++ around.0) (if_kept (get_or (get_or rs c []) c 0) [] (take n (get_or rs c []) ∷ []) p.some)
          ∙ append_assoc (kept_from n (suc c) (drop (suc c) rs)) (take n (row rs c) ∷ []) around.0,
    )
