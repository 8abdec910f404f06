-- The members are the least closed set that holds the rows.
use Rattle.std.proofs.Common.{◌≡◌, ℕ, zero, suc, ◌+◌, ◌*◌, ◌%◌, ◌^◌, ◌≤◌, List, [], ◌∷◌, length, refl, ap, ap₂, sym, ◌∙◌, arith}
use Rattle.std.specs.List.{All}
use Rattle.support_modular_rows.specs.Submodule.{Congruent, IsMember, combination, dot}
use Rattle.support_modular_rows.specs.Values.{dot_first}
use Rattle.support_modular_rows.specs.Laws.{IsClosed, MembersAreLeast, RowsWithin, RelationsHold}
use Rattle.support_modular_rows.proofs.Spans.{cong_drop, cong_mul_zero}
use Rattle.support_modular_rows.proofs.Growth.{greatest, of}
use Rattle.support_modular_rows.proofs.Images.{tabulate, of_tabulate, dot_linear, dot_alike, dot_zero}
use Rattle.support_modular_rows.proofs.Closure.{closed_under_sums, closed_under_multiples, holds_zero}

module _ (P : List ℕ → Type 0) (k : ℕ) (closed : IsClosed k P) where
  combinations : (cs : List ℕ) (rows : List (List ℕ)) → All P rows → (x : List ℕ) → ((j : ℕ) → j ≤ k → Congruent (of x j) (combination cs rows j)) → P x
  combinations [] rows all x h = closed.zero x h
  combinations (c ∷ cs) [] all x h = closed.zero x h
  combinations (c ∷ cs) (r ∷ rows) all x h =
      let multiple : ℕ → ℕ = λ j. c * of r j in
      let rest : ℕ → ℕ = λ j. combination cs rows j in
      let at : (v : ℕ → ℕ) (j : ℕ) → j ≤ k → of (tabulate (k + 1) v) j ≡ v j = λ v j le. of_tabulate (k + 1) j v (omega arith) in
      closed.sums (tabulate (k + 1) multiple) (tabulate (k + 1) rest) x
      (closed.multiples c r (tabulate (k + 1) multiple) (all 0 r (omega arith)) (λ j le. ap (λ y. y % 2 ^ 32) (at multiple j le)))
      (combinations cs rows (λ i d lt. all (suc i) d (omega arith)) (tabulate (k + 1) rest) (λ j le. ap (λ y. y % 2 ^ 32) (at rest j le)))
      (λ j le. h j le ∙ ap₂ (λ y z. (y + z) % 2 ^ 32) (sym (at multiple j le)) (sym (at rest j le)))

pub members_are_least : (P : List ℕ → Type 0) → MembersAreLeast P
members_are_least P k rows closed all x (cs, h) = combinations P k closed cs rows all x h

pub rows_within : RowsWithin
rows_within k rows others all =
    members_are_least (IsMember k others) k rows
    (record {
      zero = λ z e. holds_zero k others z e;
      sums = λ x y z hx hy e. closed_under_sums k others x y z hx hy e;
      multiples = λ q x z hx e. closed_under_multiples k q others x z hx e;
    })
    all

-- a sum of products with no more numbers than there are columns, read column by column
dot_reads : (n : ℕ) (cs xs : List ℕ) → length cs ≤ n → dot cs xs ≡ dot_first n cs (of xs)
dot_reads zero [] xs le = refl
dot_reads zero (c ∷ cs) xs le = absurd (omega arith)
dot_reads (suc n) [] xs le = refl
dot_reads (suc n) (c ∷ cs) [] le = let none = dot_zero n cs in omega arith
dot_reads (suc n) (c ∷ cs) (x ∷ xs) le = ap (λ y. c * x + y) (dot_reads n cs xs (omega arith))

module _ (k : ℕ) (form : List ℕ) (few : length form ≤ k + 1) where
  alike : (z : List ℕ) (v : ℕ → ℕ) → ((j : ℕ) → j ≤ k → Congruent (of z j) (v j)) → Congruent (dot form z) (dot_first (k + 1) form v)
  alike z v e = ap (λ y. y % 2 ^ 32) (dot_reads (k + 1) form z few) ∙ dot_alike (k + 1) form (of z) v (λ j lt. e j (omega arith))

  read : (x : List ℕ) → Congruent (dot form x) 0 → dot_first (k + 1) form (of x) % 2 ^ 32 ≡ 0
  read x h = ap (λ y. y % 2 ^ 32) (sym (dot_reads (k + 1) form x few)) ∙ h

  relation_closed : IsClosed k (λ x. Congruent (dot form x) 0)
  relation_closed = record {
    zero = λ z e. alike z (λ j. 0) e ∙ ap (λ y. y % 2 ^ 32) (dot_zero (k + 1) form);
    sums = λ x y z hx hy e.
        alike z (λ j. of x j + 1 * of y j) (λ j le. e j le ∙ (let f : of x j + of y j ≡ of x j + 1 * of y j = omega arith in ap (λ y. y % 2 ^ 32) f))
        ∙ ap (λ y. y % 2 ^ 32) (dot_linear (k + 1) form 1 (of x) (of y))
        ∙ cong_drop greatest (dot_first (k + 1) form (of x)) (1 * dot_first (k + 1) form (of y)) (cong_mul_zero greatest 1 (dot_first (k + 1) form (of y)) (read y hy)) ∙ read x hx;
    multiples = λ q x z hx e.
        alike z (λ j. 0 + q * of x j) (λ j le. e j le ∙ (let f : q * of x j ≡ 0 + q * of x j = omega arith in ap (λ y. y % 2 ^ 32) f))
        ∙ ap (λ y. y % 2 ^ 32) (dot_linear (k + 1) form q (λ j. 0) (of x))
        ∙ cong_drop greatest (dot_first (k + 1) form (λ j. 0)) (q * dot_first (k + 1) form (of x)) (cong_mul_zero greatest q (dot_first (k + 1) form (of x)) (read x hx))
        ∙ ap (λ y. y % 2 ^ 32) (dot_zero (k + 1) form);
  }

pub relations_hold : RelationsHold
relations_hold k form rows few all x member = members_are_least (λ x. Congruent (dot form x) 0) k rows (relation_closed k form few) all x member
