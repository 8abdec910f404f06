-- Members by coefficients, and spans by rows, are one.
use Rattle.std.proofs.Common.{◌≡◌, ℕ, ◌+◌, ◌*◌, ◌%◌, ◌^◌, List, [], ◌∷◌, get_or, refl, ap, sym, ◌∙◌, arith}
use Rattle.support_modular_rows.specs.Submodule.{combination, IsMember}
use Rattle.support_modular_rows.specs.Reduction.{Span}
use Rattle.support_modular_rows.proofs.Spans.{cong_add, cong_drop, cong_neg, span_zero, Alike}
use Rattle.support_modular_rows.proofs.Growth.{greatest, of}

-- m times a multiple takes the multiple away
away : (a b : ℕ) → (a + b + greatest * a) % 2 ^ 32 ≡ b % 2 ^ 32
away a b = (let f : a + b + greatest * a ≡ b + (a + greatest * a) = omega arith in ap (λ z. z % 2 ^ 32) f) ∙ cong_drop greatest b (a + greatest * a) (cong_neg greatest a)

module _ (n : ℕ) where
  pub span_of : (cs : List ℕ) (rows : List (List ℕ)) (v : ℕ → ℕ) → Alike greatest n v (combination cs rows) → Span greatest n rows v
  span_of [] rows v h = span_zero greatest n rows v h
  span_of (c ∷ cs) [] v h = h
  span_of (c ∷ cs) (r ∷ rs) v h = (
    greatest * c,
    span_of cs rs (λ j. v j + greatest * c * get_or r j 0)
        (λ j lt. cong_add greatest (v j) (c * get_or r j 0 + combination cs rs j) (greatest * c * get_or r j 0) (greatest * c * get_or r j 0) (h j lt) refl
        ∙ (let f : c * get_or r j 0 + combination cs rs j + greatest * c * get_or r j 0 ≡ c * get_or r j 0 + combination cs rs j + greatest * (c * get_or r j 0) = omega arith in ap (λ z. z % 2 ^ 32) f)
        ∙ away (c * get_or r j 0) (combination cs rs j)),
  )

  pub combined : (rows : List (List ℕ)) (v : ℕ → ℕ) → Span greatest n rows v → (cs : List ℕ) × Alike greatest n v (combination cs rows)
  combined [] v h = ([], h)
  combined (r ∷ rs) v (c, h) =
      let rest = combined rs (λ j. v j + c * get_or r j 0) h in (
        greatest * c ∷ rest.0,
        λ j lt. sym (away (c * get_or r j 0) (v j))
            ∙ (let f : c * get_or r j 0 + v j + greatest * (c * get_or r j 0) ≡ greatest * c * get_or r j 0 + (v j + c * get_or r j 0) = omega arith in ap (λ z. z % 2 ^ 32) f)
            ∙ cong_add greatest (greatest * c * get_or r j 0) (greatest * c * get_or r j 0) (v j + c * get_or r j 0) (combination rest.0 rs j) refl (rest.1 j lt),
      )

pub spans_member : (k : ℕ) (rows : List (List ℕ)) (x : List ℕ) → IsMember k rows x → Span greatest (k + 1) rows (of x)
spans_member k rows x (cs, h) = span_of (k + 1) cs rows (of x) (λ j lt. h j (omega arith))

pub member_spans : (k : ℕ) (rows : List (List ℕ)) (x : List ℕ) → Span greatest (k + 1) rows (of x) → IsMember k rows x
member_spans k rows x h = let c = combined (k + 1) rows (of x) h in (c.0, λ j le. c.1 j (omega arith))
