-- The least multiple, by the rows.
use Rattle.std.proofs.Common.{◌≡◌, ◌≢◌, ℕ, zero, suc, ◌+◌, ◌*◌, ◌/◌, ◌%◌, ◌^◌, ◌<◌, ◌≤◌, List, [], ◌∷◌, length, get_or, refl, ap, sym, ◌∙◌, arith, mod-eq_of_lt, div-add-mod', div-lt_iff_lt-mul}
use Rattle.std.proofs.Math.Nat.{mod-le, mul-mod_left}
use Rattle.support_modular_rows.specs.Submodule.{Congruent}
use Rattle.support_modular_rows.specs.Multiples.{AreLeastMultiples, AreMultiples, IsLeastMultiple, IsMultiple}
use Rattle.support_modular_rows.specs.Reduction.{IsLead, IsStore, Reduced, Span}
use Rattle.support_modular_rows.proofs.Growth.{greatest, of}
use Rattle.support_modular_rows.proofs.Powers.{mod_power}
use Rattle.support_modular_rows.proofs.Spans.{cong_add, cong_drop, cong_mul, cong_mul_zero, cong_neg, in_rows}
use Rattle.support_modular_rows.proofs.Store.{has_store, kept, store_has}

-- what is added to both may be taken away
agree_less : (a b c d : ℕ) → Congruent (a + b) (c + d) → Congruent b d → Congruent a c
agree_less a b c d e f =
    let whole : (p q : ℕ) → p + (q + greatest * q) ≡ p + q + greatest * q = λ p q. omega arith in
    sym (cong_drop greatest a (b + greatest * b) (cong_neg greatest b)) ∙ ap (λ z. z % 2 ^ 32) (whole a b)
    ∙ cong_add greatest (a + b) (c + d) (greatest * b) (greatest * d) e (cong_mul greatest greatest b d f)
    ∙ ap (λ z. z % 2 ^ 32) (sym (whole c d)) ∙ cong_drop greatest c (d + greatest * d) (cong_neg greatest d)

-- what holds of the rows holds of what they span
span_multiple : (n : ℕ) (rs : List (List ℕ)) (column c : ℕ) → column < n → AreMultiples rs column c → (v : ℕ → ℕ) → Span greatest n rs v → Congruent (v column) (c * v 0)
span_multiple n [] column c lt all v h = h column lt ∙ sym (cong_mul_zero greatest c (v 0) (h 0 (omega (arith, lt))))
span_multiple n (r ∷ rs) column c lt all v (d, h) =
    let rest = span_multiple n rs column c lt (λ i less. all (suc i) (omega (arith, less))) (λ j. v j + d * of r j) h in
    let here : Congruent (d * of r column) (d * (c * of r 0)) = cong_mul greatest d (of r column) (c * of r 0) (all 0 (omega arith)) in
    let parts : c * (v 0 + d * of r 0) ≡ c * v 0 + d * (c * of r 0) = omega arith in
    agree_less (v column) (d * of r column) (c * v 0) (d * (c * of r 0)) (rest ∙ ap (λ z. z % 2 ^ 32) parts) here

module _ (k : ℕ) (rs : List (List ℕ)) (cell : ℕ) (within : cell < k) (store : IsStore k rs) where
  members_from : (c : ℕ) → AreMultiples rs (cell + 1) c → IsMultiple k (kept k rs) cell c
  members_from c all x member = span_multiple (k + 1) rs (cell + 1) c (omega (arith, within)) all (of x) (store_has k rs x member)

  members_to : (c : ℕ) → IsMultiple k (kept k rs) cell c → AreMultiples rs (cell + 1) c
  members_to c h i lt = h (get_or rs i []) (has_store k rs (get_or rs i []) store (in_rows greatest (k + 1) rs 0 i (omega arith) lt))

  pub least_from : (c : ℕ) → AreLeastMultiples rs (cell + 1) c → IsLeastMultiple k (kept k rs) cell c
  least_from c all = record { holds = members_from c all.holds; least = λ d h. all.least d (members_to d h) }

  pub none_from : ((c : ℕ) → AreMultiples rs (cell + 1) c → ⊥) → (c : ℕ) → IsMultiple k (kept k rs) cell c → ⊥
  none_from none c h = none c (members_to c h)

module _ (rs : List (List ℕ)) (column : ℕ) (reduced : Reduced rs) (lt : column < length rs) where
  -- a row but the first is 0 in its first column, so it has to be 0 in this one
  other_zero : (i c : ℕ) → 0 < i → i < length rs → Congruent (c * of (get_or rs i []) 0) 0
  other_zero i c positive less = cong_mul_zero greatest c (of (get_or rs i []) 0) (reduced.triangular i 0 less positive)

  pub no_other : (i : ℕ) → 0 < i → i < length rs → of (get_or rs i []) column ≢ 0 → of (get_or rs i []) column < 2 ^ 32 → (c : ℕ) → AreMultiples rs column c → ⊥
  no_other i positive less some small c all = some (sym (mod-eq_of_lt small) ∙ all i less ∙ other_zero i c positive less)

  -- where all others are 0, the first row decides
  first_decides : (c : ℕ) → ((i : ℕ) → 0 < i → i < length rs → of (get_or rs i []) column ≡ 0) → Congruent (of (get_or rs 0 []) column) (c * of (get_or rs 0 []) 0) → AreMultiples rs column c
  first_decides c others first zero less = first
  first_decides c others first (suc i) less = ap (λ z. z % 2 ^ 32) (others (suc i) (omega arith) less) ∙ sym (other_zero (suc i) c (omega arith) less)

  pub zero_least : ((i : ℕ) → 0 < i → i < length rs → of (get_or rs i []) column ≡ 0) → of (get_or rs 0 []) 0 ≡ 0 → AreLeastMultiples rs column 0
  zero_least others none = record {
    holds = first_decides 0 others (ap (λ z. z % 2 ^ 32) (reduced.empty 0 column (omega (arith, lt)) lt none ∙ omega arith));
    least = λ d h. omega arith;
  }

  -- the first number is a power of two
  power : of (get_or rs 0 []) 0 ≢ 0 → (v : ℕ) × (v ≤ 32) × (of (get_or rs 0 []) 0 ≡ 2 ^ v)
  power some = at (of (get_or rs 0 []) 0) some (reduced.leads 0 (omega (arith, lt)))
    where
      at : (e : ℕ) → e ≢ 0 → IsLead e → (v : ℕ) × (v ≤ 32) × (e ≡ 2 ^ v)
      at zero some lead = absurd (some refl)
      at (suc e) some lead = (lead.0, lead.1, lead.2)

  pub no_quotient : of (get_or rs 0 []) 0 ≢ 0 → of (get_or rs 0 []) column % of (get_or rs 0 []) 0 ≢ 0 → (c : ℕ) → AreMultiples rs column c → ⊥
  no_quotient some rest c all =
      let p = power some in
      let x : ℕ = of (get_or rs 0 []) column in
      rest (ap (λ a. of (get_or rs 0 []) column % a) p.2
      ∙ sym (mod_power (of (get_or rs 0 []) column) p.0 32 p.1)
      ∙ ap (λ z. z % 2 ^ p.0) (all 0 (omega (arith, lt)))
      ∙ mod_power (c * of (get_or rs 0 []) 0) p.0 32 p.1
      ∙ ap (λ a. c * a % 2 ^ p.0) p.2
      ∙ mul-mod_left c (2 ^ p.0))

  pub quotient_least : ((i : ℕ) → 0 < i → i < length rs → of (get_or rs i []) column ≡ 0) → of (get_or rs 0 []) 0 ≢ 0 → of (get_or rs 0 []) column < 2 ^ 32
      → of (get_or rs 0 []) column % of (get_or rs 0 []) 0 ≡ 0 → AreLeastMultiples rs column (of (get_or rs 0 []) column / of (get_or rs 0 []) 0)
  quotient_least others some small even = at (of (get_or rs 0 []) column) (of (get_or rs 0 []) 0) refl refl
    where
      at : (x a : ℕ) → x ≡ of (get_or rs 0 []) column → a ≡ of (get_or rs 0 []) 0 → AreLeastMultiples rs column (of (get_or rs 0 []) column / of (get_or rs 0 []) 0)
      at x a e f = record {
        holds = first_decides (of (get_or rs 0 []) column / of (get_or rs 0 []) 0) others
            (ap (λ z. z % 2 ^ 32) (sym (let whole = div-add-mod' (of (get_or rs 0 []) column) (of (get_or rs 0 []) 0) in omega (arith, whole, even))));
        least = λ d all.
            let positive : 0 < of (get_or rs 0 []) 0 = omega (arith, some) in
            let under : d * of (get_or rs 0 []) 0 % 2 ^ 32 ≤ d * of (get_or rs 0 []) 0 = mod-le (d * of (get_or rs 0 []) 0) (2 ^ 32) in
            let same : of (get_or rs 0 []) column ≡ d * of (get_or rs 0 []) 0 % 2 ^ 32 = sym (mod-eq_of_lt small) ∙ all 0 (omega (arith, lt)) in
            let next : (d + 1) * of (get_or rs 0 []) 0 ≡ d * of (get_or rs 0 []) 0 + of (get_or rs 0 []) 0 = omega arith in
            let less : of (get_or rs 0 []) column / of (get_or rs 0 []) 0 < d + 1 = (div-lt_iff_lt-mul positive).1 (omega (arith, positive, under, same, next)) in
            omega (arith, less);
      }
