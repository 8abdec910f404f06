-- Each list of rows has one rank.
use Rattle.std.proofs.Common.{◌≡◌, ◌≢◌, ℕ, zero, suc, ◌+◌, ◌*◌, ◌%◌, ◌^◌, ◌<◌, ◌≤◌, List, [], ◌∷◌, sum, refl, ap, sym, ◌∙◌, subst, arith, inl, inr, ◌⊎◌, mod-lt}
use Rattle.std.proofs.lemmas.Bool.{cases_lt, cases_eq}
use Rattle.support_modular_rows.specs.Rank.{LeadsFrom, IsExponent, IsRank}
use Rattle.support_modular_rows.specs.Reduction.{Span}
use Rattle.support_modular_rows.specs.Laws.{HasOneRank}
use Rattle.support_modular_rows.proofs.Powers.{mod_power}
use Rattle.support_modular_rows.proofs.Spans.{Alike, cong_add, cong_mul, span_alike}
use Rattle.support_modular_rows.proofs.Growth.{greatest, of}
use Rattle.support_modular_rows.proofs.Images.{away, tabulate, of_tabulate, length-tabulate}
use Rattle.support_modular_rows.proofs.Members.{spans_member, member_spans}
use Rattle.support_modular_rows.proofs.Ranks.{rank_falls}

-- it holds, or it does not
abbrev Known : Type 0 → Type 0
Known A = A ⊎ (A → ⊥)

-- of finitely many numbers one has the property, or none
some_number : (n : ℕ) (Q : ℕ → Type 0) → ((i : ℕ) → Known (Q i)) → Known ((i : ℕ) × (i < n) × Q i)
some_number zero Q known = inr (λ (i, lt, q). absurd (omega arith))
some_number (suc n) Q known =
    elim (known n) [
      | inl here ↦ inl (n, omega arith, here)
      | inr never ↦ elim (some_number n Q known) [
        | inl (i, lt, q) ↦ inl (i, omega arith, q)
        | inr none ↦ inr (λ (i, lt, q). elim (cases_eq i n) [ inl same ↦ never (subst Q same q) | inr other ↦ none (i, omega arith, q) ])
      ]
    ]

all_numbers : (n : ℕ) (Q : ℕ → Type 0) → ((i : ℕ) → Known (Q i)) → Known ((i : ℕ) → i < n → Q i)
all_numbers zero Q known = inl (λ i lt. absurd (omega arith))
all_numbers (suc n) Q known =
    elim (known n) [
      | inr never ↦ inr (λ all. never (all n (omega arith)))
      | inl here ↦ elim (all_numbers n Q known) [
        | inr never ↦ inr (λ all. never (λ i lt. all i (omega arith)))
        | inl all ↦ inl (λ i lt. elim (cases_eq i n) [ inl same ↦ subst Q (sym same) here | inr other ↦ all i (omega arith) ])
      ]
    ]

module _ (n : ℕ) where
  -- a row's multiple that is taken from a vector, and given back by a multiple below 2 ^ 32
  back : (c : ℕ) (r : List ℕ) (v : ℕ → ℕ) → Alike greatest n (λ j. v j + c * of r j + greatest * c % 2 ^ 32 * of r j) v
  back c r v j lt =
      let again : greatest * c % 2 ^ 32 * of r j ≡ of r j * (greatest * c % 2 ^ 32) = omega arith in
      cong_add greatest (v j + c * of r j) (v j + c * of r j) (greatest * c % 2 ^ 32 * of r j) (greatest * c * of r j) refl
      (ap (λ z. z % 2 ^ 32) again ∙ cong_mul greatest (of r j) (greatest * c % 2 ^ 32) (greatest * c) (mod_power (greatest * c) 32 32 (omega arith))
      ∙ (let f : of r j * (greatest * c) ≡ greatest * c * of r j = omega arith in ap (λ z. z % 2 ^ 32) f))
      ∙ away (v j) (of r j) c

  -- of the vectors in the span one has the property, or none
  some_vector : (rows : List (List ℕ)) (Q : (ℕ → ℕ) → Type 0) → ((v w : ℕ → ℕ) → Alike greatest n v w → Q v → Q w) → ((v : ℕ → ℕ) → Known (Q v))
      → Known ((v : ℕ → ℕ) × Span greatest n rows v × Q v)
  some_vector [] Q same known =
      elim (known (λ j. 0)) [
        | inl here ↦ inl ((λ j. 0), (λ j lt. refl), here)
        | inr never ↦ inr (λ (v, h, q). never (same v (λ j. 0) h q))
      ]
  some_vector (r ∷ rows) Q same known =
      elim (some_number (2 ^ 32) (λ c. (w : ℕ → ℕ) × Span greatest n rows w × Q (λ j. w j + c * of r j))
      (λ c. some_vector rows (λ w. Q (λ j. w j + c * of r j))
      (λ v w e q. same (λ j. v j + c * of r j) (λ j. w j + c * of r j) (λ j lt. cong_add greatest (v j) (w j) (c * of r j) (c * of r j) (e j lt) refl) q)
      (λ w. known (λ j. w j + c * of r j)))) [
        | inl (c, lt, (w, h, q)) ↦ inl ((λ j. w j + c * of r j), (greatest * c, span_alike greatest n rows w (λ j. w j + c * of r j + greatest * c * of r j) (λ j lt. sym (away (w j) (of r j) c)) h), q)
        | inr none ↦ inr (λ (v, (c, h), q).
            none (
              greatest * c % 2 ^ 32,
              mod-lt (greatest * c) (omega arith),
              (
                (λ j. v j + c * of r j),
                h,
                same v (λ j. v j + c * of r j + greatest * c % 2 ^ 32 * of r j) (λ j lt. sym (back c r v j lt)) q,
              ),
            ))
      ]

module _ (k c : ℕ) (rows : List (List ℕ)) (le : c ≤ k) where
  -- 0 before the column, and there no multiple of the power
  abbrev Breaks : ℕ → (ℕ → ℕ) → Type 0
  Breaks w v = ((j : ℕ) → j < c → v j % 2 ^ 32 ≡ 0) × (v c % 2 ^ (w + 1) ≢ 0)

  breaks_known : (w : ℕ) (v : ℕ → ℕ) → Known (Breaks w v)
  breaks_known w v =
      elim (all_numbers c (λ j. v j % 2 ^ 32 ≡ 0) (λ j. cases_eq (v j % 2 ^ 32) 0)) [
        | inr never ↦ inr (λ b. never b.0)
        | inl zeros ↦ elim (cases_eq (v c % 2 ^ (w + 1)) 0) [ inl divides ↦ inr (λ b. b.1 divides) | inr other ↦ inl (zeros, other) ]
      ]

  breaks_alike : (w : ℕ) (v x : ℕ → ℕ) → w < 32 → Alike greatest (k + 1) v x → Breaks w v → Breaks w x
  breaks_alike w v x less e b =
      let same : v c % 2 ^ (w + 1) ≡ x c % 2 ^ (w + 1) =
      sym (mod_power (v c) (w + 1) 32 (omega arith)) ∙ ap (λ y. y % 2 ^ (w + 1)) (e c (omega arith)) ∙ mod_power (x c) (w + 1) 32 (omega arith) in
      (λ j lt. sym (e j (omega arith)) ∙ b.0 j lt, λ z. b.1 (same ∙ z))

  -- from a power that divides on: the greatest
  exponent_from : (d w : ℕ) → w + d ≡ 32 → ((x : List ℕ) → LeadsFrom k rows c x → of x c % 2 ^ w ≡ 0) → (v : ℕ) × IsExponent k rows c v
  exponent_from zero w e divides = (w, record { limit = omega arith; divides = divides; greatest = λ less. absurd (omega arith) })
  exponent_from (suc d) w e divides =
      let less : w < 32 = omega arith in
      elim (some_vector (k + 1) rows (Breaks w) (λ v x same b. breaks_alike w v x less same b) (breaks_known w)) [
        | inl (v, h, b) ↦
            let same : Alike greatest (k + 1) v (of (tabulate (k + 1) v)) = λ j lt. ap (λ y. y % 2 ^ 32) (sym (of_tabulate (k + 1) j v lt)) in
            let breaks = breaks_alike w v (of (tabulate (k + 1) v)) less same b in (
              w,
              record {
                limit = omega arith;
                divides = divides;
                greatest = λ less. (tabulate (k + 1) v, (member_spans k rows (tabulate (k + 1) v) (span_alike greatest (k + 1) rows v (of (tabulate (k + 1) v)) same h), breaks.0), breaks.1);
              },
            )
        | inr none ↦ exponent_from d (w + 1) (omega arith) (λ x leads. elim (cases_eq (of x c % 2 ^ (w + 1)) 0) [
          | inl zero_there ↦ zero_there
          | inr other ↦ absurd (none (of x, spans_member k rows x leads.0, (leads.1, other)))
        ])
      ]

  has_exponent : (v : ℕ) × IsExponent k rows c v
  has_exponent = exponent_from 32 0 refl (λ x leads. let small : of x c % 2 ^ 0 < 1 = mod-lt (of x c) (omega arith) in omega arith)

-- the exponent of a column, and any number past the last
column_exponent : (k : ℕ) (rows : List (List ℕ)) (c : ℕ) → (v : ℕ) × (c ≤ k → IsExponent k rows c v)
column_exponent k rows c =
    elim (cases_lt k c) [
      | inl past ↦ (0, λ le. absurd (omega arith))
      | inr le ↦ let e = has_exponent k c rows le in (e.0, λ le. e.1)
    ]

pub has_one_rank : HasOneRank
has_one_rank k rows =
    let exponents : ℕ → ℕ = λ c. (column_exponent k rows c).0 in
    let rank : IsRank k rows (sum (tabulate (k + 1) exponents)) =
    (tabulate (k + 1) exponents, length-tabulate (k + 1) exponents, λ c le. subst (IsExponent k rows c) (sym (of_tabulate (k + 1) c exponents (omega arith))) ((column_exponent k rows c).1 le), refl) in (
      sum (tabulate (k + 1) exponents),
      rank,
      λ m other. let down = (rank_falls k (sum (tabulate (k + 1) exponents)) m rows rows (λ x h. h) rank other).0 in
          let up = (rank_falls k m (sum (tabulate (k + 1) exponents)) rows rows (λ x h. h) other rank).0 in omega arith,
    )
