-- The stored rows as a submodule.
use Rattle.std.proofs.Common.{◌≡◌, ℕ, zero, suc, ◌+◌, ◌*◌, ◌%◌, ◌^◌, ◌<◌, ◌≤◌, List, [], ◌∷◌, ◌++◌, length, get_or, take, drop, refl, ap, sym, ◌∙◌, subst, arith, rules, true, false, Bool, IsTrue, ◌==◌, if◌then◌else◌}
use Rattle.std.proofs.Math.ListN.{replicate, set}
use Rattle.std.proofs.Math.Seq.{take-set-lt}
use Rattle.std.specs.Bool.{MatchBool}
use Rattle.std.proofs.lemmas.List.{get_or-replicate, length-replicate, take-replicate}
use Rattle.support_modular_rows.specs.Submodule.{IsMember, unit_row}
use Rattle.support_modular_rows.specs.Reduction.{Span, Reduced, kept_from, IsStore, InSpan, IsLead, SameSpan}
use Rattle.support_modular_rows.proofs.Spans.{Alike, cong_add, cong_mul, span_alike, span_zero, span_more, span_cancel, span_mul}
use Rattle.support_modular_rows.proofs.Growth.{greatest, of}
use Rattle.support_modular_rows.proofs.Kept.{kept_to_rows, rows_to_kept}
use Rattle.support_modular_rows.proofs.Members.{spans_member, member_spans}

abbrev pub kept : ℕ → List (List ℕ) → List (List ℕ)
kept k rs = kept_from (k + 1) 0 rs

pub store_has : (k : ℕ) (rs : List (List ℕ)) (y : List ℕ) → IsMember k (kept k rs) y → Span greatest (k + 1) rs (of y)
store_has k rs y h = kept_to_rows (k + 1) 0 rs (of y) (spans_member k (kept k rs) y h)

pub has_store : (k : ℕ) (rs : List (List ℕ)) (y : List ℕ) → IsStore k rs → Span greatest (k + 1) rs (of y) → IsMember k (kept k rs) y
has_store k rs y store h = member_spans k (kept k rs) y (rows_to_kept (k + 1) rs (of y) store.size store.reduced h)

-- the vector has the row's numbers
abbrev pub Holds : List ℕ → List ℕ → Type 0
Holds x r = (i : ℕ) → i < length r → get_or x i 0 ≡ get_or r i 0

holds_alike : (n : ℕ) (x r : List ℕ) → length r ≡ n → Holds x r → Alike greatest n (of x) (of r)
holds_alike n x r size h j lt = ap (λ z. z % 2 ^ 32) (h j (omega arith))

pub copied_to : (rs : List (List ℕ)) (x r : List ℕ) → length r ≡ length rs → Holds x r → InSpan rs x → InSpan rs r
copied_to rs x r size h g = span_alike greatest (length rs) rs (of x) (of r) (holds_alike (length rs) x r size h) g

pub copied_from : (rs : List (List ℕ)) (x r : List ℕ) → length r ≡ length rs → Holds x r → InSpan rs r → InSpan rs x
copied_from rs x r size h g = span_alike greatest (length rs) rs (of r) (of x) (λ j lt. sym (holds_alike (length rs) x r size h j lt)) g

pub decided_to : (k : ℕ) (rs : List (List ℕ)) (r : List ℕ) → IsStore k rs → InSpan rs r → IsMember k (kept k rs) r
decided_to k rs r store g = has_store k rs r store (subst (λ n. Span greatest n rs (of r)) store.size g)

pub decided_from : (k : ℕ) (rs : List (List ℕ)) (r : List ℕ) → IsStore k rs → IsMember k (kept k rs) r → InSpan rs r
decided_from k rs r store g = subst (λ n. Span greatest n rs (of r)) (sym store.size) (store_has k rs r g)

-- a member adds nothing
pub adds_none : (k : ℕ) (rows : List (List ℕ)) (r y : List ℕ) → IsMember k rows r → IsMember k (r ∷ rows) y → IsMember k rows y
adds_none k rows r y member h =
    let g = spans_member k (r ∷ rows) y h in
    member_spans k rows y (span_cancel greatest (k + 1) rows (of y) (λ j. g.0 * of r j) g.1 (span_mul greatest (k + 1) g.0 rows (of r) (spans_member k rows r member)))

pub adds_more : (k : ℕ) (rows : List (List ℕ)) (r y : List ℕ) → IsMember k rows y → IsMember k (r ∷ rows) y
adds_more k rows r y h = member_spans k (r ∷ rows) y (span_more greatest (k + 1) r rows (of y) (spans_member k rows y h))

-- the first row for one alike, the others for rows that span them
cons_change : (n : ℕ) (a b : List ℕ) (xs ys : List (List ℕ)) (v : ℕ → ℕ) → Alike greatest n (of a) (of b)
    → ((w : ℕ → ℕ) → Span greatest n xs w → Span greatest n ys w) → Span greatest n (a ∷ xs) v → Span greatest n (b ∷ ys) v
cons_change n a b xs ys v alike to (c, h) = (
  c,
  span_alike greatest n ys (λ j. v j + c * of a j) (λ j. v j + c * of b j)
      (λ j lt. cong_add greatest (v j) (v j) (c * of a j) (c * of b j) refl (cong_mul greatest c (of a j) (of b j) (alike j lt)))
      (to (λ j. v j + c * of a j) h),
)

-- a span of a vector and rows is that of a row alike and the rows
pub copied_same : (n : ℕ) (old rs : List (List ℕ)) (x r : List ℕ) → length r ≡ n → Holds x r → SameSpan n (x ∷ old) rs → SameSpan n (r ∷ old) rs
copied_same n old rs x r size h same v = (
  λ g. (same v).0 (cons_change n r x old old v (λ j lt. sym (holds_alike n x r size h j lt)) (λ w k. k) g),
  λ g. cons_change n x r old old v (holds_alike n x r size h) (λ w k. k) ((same v).1 g),
)

-- a member adds nothing to the span
pub held_same : (rs : List (List ℕ)) (r : List ℕ) → InSpan rs r → SameSpan (length rs) (r ∷ rs) rs
held_same rs r member v = (
  λ g. span_cancel greatest (length rs) rs v (λ j. g.0 * of r j) g.1 (span_mul greatest (length rs) g.0 rs (of r) member),
  λ g. span_more greatest (length rs) r rs v g,
)

pub added_to : (k : ℕ) (old rs : List (List ℕ)) (r y : List ℕ) → IsStore k old → SameSpan (length old) (r ∷ old) rs
    → IsMember k (kept k rs) y → IsMember k (r ∷ kept k old) y
added_to k old rs r y store same g =
    let there : Span greatest (k + 1) (r ∷ old) (of y) = (subst (λ n. SameSpan n (r ∷ old) rs) store.size same (of y)).1 (store_has k rs y g) in
    member_spans k (r ∷ kept k old) y (cons_change (k + 1) r r old (kept k old) (of y) (λ j lt. refl) (λ w. rows_to_kept (k + 1) old w store.size store.reduced) there)

pub added_from : (k : ℕ) (old rs : List (List ℕ)) (r y : List ℕ) → IsStore k old → IsStore k rs → SameSpan (length old) (r ∷ old) rs
    → IsMember k (r ∷ kept k old) y → IsMember k (kept k rs) y
added_from k old rs r y store new same g =
    let there : Span greatest (k + 1) (r ∷ old) (of y) =
    cons_change (k + 1) r r (kept k old) old (of y) (λ j lt. refl) (λ w. kept_to_rows (k + 1) 0 old w) (spans_member k (r ∷ kept k old) y g) in
    has_store k rs y new ((subst (λ n. SameSpan n (r ∷ old) rs) store.size same (of y)).0 there)

-- what a write through the slice leaves in the list
pub put_back : (len : ℕ) (ys xs : List (List ℕ)) → length ys ≡ len → take len (ys ++ drop (length ys) xs) ≡ ys
put_back zero [] xs e = refl
put_back (suc len) [] xs e = absurd (omega arith)
put_back zero (y ∷ ys) xs e = absurd (omega arith)
put_back (suc len) (y ∷ ys) [] e = ap (λ l. y ∷ l) (put_back_none len ys (omega arith))
  where
    put_back_none : (len : ℕ) (ys : List (List ℕ)) → length ys ≡ len → take len (ys ++ []) ≡ ys
    put_back_none zero [] e = refl
    put_back_none (suc len) [] e = absurd (omega arith)
    put_back_none zero (y ∷ ys) e = absurd (omega arith)
    put_back_none (suc len) (y ∷ ys) e = ap (λ l. y ∷ l) (put_back_none len ys (omega arith))
put_back (suc len) (y ∷ ys) (x ∷ xs) e = ap (λ l. y ∷ l) (put_back len ys xs (omega arith))

-- rows of zeros
abbrev pub AllZeros : List (List ℕ) → Type 0
AllZeros rs = (c j : ℕ) → c < length rs → get_or (get_or rs c []) j 0 ≡ 0

pub zeros_reduced : (rs : List (List ℕ)) → AllZeros rs → Reduced rs
zeros_reduced rs z = record {
  triangular = λ c j lt before. ap (λ e. e % 2 ^ 32) (z c j lt);
  kills = λ c lt q h. span_zero greatest (length rs) (drop (suc c) rs) (λ j. q * get_or (get_or rs c []) j 0)
      (λ j lt'. ap (λ e. q * e % 2 ^ 32) (z c j lt) ∙ (let f : q * 0 ≡ 0 = omega arith in ap (λ e. e % 2 ^ 32) f));
  leads = λ c lt. subst (λ e. IsLead e) (sym (z c c lt)) (32, omega arith, refl, omega arith);
  empty = λ c j lt lt' e. z c j lt;
}

pub zeros_kept : (n c : ℕ) (rs : List (List ℕ)) → ((i j : ℕ) → i < length rs → get_or (get_or rs i []) j 0 ≡ 0) → kept_from n c rs ≡ []
zeros_kept n c [] z = refl
zeros_kept n c (r ∷ rs) z =
    ap (λ l. l ++ (if get_or r c 0 == 0 then [] else take n r ∷ [])) (zeros_kept n (suc c) rs (λ i j lt. z (suc i) j (omega arith)))
    ∙ ap (λ e. if e == 0 then [] else take n r ∷ []) (z 0 c (omega arith))

pub zero_at : (k j : ℕ) (z : ℕ) → z ≡ 0 → get_or (replicate k z) j 0 ≡ 0
zero_at zero j z e = refl
zero_at (suc k) zero z e = e
zero_at (suc k) (suc j) z e = zero_at k j z e

abbrev pub zero_row : List ℕ
zero_row = replicate 65 0

pub zeros_of : (n : ℕ) → AllZeros (replicate n zero_row)
zeros_of n c j lt =
    let within : c < n = omega (arith, length-replicate n zero_row) in
    ap (λ r. get_or r j 0) (get_or-replicate n c zero_row [] within) ∙ zero_at 65 j 0 refl

pub match_map : (b : Bool) (A B C D : Type 0) → (A → C) → (B → D) → MatchBool b A B → MatchBool b C D
match_map true A B C D f g h = f h
match_map false A B C D f g h = g h

pub match_iff : (b : Bool) (A : Type 0) → MatchBool b A (A → ⊥) → (IsTrue b → A) × (A → IsTrue b)
match_iff true A h = (λ t. h, λ a. search rules)
match_iff false A h = (λ t. absurd (search rules), λ a. absurd (h a))

-- the front of a unit vector
pub unit_front : (n column : ℕ) → n ≤ 65 → column < n → take n (unit_row 65 column) ≡ unit_row n column
unit_front n column le lt =
    take-set-lt n (replicate 65 0) column 1 lt ∙ ap (λ l. set l column 1) (take-replicate n 65 0 le)
