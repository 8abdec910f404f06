-- Members are closed under sums and multiples; joins; values of forms.
use Rattle.std.proofs.Common.{ℕ, ◌+◌, ◌*◌, ◌%◌, ◌^◌, List, [], ◌∷◌, ◌++◌, ap, sym, arith}
use Rattle.support_modular_rows.specs.Reduction.{Span}
use Rattle.support_modular_rows.specs.Laws.{RowsAreMembers, ClosedUnderSums, ClosedUnderMultiples, HoldsZero, AppendJoins, ImageGrows, IsWithin}
use Rattle.support_modular_rows.proofs.Spans.{AllIn, span_alike, span_add, span_mul, span_zero, span_more, span_head, span_sub}
use Rattle.support_modular_rows.proofs.Growth.{greatest, of}
use Rattle.support_modular_rows.proofs.Kept.{span_left, span_right, all_append}
use Rattle.support_modular_rows.proofs.Images.{tabulate, of_tabulate}
use Rattle.support_modular_rows.proofs.Members.{spans_member, member_spans}

pub closed_under_sums : ClosedUnderSums
closed_under_sums k rows x y z hx hy e =
    member_spans k rows z (span_alike greatest (k + 1) rows (λ j. of x j + of y j) (of z) (λ j lt. sym (e j (omega arith)))
    (span_add greatest (k + 1) rows (of x) (of y) (spans_member k rows x hx) (spans_member k rows y hy)))

pub closed_under_multiples : ClosedUnderMultiples
closed_under_multiples k q rows x z hx e =
    member_spans k rows z (span_alike greatest (k + 1) rows (λ j. q * of x j) (of z) (λ j lt. sym (e j (omega arith))) (span_mul greatest (k + 1) q rows (of x) (spans_member k rows x hx)))

pub holds_zero : HoldsZero
holds_zero k rows z e = member_spans k rows z (span_zero greatest (k + 1) rows (of z) (λ j lt. e j (omega arith)))

-- what holds of the members holds of all vectors in the span
pub within_spans : (k : ℕ) (rows more : List (List ℕ)) → IsWithin k rows more → (v : ℕ → ℕ) → Span greatest (k + 1) rows v → Span greatest (k + 1) more v
within_spans k rows more within v h =
    let x : List ℕ = tabulate (k + 1) v in
    span_alike greatest (k + 1) more (of (tabulate (k + 1) v)) v (λ j lt. ap (λ z. z % 2 ^ 32) (of_tabulate (k + 1) j v lt))
    (spans_member k more x (within x (member_spans k rows x
    (span_alike greatest (k + 1) rows v (of (tabulate (k + 1) v)) (λ j lt. ap (λ z. z % 2 ^ 32) (sym (of_tabulate (k + 1) j v lt))) h))))

all_from : (n : ℕ) (xs ss : List (List ℕ)) → ((v : ℕ → ℕ) → Span greatest n xs v → Span greatest n ss v) → AllIn greatest n ss xs
all_from n [] ss h = tt
all_from n (x ∷ xs) ss h = (h (of x) (span_head greatest n x xs), all_from n xs ss (λ v g. h v (span_more greatest n x xs v g)))

pub append_joins : AppendJoins
append_joins k xs ys = record {
  left = λ x h. member_spans k (xs ++ ys) x (span_left (k + 1) xs ys (of x) (spans_member k xs x h));
  right = λ x h. member_spans k (xs ++ ys) x (span_right (k + 1) xs ys (of x) (spans_member k ys x h));
  least = λ ws left right x h.
      member_spans k ws x (span_sub greatest (k + 1) ws (xs ++ ys) (of x)
      (all_append (k + 1) ws xs ys (all_from (k + 1) xs ws (within_spans k xs ws left)) (all_from (k + 1) ys ws (within_spans k ys ws right)))
      (spans_member k (xs ++ ys) x h));
}

pub image_grows : ImageGrows
image_grows k forms rows more within y (x, size, member, value) = (x, size, within x member, value)

pub rows_are_members : RowsAreMembers
rows_are_members k xs ys r = member_spans k (xs ++ r ∷ ys) r (span_right (k + 1) xs (r ∷ ys) (of r) (span_head greatest (k + 1) r ys))
