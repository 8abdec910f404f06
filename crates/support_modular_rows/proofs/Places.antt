-- The kept row at a place.
use Rattle.std.proofs.Common.{◌≡◌, ℕ, zero, suc, ◌+◌, ◌%◌, ◌^◌, ◌<◌, List, [], ◌∷◌, ◌++◌, length, get_or, take, drop, refl, ap, sym, ◌∙◌, subst, arith, Some, slice_get, mod-eq_of_lt}
use Rattle.support_modular_rows.specs.Submodule.{IsMember}
use Rattle.support_modular_rows.specs.Reduction.{Span, IsStore, IsPlace, kept_from}
use Rattle.support_modular_rows.proofs.Spans.{tail_zero}
use Rattle.support_modular_rows.proofs.Growth.{greatest, of, row}
use Rattle.support_modular_rows.proofs.Kept.{place_split, kept_to_rows, of_take}
use Rattle.support_modular_rows.proofs.Members.{spans_member}
use Rattle.support_modular_rows.proofs.Store.{kept}

get_at : (xs ys : List (List ℕ)) (a : List ℕ) → slice_get (xs ++ a ∷ ys) (length xs) ≡ Some a
get_at [] ys a = refl
get_at (x ∷ xs) ys a = get_at xs ys a

take_front : (xs ys : List (List ℕ)) → take (length xs) (xs ++ ys) ≡ xs
take_front [] ys = refl
take_front (x ∷ xs) ys = ap (λ l. x ∷ l) (take_front xs ys)

pub get_any : (xs : List (List ℕ)) (i : ℕ) (d e : List ℕ) → i < length xs → get_or xs i d ≡ get_or xs i e
get_any [] i d e lt = absurd (omega arith)
get_any (x ∷ xs) zero d e lt = refl
get_any (x ∷ xs) (suc i) d e lt = get_any xs i d e (omega arith)

place_here : (k : ℕ) (rs : List (List ℕ)) (i c : ℕ) → IsStore k rs → IsPlace (length rs) rs i c → IsPlace (k + 1) rs i c
place_here k rs i c store p = subst (λ n. IsPlace n rs i c) store.size p

pub place_item : (k : ℕ) (rs : List (List ℕ)) (i c : ℕ) → IsStore k rs → IsPlace (length rs) rs i c → slice_get (kept k rs) i ≡ Some (take (k + 1) (row rs c))
place_item k rs i c store p =
    let q = place_here k rs i c store p in
    let split = place_split (k + 1) rs i c q in
    ap (λ l. slice_get l i) split.1
    ∙ ap (λ j. slice_get (kept_from (k + 1) (suc c) (drop (suc c) rs) ++ take (k + 1) (row rs c) ∷ split.0) j) (sym q.before)
    ∙ get_at (kept_from (k + 1) (suc c) (drop (suc c) rs)) split.0 (take (k + 1) (row rs c))

pub place_adds : (k : ℕ) (rs : List (List ℕ)) (i c : ℕ) → IsStore k rs → IsPlace (length rs) rs i c → IsMember k (take i (kept k rs)) (take (k + 1) (row rs c)) → ⊥
place_adds k rs i c store p h =
    let q = place_here k rs i c store p in
    let split = place_split (k + 1) rs i c q in
    let front : take i (kept k rs) ≡ kept_from (k + 1) (suc c) (drop (suc c) rs) =
    ap (λ l. take i l) split.1
    ∙ ap (λ j. take j (kept_from (k + 1) (suc c) (drop (suc c) rs) ++ take (k + 1) (row rs c) ∷ split.0)) (sym q.before)
    ∙ take_front (kept_from (k + 1) (suc c) (drop (suc c) rs)) (take (k + 1) (row rs c) ∷ split.0) in
    let lower : Span greatest (k + 1) (drop (suc c) rs) (of (take (k + 1) (row rs c))) =
    kept_to_rows (k + 1) (suc c) (drop (suc c) rs) (of (take (k + 1) (row rs c)))
    (spans_member k (kept_from (k + 1) (suc c) (drop (suc c) rs)) (take (k + 1) (row rs c)) (subst (λ l. IsMember k l (take (k + 1) (row rs c))) front h)) in
    let within : c < k + 1 = omega (arith, store.size, q.within) in
    let none : of (take (k + 1) (row rs c)) c % 2 ^ 32 ≡ 0 = tail_zero greatest (k + 1) rs c (of (take (k + 1) (row rs c))) within store.reduced.triangular lower in
    let entry : of (row rs c) c % 2 ^ 32 ≡ 0 = ap (λ e. e % 2 ^ 32) (sym (of_take (k + 1) c (row rs c) within)) ∙ none in
    q.some (sym (mod-eq_of_lt (store.reduced.leads c q.within).3) ∙ entry)
