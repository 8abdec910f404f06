-- The numbers of the form of a cell.
use Rattle.std.proofs.Common.{◌≡◌, ◌≢◌, ℕ, zero, suc, ◌+◌, ◌%◌, ◌^◌, ◌<◌, take, List, [], ◌∷◌, length, get_or, ap, sym, ◌∙◌, subst, arith, Option, Some, None, slice_get, unwrap_or, get_or-set_same, get_or-set_other, below_more}
use Rattle.std.proofs.Math.ListN.{set}
use Rattle.support_modular_rows.specs.Forms.{HasEntry}
use Rattle.support_modular_rows.specs.Values.{form_at, plain, image}
use Rattle.support_modular_rows.proofs.Spans.{Alike}
use Rattle.support_modular_rows.proofs.Growth.{greatest, of}
use Rattle.support_modular_rows.proofs.Kept.{of_take}
use Rattle.support_modular_rows.proofs.Images.{dot_is}

pub form_read : (fs : List (Option (List ℕ))) (i : ℕ) (x : Option (List ℕ)) → x ≡ get_or fs i x → i < length fs → unwrap_or (slice_get fs i) None ≡ x
form_read [] i x e lt = absurd (omega arith)
form_read (f ∷ fs) zero x e lt = sym e
form_read (f ∷ fs) (suc i) x e lt = form_read fs i x e (omega arith)

-- one more entry
pub entries_more : (fs : List (Option (List ℕ))) (row image : List ℕ) (i y : ℕ) → length image ≡ 65 → i < 64
    → ((j : ℕ) → j < i → HasEntry (unwrap_or (slice_get fs j) None) row (get_or image (j + 1) 0))
    → HasEntry (unwrap_or (slice_get fs i) None) row y
    → (j : ℕ) → j < i + 1 → HasEntry (unwrap_or (slice_get fs j) None) row (get_or (set image (i + 1) y) (j + 1) 0)
entries_more fs row image i y size lt old here =
    below_more (λ j. HasEntry (unwrap_or (slice_get fs j) None) row (get_or (set image (i + 1) y) (j + 1) 0)) i
    (λ j less. let ne : j + 1 ≢ i + 1 = omega arith in
    subst (HasEntry (unwrap_or (slice_get fs j) None) row) (sym (get_or-set_other image (i + 1) (j + 1) y 0 ne)) (old j less))
    (subst (HasEntry (unwrap_or (slice_get fs i) None) row) (sym (get_or-set_same image (i + 1) y 0 (omega arith))) here)

entry_alike : (n : ℕ) (f : Option (List ℕ)) (r : List ℕ) (y : ℕ) → length r ≡ n → HasEntry f r y → y % 2 ^ 32 ≡ plain n f (of r) % 2 ^ 32
entry_alike n None r y size h = ap (λ z. z % 2 ^ 32) h
entry_alike n (Some c) r y size h = h ∙ ap (λ z. z % 2 ^ 32) (dot_is n c r size)

-- the values over a row are those over its vector
pub values_alike : (k : ℕ) (fs : List (Option (List ℕ))) (r out : List ℕ) → length r ≡ k + 1 → get_or out 0 0 ≡ get_or r 0 0
    → ((i : ℕ) → i < k → HasEntry (form_at fs i) r (get_or out (i + 1) 0)) → Alike greatest (k + 1) (of (take (k + 1) out)) (image (k + 1) fs (of r))
values_alike k fs r out size first cells zero lt = ap (λ z. z % 2 ^ 32) (of_take (k + 1) 0 out lt ∙ first)
values_alike k fs r out size first cells (suc j) lt =
    ap (λ z. z % 2 ^ 32) (of_take (k + 1) (suc j) out lt)
    ∙ entry_alike (k + 1) (form_at fs j) r (get_or out (suc j) 0) size
    (subst (λ i. HasEntry (form_at fs j) r (get_or out i 0)) (let e : j + 1 ≡ suc j = omega arith in e) (cells j (omega arith)))
