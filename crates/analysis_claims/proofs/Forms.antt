-- Forms of sums, part by part.
use Rattle.std.proofs.Common.{◌≡◌, ◌∙◌, ℕ, zero, suc, ◌+◌, ◌<◌, ◌%◌, ◌^◌, Bool, true, false, List, [], ◌∷◌, Option, Some, None, drop, get_or, length, refl, sym, ap, subst, arith}
use Rattle.std.specs.Prelude.{IfSome, option_map, replicate, slice_index, slice_set, if◌then◌else◌}
use Rattle.semantics_values.specs.declared.entry.KeyAt.{KeyAt}
use Rattle.domain_affine_laws.specs.Opened.{is_cell}
use Rattle.analysis_query_laws.specs.Answers.{column_of, form_of, with_multiple}
use Rattle.analysis_query_laws.specs.Claims.{Multiple}

pub place_is : (m j : ℕ) (form : List ℕ) → slice_set form (j + 1) ((slice_index form (j + 1) + m) % 2 ^ 32) ≡ with_multiple m (Some j) form
place_is m j form = let next : j + 1 ≡ suc j = omega arith in ap (λ n. slice_set form n ((slice_index form n + m) % 2 ^ 32)) next

-- ---- how many numbers a form has
set_many : (form : List ℕ) (j x : ℕ) → length (slice_set form j x) ≡ length form
set_many [] j x = refl
set_many (c ∷ form) zero x = refl
set_many (c ∷ form) (suc j) x = let e = set_many form j x in omega arith

zeros_many : (n : ℕ) → length {A = ℕ} (replicate n 0) ≡ n
zeros_many zero = refl
zeros_many (suc n) = let e = zeros_many n in omega arith

multiple_many : (m : ℕ) (o : Option ℕ) (form : List ℕ) → length (with_multiple m o form) ≡ length form
multiple_many m None form = refl
multiple_many m (Some j) form = set_many form (suc j) ((slice_index form (suc j) + m) % 2 ^ 32)

pub form_many : (cells : List (ℕ × KeyAt)) (c : ℕ) (parts : List Multiple) → length (form_of cells c parts) ≡ length cells + 1
form_many cells c [] = let e = zeros_many (length cells) in omega arith
form_many cells c (p ∷ parts) = multiple_many p.0 (column_of cells p.1 p.2) (form_of cells c parts) ∙ form_many cells c parts

-- ---- a column is that of a cell
column_small : (cells : List (ℕ × KeyAt)) (field : ℕ) (key : KeyAt) → IfSome (column_of cells field key) (λ j. j < length cells)
column_small [] field key = tt
column_small (cell ∷ cells) field key = by_test (is_cell cell field key) (column_of cells field key) (column_small cells field key)
  where
    by_test : (b : Bool) (o : Option ℕ) → IfSome o (λ j. j < length cells) → IfSome (if b then Some 0 else option_map suc o) (λ j. j < length (cell ∷ cells))
    by_test true o h = omega arith
    by_test false None h = tt
    by_test false (Some j) h = omega (arith, h)

pub column_within : (cells : List (ℕ × KeyAt)) (field : ℕ) (key : KeyAt) (form : List ℕ) (o : Option ℕ) → o ≡ column_of cells field key → length form ≡ length cells + 1 → IfSome o (λ j. j + 1 < length form)
column_within cells field key form o e many = small o (subst (λ o. IfSome o (λ j. j < length cells)) (sym e) (column_small cells field key))
  where
    small : (o : Option ℕ) → IfSome o (λ j. j < length cells) → IfSome o (λ j. j + 1 < length form)
    small None h = tt
    small (Some j) h = omega (arith, h, many)

-- ---- one more part
pub more_part : (cells : List (ℕ × KeyAt)) (c : ℕ) (parts : List Multiple) (i : ℕ) (p : Multiple) → i < length parts → p ≡ get_or parts i p
    → form_of cells c (drop i parts) ≡ with_multiple p.0 (column_of cells p.1 p.2) (form_of cells c (drop (i + 1) parts))
more_part cells c [] i p lt e = absurd (omega (arith, lt))
more_part cells c (q ∷ parts) zero p lt e = ap (λ (z : Multiple). with_multiple z.0 (column_of cells z.1 z.2) (form_of cells c parts)) (sym e)
more_part cells c (q ∷ parts) (suc i) p lt e =
    let next : suc (i + 1) ≡ suc i + 1 = omega arith in
    more_part cells c parts i p (omega (arith, lt)) e ∙ ap (λ n. with_multiple p.0 (column_of cells p.1 p.2) (form_of cells c (drop n (q ∷ parts)))) next

pub no_part_yet : (cells : List (ℕ × KeyAt)) (c : ℕ) (parts : List Multiple) → form_of cells c (drop (length parts) parts) ≡ c ∷ replicate (length cells) 0
no_part_yet cells c [] = refl
no_part_yet cells c (p ∷ parts) = no_part_yet cells c parts
