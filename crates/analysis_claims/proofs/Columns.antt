-- Loops over cells and rows: what is left, from a place on.
use Rattle.std.proofs.Common.{◌≡◌, ◌∙◌, ℕ, zero, suc, ◌+◌, ◌≤◌, ◌%◌, ◌^◌, true, false, List, [], ◌∷◌, Option, Some, drop, length, slice_get, refl, sym, ap, arith}
use Rattle.std.specs.Prelude.{◌==◌, ◌&&◌, option_map}
use Rattle.support_modular_rows.specs.Submodule.{dot}
use Rattle.analysis_query_laws.specs.Affine.{meets_all}

-- a place behind so many others
abbrev pub shifted : ℕ → Option ℕ → Option ℕ
shifted i o = option_map (λ j. i + j) o

-- ---- rows
module _ (form : List ℕ) where
  first_row : (rows : List (List ℕ)) (i : ℕ) (r : List ℕ) → slice_get rows i ≡ Some r → meets_all (drop i rows) form ≡ ((dot form r % 2 ^ 32 == 0) && meets_all (drop (i + 1) rows) form)
  first_row [] zero r e = cc
  first_row [] (suc i) r e = cc
  first_row (x ∷ rows) zero r e = let same : x ≡ r = cc in ap (λ z. (dot form z % 2 ^ 32 == 0) && meets_all rows form) same
  first_row (x ∷ rows) (suc i) r e =
      let next : suc (i + 1) ≡ suc i + 1 = omega arith in
      first_row rows i r e ∙ ap (λ n. (dot form r % 2 ^ 32 == 0) && meets_all (drop n (x ∷ rows)) form) next

  pub row_fails : (rows : List (List ℕ)) (i : ℕ) (r : List ℕ) → slice_get rows i ≡ Some r → (dot form r % 2 ^ 32 == 0) ≡ false → meets_all rows form ≡ meets_all (drop i rows) form → false ≡ meets_all rows form
  row_fails rows i r e other so_far = sym (so_far ∙ first_row rows i r e ∙ ap (λ b. b && meets_all (drop (i + 1) rows) form) other)

  pub row_meets : (rows : List (List ℕ)) (i : ℕ) (r : List ℕ) → slice_get rows i ≡ Some r → (dot form r % 2 ^ 32 == 0) ≡ true → meets_all rows form ≡ meets_all (drop i rows) form
      → meets_all rows form ≡ meets_all (drop (i + 1) rows) form
  row_meets rows i r e is so_far = so_far ∙ first_row rows i r e ∙ ap (λ b. b && meets_all (drop (i + 1) rows) form) is

  pub all_meet : (rows : List (List ℕ)) (i : ℕ) → length rows ≤ i → meets_all rows form ≡ meets_all (drop i rows) form → true ≡ meets_all rows form
  all_meet rows i le so_far = sym (so_far ∙ ap (λ rs. meets_all rs form) (none_left rows i le))
    where
      none_left : (rows : List (List ℕ)) (i : ℕ) → length rows ≤ i → drop i rows ≡ []
      none_left [] zero le = refl
      none_left [] (suc i) le = refl
      none_left (r ∷ rows) zero le = absurd (omega (arith, le))
      none_left (r ∷ rows) (suc i) le = none_left rows i (omega (arith, le))
