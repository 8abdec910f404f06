-- Values of forms over spans, for the steps of an image.
use Rattle.std.specs.Prelude.{◌≡◌, ℕ, zero, suc, ◌+◌, ◌-◌, ◌*◌, ◌^◌, ◌<◌, ◌⊎◌, List, [], ◌∷◌, Option, Some, None, slice_get, unwrap_or}
use Rattle.support_modular_rows.specs.Submodule.{Congruent}
use Rattle.support_modular_rows.specs.Reduction.{Span}

-- the sum of products with the first n numbers
abbrev pub dot_first : ℕ → List ℕ → (ℕ → ℕ) → ℕ
dot_first zero cs v = 0
dot_first (suc n) [] v = 0
dot_first (suc n) (c ∷ cs) v = c * v 0 + dot_first n cs (λ j. v (suc j))

-- the form of a cell, if any
abbrev pub form_at : List (Option (List ℕ)) → ℕ → Option (List ℕ)
form_at fs i = unwrap_or (slice_get fs i) None

abbrev pub plain : ℕ → Option (List ℕ) → (ℕ → ℕ) → ℕ
plain n None v = 0
plain n (Some c) v = dot_first n c v

-- the values over a vector, 0 where there is no form
abbrev pub image : ℕ → List (Option (List ℕ)) → (ℕ → ℕ) → ℕ → ℕ
image n fs v zero = v 0
image n fs v (suc i) = plain n (form_at fs i) v

module _ (n : ℕ) (fs : List (Option (List ℕ))) where
  -- a value of the forms over a member of the span
  abbrev pub Image : List (List ℕ) → (ℕ → ℕ) → Type 0
  Image xs v = (x : ℕ → ℕ) × Span (2 ^ 32 - 1) n xs x × ((j : ℕ) → j < n → Congruent (v j) (image n fs x j))

  -- the rows span the values
  pub record Images (xs : List (List ℕ)) (rows : List (List ℕ)) : Type 0 where
    pub to : (v : ℕ → ℕ) → Span (2 ^ 32 - 1) n rows v → Image xs v
    pub from : (v : ℕ → ℕ) → Image xs v → Span (2 ^ 32 - 1) n rows v

module _ (fs : List (Option (List ℕ))) where
  -- a column of one of the first cells, which has no form
  abbrev pub Free : ℕ → ℕ → Type 0
  Free cells zero = ⊥
  Free cells (suc i) = (i < cells) × (form_at fs i ≡ None)

  -- the vectors agree but in the free columns
  abbrev pub Agree : ℕ → ℕ → (ℕ → ℕ) → (ℕ → ℕ) → Type 0
  Agree n cells v z = (j : ℕ) → j < n → Free cells j ⊎ Congruent (v j) (z j)

  -- the new rows span what agrees with the span of the old
  pub record Forgotten (n cells : ℕ) (old new : List (List ℕ)) : Type 0 where
    pub to : (v : ℕ → ℕ) → Span (2 ^ 32 - 1) n new v → (z : ℕ → ℕ) × Span (2 ^ 32 - 1) n old z × Agree n cells v z
    pub from : (v z : ℕ → ℕ) → Span (2 ^ 32 - 1) n old z → Agree n cells v z → Span (2 ^ 32 - 1) n new v
