-- A sum of products as it grows.
use Rattle.std.proofs.Common.{◌≡◌, ℕ, zero, suc, ◌≤◌, List, [], ◌∷◌, length, drop, min, refl, arith}
use Rattle.support_modular_rows.specs.Submodule.{dot}

pub dot_end : (i : ℕ) (cs xs : List ℕ) → min (length cs) (length xs) ≤ i → dot (drop i cs) (drop i xs) ≡ 0
dot_end zero [] xs le = refl
dot_end (suc i) [] xs le = refl
dot_end zero (c ∷ cs) [] le = refl
dot_end (suc i) (c ∷ cs) [] le = dot_none (drop i cs)
  where
    dot_none : (cs : List ℕ) → dot cs [] ≡ 0
    dot_none [] = refl
    dot_none (c ∷ cs) = refl
dot_end zero (c ∷ cs) (x ∷ xs) le = absurd (omega arith)
dot_end (suc i) (c ∷ cs) (x ∷ xs) le = dot_end i cs xs (omega arith)
