-- Cells by their keys.
use Rattle.std.proofs.Common.{◌≡◌, ℕ, ◌+◌, false, List, [], ◌∷◌, map, refl, sym, ap, ◌∙◌, subst, arith, IsTrue, inl, inr}
use Rattle.std.specs.Prelude.{◌==◌}
use Rattle.base_trait.specs.Lists.{IsAmong, IsAscendingFrom, Each}
use Rattle.base_trait.proofs.Lists.{number_itself, number_told, ascending_above}
use Rattle.base_trait.proofs.Tests.{at_choice}
use Rattle.abstract_map_laws.specs.declared.cell.AbstractCell.{AbstractCell}
use Rattle.abstract_map_laws.specs.Maps.{cell_in, cells_at}

module _ {W N : Type 0} where
  pub keys_of_cells : (ks : List ℕ) (f : ℕ → AbstractCell W N) → map (λ e. e.0) (cells_at ks f) ≡ ks
  keys_of_cells [] f = refl
  keys_of_cells (k ∷ ks) f = ap (λ l. k ∷ l) (keys_of_cells ks f)

  -- the cell at a key is that of the function, or the rest
  pub at_cell : (P : AbstractCell W N → Type 0) (rest : AbstractCell W N) (ks : List ℕ) (f : ℕ → AbstractCell W N) (k : ℕ)
      → (IsAmong k ks → P (f k)) → ((IsAmong k ks → ⊥) → P rest) → P (cell_in rest (cells_at ks f) k)
  at_cell P rest [] f k h g = g (λ a. a)
  at_cell P rest (j ∷ js) f k h g =
      at_choice P (j == k) (f j) (cell_in rest (cells_at js f) k)
      (λ e. subst (λ t. P (f t)) (sym (number_told j k e)) (h (inl (sym (number_told j k e)))))
      (λ e. at_cell P rest js f k (λ a. h (inr a)) (λ n. g (past e n)))
    where
      past : (j == k) ≡ false → (IsAmong k js → ⊥) → IsAmong k (j ∷ js) → ⊥
      past e n (inl d) = let t = subst (λ t. IsTrue (t == k)) d (number_itself k) in cc
      past e n (inr a) = n a

  -- a key that is not listed has the rest
  pub cell_past : (rest : AbstractCell W N) (es : List (ℕ × AbstractCell W N)) (k : ℕ) → (IsAmong k (map (λ e. e.0) es) → ⊥) → cell_in rest es k ≡ rest
  cell_past rest [] k n = refl
  cell_past rest (e ∷ es) k n = at_choice (λ t. t ≡ rest) (e.0 == k) e.1 (cell_in rest es k) (λ d. absurd (n (inl (sym (number_told e.0 k d))))) (λ d. cell_past rest es k (λ a. n (inr a)))

  -- what holds of each cell holds of that at a key
  pub each_cell : (P : AbstractCell W N → Type 0) (rest : AbstractCell W N) (es : List (ℕ × AbstractCell W N)) (k : ℕ) → P rest → Each (λ e. P e.1) es → P (cell_in rest es k)
  each_cell P rest [] k h g = h
  each_cell P rest (e ∷ es) k h g = at_choice P (e.0 == k) e.1 (cell_in rest es k) (λ d. g.0) (λ d. each_cell P rest es k h g.1)

  pub each_made : (P : AbstractCell W N → Type 0) (ks : List ℕ) (f : ℕ → AbstractCell W N) → ((k : ℕ) → IsAmong k ks → P (f k)) → Each (λ e. P e.1) (cells_at ks f)
  each_made P [] f h = tt
  each_made P (k ∷ ks) f h = (h k (inl refl), each_made P ks f (λ j a. h j (inr a)))

  pub made_same : (ks : List ℕ) (f g : ℕ → AbstractCell W N) → ((k : ℕ) → IsAmong k ks → f k ≡ g k) → cells_at ks f ≡ cells_at ks g
  made_same [] f g h = refl
  made_same (k ∷ ks) f g h = ap (λ x. (k, x) ∷ cells_at ks f) (h k (inl refl)) ∙ ap (λ l. (k, g k) ∷ l) (made_same ks f g (λ j a. h j (inr a)))

  -- ascending cells are those at their keys
  pub cells_again : (low : ℕ) (rest : AbstractCell W N) (es : List (ℕ × AbstractCell W N)) → IsAscendingFrom low (map (λ e. e.0) es) → cells_at (map (λ e. e.0) es) (cell_in rest es) ≡ es
  cells_again low rest [] h = refl
  cells_again low rest (e ∷ es) h =
      ap (λ x. (e.0, x) ∷ cells_at (map (λ d. d.0) es) (cell_in rest (e ∷ es))) first
      ∙ ap (λ l. e ∷ l) (made_same (map (λ d. d.0) es) (cell_in rest (e ∷ es)) (cell_in rest es) later ∙ cells_again (e.0 + 1) rest es h.1)
    where
      first : cell_in rest (e ∷ es) e.0 ≡ e.1
      first = at_choice (λ t. t ≡ e.1) (e.0 == e.0) e.1 (cell_in rest es e.0) (λ d. refl) (λ d. let t = number_itself e.0 in cc)

      later : (k : ℕ) → IsAmong k (map (λ d. d.0) es) → cell_in rest (e ∷ es) k ≡ cell_in rest es k
      later k a = at_choice (λ t. t ≡ cell_in rest es k) (e.0 == k) e.1 (cell_in rest es k)
          (λ d. let same = number_told e.0 k d in let above = ascending_above (e.0 + 1) k (map (λ d. d.0) es) h.1 a in absurd (omega (arith, same, above))) (λ d. refl)
