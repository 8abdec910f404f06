-- A cell put at its key's place among ascending cells.
use Rattle.std.proofs.Common.{◌≡◌, ℕ, ◌+◌, ◌<◌, Bool, true, false, List, [], ◌∷◌, map, refl, sym, ap, ◌∙◌, subst, arith, IsTrue, cond, ◌⊎◌, inl, inr}
use Rattle.std.specs.Prelude.{◌==◌, nat_lt}
use Rattle.std.proofs.lemmas.Bool.Decides.{nat_tests}
use Rattle.base_trait.specs.Lists.{IsAmong, IsAscendingFrom}
use Rattle.base_trait.proofs.Lists.{number_itself, number_told, ascending_above}
use Rattle.base_trait.proofs.Tests.{at_choice}
use Rattle.abstract_map_laws.specs.declared.cell.AbstractCell.{AbstractCell}
use Rattle.abstract_map_laws.specs.Keys.{with_key}
use Rattle.abstract_map_laws.specs.Maps.{cell_in, cells_at}
use Rattle.abstract_cell_tree.specs.Entries.{put}
use Rattle.abstract_map_laws.proofs.KeyLists.{with_only}
use Rattle.abstract_map_laws.proofs.Places.{made_same, cells_again}

module _ {W N : Type 0} where
  -- where the keys are all greater, it is as it was
  apart : (low : ℕ) (rest : AbstractCell W N) (k : ℕ) (x : AbstractCell W N) (es : List (ℕ × AbstractCell W N)) → k < low → IsAscendingFrom low (map (λ e. e.0) es)
      → cells_at (map (λ e. e.0) es) (λ j. cond (j == k) x (cell_in rest es j)) ≡ es
  apart low rest k x es l h =
      made_same (map (λ e. e.0) es) (λ j. cond (j == k) x (cell_in rest es j)) (cell_in rest es)
      (λ j a. let above = ascending_above low j (map (λ e. e.0) es) h a in at_choice (λ t. t ≡ cell_in rest es j) (j == k) x (cell_in rest es j) (λ d. let same = number_told j k d in absurd (omega (arith, above, same, l))) (λ d. refl))
      ∙ cells_again low rest es h

  -- behind the first cell, its key is not met
  behind : (low : ℕ) (rest : AbstractCell W N) (k : ℕ) (x : AbstractCell W N) (e : ℕ × AbstractCell W N) (es : List (ℕ × AbstractCell W N)) (ks : List ℕ) → ((j : ℕ) → IsAmong j ks → e.0 < j)
      → cells_at ks (λ j. cond (j == k) x (cell_in rest (e ∷ es) j)) ≡ cells_at ks (λ j. cond (j == k) x (cell_in rest es j))
  behind low rest k x e es ks above = made_same ks (λ j. cond (j == k) x (cell_in rest (e ∷ es) j)) (λ j. cond (j == k) x (cell_in rest es j))
      (λ j a. let more = above j a in ap (λ t. cond (j == k) x t) (at_choice (λ t. t ≡ cell_in rest es j) (e.0 == j) e.1 (cell_in rest es j) (λ d. let same = number_told e.0 j d in absurd (omega (arith, more, same))) (λ d. refl)))

  -- writing at a key puts the cell at its place
  pub put_written : (low : ℕ) (rest : AbstractCell W N) (k : ℕ) (x : AbstractCell W N) (es : List (ℕ × AbstractCell W N)) → IsAscendingFrom low (map (λ e. e.0) es)
      → cells_at (with_key k (map (λ e. e.0) es)) (λ j. cond (j == k) x (cell_in rest es j)) ≡ put k x es
  put_written low rest k x [] h = ap (λ t. (k, t) ∷ []) (itself rest)
    where
      itself : (y : AbstractCell W N) → cond (k == k) x y ≡ x
      itself y = at_choice (λ t. t ≡ x) (k == k) x y (λ d. refl) (λ d. let t = number_itself k in cc)
  put_written low rest k x (e ∷ es) h = by_tests (nat_lt k e.0) (k == e.0) (λ a. before (grind (arith, nat_tests))) (λ b. here (sym (number_told k e.0 b))) (λ a b. later (grind (arith, nat_tests)) (put_written (e.0 + 1) rest k x es h.1))
    where
      itself : (j : ℕ) (y : AbstractCell W N) → j ≡ k → cond (j == k) x y ≡ x
      itself j y s = at_choice (λ t. t ≡ x) (j == k) x y (λ d. refl) (λ d. let t = subst (λ z. IsTrue (j == z)) s (number_itself j) in cc)

      by_tests : (a b : Bool) → (IsTrue a → cells_at (k ∷ e.0 ∷ map (λ d. d.0) es) (λ j. cond (j == k) x (cell_in rest (e ∷ es) j)) ≡ (k, x) ∷ e ∷ es)
          → (IsTrue b → cells_at (e.0 ∷ map (λ d. d.0) es) (λ j. cond (j == k) x (cell_in rest (e ∷ es) j)) ≡ (k, x) ∷ es)
          → (a ≡ false → b ≡ false → cells_at (e.0 ∷ with_key k (map (λ d. d.0) es)) (λ j. cond (j == k) x (cell_in rest (e ∷ es) j)) ≡ e ∷ put k x es)
          → cells_at (cond a (k ∷ e.0 ∷ map (λ d. d.0) es) (cond b (e.0 ∷ map (λ d. d.0) es) (e.0 ∷ with_key k (map (λ d. d.0) es)))) (λ j. cond (j == k) x (cell_in rest (e ∷ es) j))
          ≡ cond a ((k, x) ∷ e ∷ es) (cond b ((k, x) ∷ es) (e ∷ put k x es))
      by_tests true b p q r = p refl
      by_tests false true p q r = q refl
      by_tests false false p q r = r refl refl

      before : k < e.0 → cells_at (k ∷ e.0 ∷ map (λ d. d.0) es) (λ j. cond (j == k) x (cell_in rest (e ∷ es) j)) ≡ (k, x) ∷ e ∷ es
      before l = ap (λ t. (k, t) ∷ cells_at (e.0 ∷ map (λ d. d.0) es) (λ j. cond (j == k) x (cell_in rest (e ∷ es) j))) (itself k (cell_in rest (e ∷ es) k) refl)
          ∙ ap (λ l. (k, x) ∷ l) (apart e.0 rest k x (e ∷ es) l (omega arith, h.1))

      here : e.0 ≡ k → cells_at (e.0 ∷ map (λ d. d.0) es) (λ j. cond (j == k) x (cell_in rest (e ∷ es) j)) ≡ (k, x) ∷ es
      here s = ap (λ t. (e.0, t) ∷ cells_at (map (λ d. d.0) es) (λ j. cond (j == k) x (cell_in rest (e ∷ es) j))) (itself e.0 (cell_in rest (e ∷ es) e.0) s)
          ∙ ap (λ t. (t, x) ∷ cells_at (map (λ d. d.0) es) (λ j. cond (j == k) x (cell_in rest (e ∷ es) j))) s
          ∙ ap (λ l. (k, x) ∷ l) (behind low rest k x e es (map (λ d. d.0) es) (λ j a. let above = ascending_above (e.0 + 1) j (map (λ d. d.0) es) h.1 a in omega (arith, above)) ∙ apart (e.0 + 1) rest k x es (omega (arith, s)) h.1)

      later : e.0 < k → cells_at (with_key k (map (λ d. d.0) es)) (λ j. cond (j == k) x (cell_in rest es j)) ≡ put k x es
          → cells_at (e.0 ∷ with_key k (map (λ d. d.0) es)) (λ j. cond (j == k) x (cell_in rest (e ∷ es) j)) ≡ e ∷ put k x es
      later l i = ap (λ t. (e.0, t) ∷ cells_at (with_key k (map (λ d. d.0) es)) (λ j. cond (j == k) x (cell_in rest (e ∷ es) j))) first
          ∙ ap (λ l. e ∷ l) (behind low rest k x e es (with_key k (map (λ d. d.0) es)) (λ j a. above j (with_only j k (map (λ d. d.0) es) a)) ∙ i)
        where
          first : cond (e.0 == k) x (cell_in rest (e ∷ es) e.0) ≡ e.1
          first = at_choice (λ t. t ≡ e.1) (e.0 == k) x (cell_in rest (e ∷ es) e.0) (λ d. let same = number_told e.0 k d in absurd (omega (arith, same, l)))
              (λ d. at_choice (λ t. t ≡ e.1) (e.0 == e.0) e.1 (cell_in rest es e.0) (λ c. refl) (λ c. let t = number_itself e.0 in cc))

          above : (j : ℕ) → (j ≡ k) ⊎ IsAmong j (map (λ d. d.0) es) → e.0 < j
          above j (inl s) = omega (arith, s, l)
          above j (inr a) = let more = ascending_above (e.0 + 1) j (map (λ d. d.0) es) h.1 a in omega (arith, more)
