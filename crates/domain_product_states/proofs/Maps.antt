-- Maps of paired words and their parts: absorption, ranks, and parts put side by side.
use Rattle.std.proofs.Common.{◌≡◌, ℕ, ◌+◌, ◌≤◌, Bool, List, [], ◌∷◌, length, refl, sym, ap, ap₂, ◌∙◌, arith}
use Rattle.std.specs.Prelude.{◌&&◌}
use Rattle.std.specs.List.{list_all, sum_by}
use Rattle.std.proofs.lemmas.List.Sums.{sum_by-cons}
use Rattle.base_trait.specs.Algebra.{Algebra}
use Rattle.base_trait.specs.Lists.{IsAscending}
use Rattle.base_trait.proofs.Lists.{ascending_same}
use Rattle.base_trait.proofs.Tests.{from_either}
use Rattle.base_product.specs.Meaning.{paired}
use Rattle.abstract_map_laws.specs.declared.cell.AbstractCell.{AbstractCell}
use Rattle.abstract_map_laws.specs.Calls.{absorbs_of, folded}
use Rattle.abstract_map_laws.specs.Cells.{absorbs_cell, rank_cell}
use Rattle.abstract_map_laws.specs.Keys.{either_key}
use Rattle.abstract_map_laws.specs.Maps.{Map, cell, cells_at, keys}
use Rattle.abstract_map_laws.proofs.Fitting.{each_zero}
use Rattle.abstract_map_laws.proofs.KeyLists.{either_ascends, either_left, either_only}
use Rattle.abstract_map_laws.proofs.Places.{cells_again, made_same}
use Rattle.domain_product_laws.specs.Calls.{first_map, mapped_cell, mapped_cells, second_map, zip_cells, zip_map, zipped}
use Rattle.domain_product_maps.proofs.Maps.{folded_none}
use Rattle.abstract_value_laws.specs.Ranks.{map_rank, unnoted}
use Rattle.domain_product_states.proofs.Mapped.{keys_stay, mapped_at}
use Rattle.domain_product_states.proofs.Tests.{all_both, all_same, swapped}

-- the keys of a list and of itself
pub either_itself : (ks : List ℕ) → IsAscending ks → either_key ks ks ≡ ks
either_itself ks order =
    ascending_same 0 0 (either_key ks ks) ks (either_ascends 0 ks ks (each_zero ks) order) order
    (λ k among. from_either (λ h. h) (λ h. h) (either_only k ks ks among)) (λ k among. either_left k ks ks among)

module _ {V W M N : Type 0} where
  abbrev first_cell : AbstractCell (V × W) (M × N) → AbstractCell V M
  first_cell = mapped_cell (λ p. p.0) (λ p. p.0)

  abbrev second_cell : AbstractCell (V × W) (M × N) → AbstractCell W N
  second_cell = mapped_cell (λ p. p.1) (λ p. p.1)

  first_at : (m : Map (V × W) (M × N)) (k : ℕ) → cell (first_map m) k ≡ first_cell (cell m k)
  first_at m k = mapped_at (λ p. p.0) (λ p. p.0) m k

  second_at : (m : Map (V × W) (M × N)) (k : ℕ) → cell (second_map m) k ≡ second_cell (cell m k)
  second_at m k = mapped_at (λ p. p.1) (λ p. p.1) m k

  pub first_keys : (m : Map (V × W) (M × N)) → keys (first_map m) ≡ keys m
  first_keys m = keys_stay (λ p. p.0) (λ p. p.0) m.cells

  pub second_keys : (m : Map (V × W) (M × N)) → keys (second_map m) ≡ keys m
  second_keys m = keys_stay (λ p. p.1) (λ p. p.1) m.cells

  -- both parts of a map put side by side are the map
  zipped_again : (m : Map (V × W) (M × N)) → IsAscending (keys m) → zipped (first_map m) (second_map m) ≡ m
  zipped_again m order = ap (λ es. record { width = m.width; rest = m.rest; cells = es }) cells
    where
      cells : cells_at (either_key (keys (first_map m)) (keys (second_map m))) (λ k. zip_cells (cell (first_map m) k) (cell (second_map m) k)) ≡ m.cells
      cells =
          ap₂ (λ ks js. cells_at (either_key ks js) (λ k. zip_cells (cell (first_map m) k) (cell (second_map m) k))) (first_keys m) (second_keys m)
          ∙ ap (λ ks. cells_at ks (λ k. zip_cells (cell (first_map m) k) (cell (second_map m) k))) (either_itself (keys m) order)
          ∙ made_same (keys m) (λ k. zip_cells (cell (first_map m) k) (cell (second_map m) k)) (cell m) (λ k among. ap₂ (λ s t. zip_cells s t) (first_at m k) (second_at m k))
          ∙ cells_again 0 m.rest m.cells order

module _ {V W M N C D : Type 0} (A : Algebra V M C) (B : Algebra W N D) (c : C × D) where
  pub zip_again : (cap : ℕ) (m : Map (V × W) (M × N)) → IsAscending (keys m) → length m.cells ≤ cap → zip_map A B c cap (first_map m) (second_map m) ≡ m
  zip_again cap m order few = ap (λ t. folded (paired A B) c cap t) (zipped_again m order) ∙ folded_none (paired A B) c cap m few

  -- ---- absorption
  cell_both : (w : ℕ) (x y : AbstractCell (V × W) (M × N)) → absorbs_cell (paired A B) c w x y ≡ absorbs_cell A c.0 w (first_cell x) (first_cell y) && absorbs_cell B c.1 w (second_cell x) (second_cell y)
  cell_both w x y = swapped (A.words.absorbs c.0 w x.word.0 y.word.0) (B.words.absorbs c.1 w x.word.1 y.word.1) (A.notes.absorbs x.note.0 y.note.0) (B.notes.absorbs x.note.1 y.note.1)

  module _ (old new : Map (V × W) (M × N)) where
    abbrev first_test : ℕ → Bool
    first_test k = absorbs_cell A c.0 old.width (cell (first_map old) k) (cell (first_map new) k)

    abbrev second_test : ℕ → Bool
    second_test k = absorbs_cell B c.1 old.width (cell (second_map old) k) (cell (second_map new) k)

    at_key : (k : ℕ) → absorbs_cell (paired A B) c old.width (cell old k) (cell new k) ≡ first_test k && second_test k
    at_key k =
        cell_both old.width (cell old k) (cell new k)
        ∙ ap₂ (λ p q. p && q) (ap₂ (λ s t. absorbs_cell A c.0 old.width s t) (sym (first_at old k)) (sym (first_at new k))) (ap₂ (λ s t. absorbs_cell B c.1 old.width s t) (sym (second_at old k)) (sym (second_at new k)))

    pub absorbs_both : absorbs_of (paired A B) c old new ≡ absorbs_of A c.0 (first_map old) (first_map new) && absorbs_of B c.1 (second_map old) (second_map new)
    absorbs_both =
        let ks = either_key (keys old) (keys new) in
        ap₂ (λ p q. p && q) (all_same (λ k. absorbs_cell (paired A B) c old.width (cell old k) (cell new k)) (λ k. first_test k && second_test k) at_key ks ∙ all_both first_test second_test ks) (cell_both old.width old.rest new.rest)
        ∙ swapped (list_all first_test ks) (list_all second_test ks) (absorbs_cell A c.0 old.width (first_cell old.rest) (first_cell new.rest)) (absorbs_cell B c.1 old.width (second_cell old.rest) (second_cell new.rest))
        ∙ ap₂ (λ p q. p && q)
        (ap₂ (λ ks js. list_all first_test (either_key ks js) && absorbs_cell A c.0 old.width (first_cell old.rest) (first_cell new.rest)) (sym (first_keys old)) (sym (first_keys new)))
        (ap₂ (λ ks js. list_all second_test (either_key ks js) && absorbs_cell B c.1 old.width (second_cell old.rest) (second_cell new.rest)) (sym (second_keys old)) (sym (second_keys new)))

  -- ---- ranks of words
  added : (a b s t u : ℕ) → u ≡ s + t → (a + b + 0) + u ≡ (a + 0 + s) + (b + 0 + t)
  added a b s t u h = omega (arith, h)

  abbrev first_rank : ℕ → ℕ × AbstractCell V M → ℕ
  first_rank w e = rank_cell (unnoted A) c.0 w [] e.1

  abbrev second_rank : ℕ → ℕ × AbstractCell W N → ℕ
  second_rank w e = rank_cell (unnoted B) c.1 w [] e.1

  abbrev pair_rank : ℕ → ℕ × AbstractCell (V × W) (M × N) → ℕ
  pair_rank w e = rank_cell (unnoted (paired A B)) c w [] e.1

  sum_both : (w : ℕ) (es : List (ℕ × AbstractCell (V × W) (M × N))) → sum_by (pair_rank w) es ≡ sum_by (first_rank w) (mapped_cells (λ p. p.0) (λ p. p.0) es) + sum_by (second_rank w) (mapped_cells (λ p. p.1) (λ p. p.1) es)
  sum_both w [] = refl
  sum_both w (e ∷ es) =
      sum_by-cons (pair_rank w) e es
      ∙ added (A.words.rank c.0 w e.1.word.0) (B.words.rank c.1 w e.1.word.1) (sum_by (first_rank w) (mapped_cells (λ p. p.0) (λ p. p.0) es)) (sum_by (second_rank w) (mapped_cells (λ p. p.1) (λ p. p.1) es)) (sum_by (pair_rank w) es) (sum_both w es)
      ∙ sym (ap₂ (λ s t. s + t) (sum_by-cons (first_rank w) (e.0, first_cell e.1) (mapped_cells (λ p. p.0) (λ p. p.0) es)) (sum_by-cons (second_rank w) (e.0, second_cell e.1) (mapped_cells (λ p. p.1) (λ p. p.1) es)))

  pub rank_both : (m : Map (V × W) (M × N)) → map_rank (paired A B) c m ≡ map_rank A c.0 (first_map m) + map_rank B c.1 (second_map m)
  rank_both m =
      added (A.words.rank c.0 m.width m.rest.word.0) (B.words.rank c.1 m.width m.rest.word.1) (sum_by (first_rank m.width) (mapped_cells (λ p. p.0) (λ p. p.0) m.cells)) (sum_by (second_rank m.width) (mapped_cells (λ p. p.1) (λ p. p.1) m.cells))
      (sum_by (pair_rank m.width) m.cells) (sum_both m.width m.cells)
