-- Calls on maps and values, and on those with each word and each note replaced, where the words and notes of both keep step.
use Rattle.std.proofs.Common.{◌≡◌, ℕ, zero, suc, Bool, true, false, List, [], ◌∷◌, map as map_of, take, drop, refl, sym, ap, ◌∙◌, cond}
use Rattle.std.specs.Prelude.{◌==◌, not}
use Rattle.std.specs.List.{filter}
use Rattle.base_trait.specs.Algebra.{Algebra}
use Rattle.abstract_map_laws.specs.declared.cell.AbstractCell.{AbstractCell}
use Rattle.abstract_map_laws.specs.Calls.{folded, join_of, merged, news, rest_with, update_of, widen_of, written}
use Rattle.abstract_map_laws.specs.Cells.{join_cells, joined, widen_cells}
use Rattle.abstract_map_laws.specs.Keys.{either_key, has_key, one, with_key}
use Rattle.abstract_map_laws.specs.Maps.{Map, cell, cell_in, cells_at, keys}
use Rattle.abstract_map_laws.proofs.Places.{made_same}
use Rattle.domain_product_laws.specs.Calls.{mapped_cases, mapped_cell, mapped_cells, mapped_map, mapped_parts, mapped_value}
use Rattle.abstract_value_laws.specs.Abs.{Abs, Cases, Parts, flag, word, made, map, absent, present, part}
use Rattle.abstract_value_laws.specs.Calls.{merge_cases, merge_of, merge_parts, same_type}

module _ {V W M N : Type 0} (f : V → W) (g : M → N) where
  pub keys_stay : (es : List (ℕ × AbstractCell V M)) → map_of (λ (e : ℕ × AbstractCell W N). e.0) (mapped_cells f g es) ≡ map_of (λ (e : ℕ × AbstractCell V M). e.0) es
  keys_stay [] = refl
  keys_stay (e ∷ es) = ap (λ l. e.0 ∷ l) (keys_stay es)

  mapped_in : (rest : AbstractCell V M) (es : List (ℕ × AbstractCell V M)) (k : ℕ) → cell_in (mapped_cell f g rest) (mapped_cells f g es) k ≡ mapped_cell f g (cell_in rest es k)
  mapped_in rest [] k = refl
  mapped_in rest (e ∷ es) k = place (e.0 == k) (mapped_in rest es k)
    where
      place : (b : Bool) → cell_in (mapped_cell f g rest) (mapped_cells f g es) k ≡ mapped_cell f g (cell_in rest es k)
          → cond b (mapped_cell f g e.1) (cell_in (mapped_cell f g rest) (mapped_cells f g es) k) ≡ mapped_cell f g (cond b e.1 (cell_in rest es k))
      place true i = refl
      place false i = i

  -- the cell at a key
  pub mapped_at : (m : Map V M) (k : ℕ) → cell (mapped_map f g m) k ≡ mapped_cell f g (cell m k)
  mapped_at m k = mapped_in m.rest m.cells k

  -- cells by their keys
  pub mapped_made : (ks : List ℕ) (h : ℕ → AbstractCell V M) → mapped_cells f g (cells_at ks h) ≡ cells_at ks (λ k. mapped_cell f g (h k))
  mapped_made [] h = refl
  mapped_made (k ∷ ks) h = ap (λ l. (k, mapped_cell f g (h k)) ∷ l) (mapped_made ks h)

  mapped_take : (n : ℕ) (es : List (ℕ × AbstractCell V M)) → mapped_cells f g (take n es) ≡ take n (mapped_cells f g es)
  mapped_take zero es = refl
  mapped_take (suc n) [] = refl
  mapped_take (suc n) (e ∷ es) = ap (λ l. (e.0, mapped_cell f g e.1) ∷ l) (mapped_take n es)

  mapped_drop : (n : ℕ) (es : List (ℕ × AbstractCell V M)) → mapped_cells f g (drop n es) ≡ drop n (mapped_cells f g es)
  mapped_drop zero es = refl
  mapped_drop (suc n) [] = refl
  mapped_drop (suc n) (e ∷ es) = mapped_drop n es

  -- the cells at keys that only the new map lists
  cells_of : (new : Map V M) (ks : List ℕ) → map_of (cell (mapped_map f g new)) ks ≡ map_of (mapped_cell f g) (map_of (cell new) ks)
  cells_of new [] = refl
  cells_of new (k ∷ ks) = ap (λ x. x ∷ map_of (cell (mapped_map f g new)) ks) (mapped_at new k) ∙ ap (λ l. mapped_cell f g (cell new k) ∷ l) (cells_of new ks)

  pub mapped_news : (old new : Map V M) → news (mapped_map f g old) (mapped_map f g new) ≡ map_of (mapped_cell f g) (news old new)
  mapped_news old new =
      ap (λ ks. map_of (cell (mapped_map f g new)) (filter (λ k. not (has_key ks k)) (keys (mapped_map f g new)))) (keys_stay old.cells)
      ∙ ap (λ ks. map_of (cell (mapped_map f g new)) (filter (λ k. not (has_key (keys old) k)) ks)) (keys_stay new.cells)
      ∙ cells_of new (filter (λ k. not (has_key (keys old) k)) (keys new))

-- Two algebras whose joins and widenings of cells keep step with the replacement.
module _ {V W M N C D : Type 0} (P : Algebra V M C) (Q : Algebra W N D) (c : C) (d : D) (f : V → W) (g : M → N)
    (joins : (w : ℕ) (x y : AbstractCell V M) → mapped_cell f g (join_cells P c w x y) ≡ join_cells Q d w (mapped_cell f g x) (mapped_cell f g y))
    (widens : (w : ℕ) (x y : AbstractCell V M) → mapped_cell f g (widen_cells P c w x y) ≡ widen_cells Q d w (mapped_cell f g x) (mapped_cell f g y)) where
  mapped_rest : (w : ℕ) (rest : AbstractCell V M) (es : List (ℕ × AbstractCell V M)) → mapped_cell f g (rest_with P c w rest es) ≡ rest_with Q d w (mapped_cell f g rest) (mapped_cells f g es)
  mapped_rest w rest [] = refl
  mapped_rest w rest (e ∷ es) = joins w (rest_with P c w rest es) e.1 ∙ ap (λ t. join_cells Q d w t (mapped_cell f g e.1)) (mapped_rest w rest es)

  mapped_joined : (w : ℕ) (x : AbstractCell V M) (xs : List (AbstractCell V M)) → mapped_cell f g (joined P c w x xs) ≡ joined Q d w (mapped_cell f g x) (map_of (mapped_cell f g) xs)
  mapped_joined w x [] = refl
  mapped_joined w x (y ∷ ys) = mapped_joined w (join_cells P c w x y) ys ∙ ap (λ t. joined Q d w t (map_of (mapped_cell f g) ys)) (joins w x y)

  -- ---- a join, before there is room
  mapped_merged : (m n : Map V M) → mapped_map f g (merged P c m n) ≡ merged Q d (mapped_map f g m) (mapped_map f g n)
  mapped_merged m n =
      ap (λ x. record { width = m.width; rest = x; cells = mapped_cells f g (cells_at (either_key (keys m) (keys n)) (λ k. join_cells P c m.width (cell m k) (cell n k))) }) (joins m.width m.rest n.rest)
      ∙ ap (λ es. record { width = m.width; rest = join_cells Q d m.width (mapped_cell f g m.rest) (mapped_cell f g n.rest); cells = es }) cells
    where
      cells : mapped_cells f g (cells_at (either_key (keys m) (keys n)) (λ k. join_cells P c m.width (cell m k) (cell n k)))
          ≡ cells_at (either_key (keys (mapped_map f g m)) (keys (mapped_map f g n))) (λ k. join_cells Q d m.width (cell (mapped_map f g m) k) (cell (mapped_map f g n) k))
      cells =
          mapped_made f g (either_key (keys m) (keys n)) (λ k. join_cells P c m.width (cell m k) (cell n k))
          ∙ made_same (either_key (keys m) (keys n)) (λ k. mapped_cell f g (join_cells P c m.width (cell m k) (cell n k))) (λ k. join_cells Q d m.width (cell (mapped_map f g m) k) (cell (mapped_map f g n) k))
          (λ k among. joins m.width (cell m k) (cell n k) ∙ ap (λ t. join_cells Q d m.width t (mapped_cell f g (cell n k))) (sym (mapped_at f g m k)) ∙ ap (λ t. join_cells Q d m.width (cell (mapped_map f g m) k) t) (sym (mapped_at f g n k)))
          ∙ ap (λ ks. cells_at (either_key ks (keys n)) (λ k. join_cells Q d m.width (cell (mapped_map f g m) k) (cell (mapped_map f g n) k))) (sym (keys_stay f g m.cells))
          ∙ ap (λ ks. cells_at (either_key (keys (mapped_map f g m)) ks) (λ k. join_cells Q d m.width (cell (mapped_map f g m) k) (cell (mapped_map f g n) k))) (sym (keys_stay f g n.cells))

  -- ---- a widening
  pub mapped_widen : (old new : Map V M) → mapped_map f g (widen_of P c old new) ≡ widen_of Q d (mapped_map f g old) (mapped_map f g new)
  mapped_widen old new =
      ap (λ x. record { width = old.width; rest = x; cells = mapped_cells f g (cells_at (keys old) (λ k. widen_cells P c old.width (cell old k) (cell new k))) }) rest
      ∙ ap (λ es. record { width = old.width; rest = widen_cells Q d old.width (mapped_cell f g old.rest) (joined Q d old.width (mapped_cell f g new.rest) (news (mapped_map f g old) (mapped_map f g new))); cells = es }) cells
    where
      rest : mapped_cell f g (widen_cells P c old.width old.rest (joined P c old.width new.rest (news old new)))
          ≡ widen_cells Q d old.width (mapped_cell f g old.rest) (joined Q d old.width (mapped_cell f g new.rest) (news (mapped_map f g old) (mapped_map f g new)))
      rest =
          widens old.width old.rest (joined P c old.width new.rest (news old new))
          ∙ ap (λ t. widen_cells Q d old.width (mapped_cell f g old.rest) t) (mapped_joined old.width new.rest (news old new))
          ∙ ap (λ l. widen_cells Q d old.width (mapped_cell f g old.rest) (joined Q d old.width (mapped_cell f g new.rest) l)) (sym (mapped_news f g old new))

      cells : mapped_cells f g (cells_at (keys old) (λ k. widen_cells P c old.width (cell old k) (cell new k)))
          ≡ cells_at (keys (mapped_map f g old)) (λ k. widen_cells Q d old.width (cell (mapped_map f g old) k) (cell (mapped_map f g new) k))
      cells =
          mapped_made f g (keys old) (λ k. widen_cells P c old.width (cell old k) (cell new k))
          ∙ made_same (keys old) (λ k. mapped_cell f g (widen_cells P c old.width (cell old k) (cell new k))) (λ k. widen_cells Q d old.width (cell (mapped_map f g old) k) (cell (mapped_map f g new) k))
          (λ k among. widens old.width (cell old k) (cell new k) ∙ ap (λ t. widen_cells Q d old.width t (mapped_cell f g (cell new k))) (sym (mapped_at f g old k)) ∙ ap (λ t. widen_cells Q d old.width (cell (mapped_map f g old) k) t) (sym (mapped_at f g new k)))
          ∙ ap (λ ks. cells_at ks (λ k. widen_cells Q d old.width (cell (mapped_map f g old) k) (cell (mapped_map f g new) k))) (sym (keys_stay f g old.cells))

  -- ---- a write at one key
  mapped_written : (m : Map V M) (k : ℕ) (x : AbstractCell V M) → mapped_map f g (written m k x) ≡ written (mapped_map f g m) k (mapped_cell f g x)
  mapped_written m k x = ap (λ es. record { width = m.width; rest = mapped_cell f g m.rest; cells = es }) cells
    where
      here : (j : ℕ) (b : Bool) → mapped_cell f g (cond b x (cell m j)) ≡ cond b (mapped_cell f g x) (cell (mapped_map f g m) j)
      here j true = refl
      here j false = sym (mapped_at f g m j)

      cells : mapped_cells f g (cells_at (with_key k (keys m)) (λ j. cond (j == k) x (cell m j)))
          ≡ cells_at (with_key k (keys (mapped_map f g m))) (λ j. cond (j == k) (mapped_cell f g x) (cell (mapped_map f g m) j))
      cells =
          mapped_made f g (with_key k (keys m)) (λ j. cond (j == k) x (cell m j))
          ∙ made_same (with_key k (keys m)) (λ j. mapped_cell f g (cond (j == k) x (cell m j))) (λ j. cond (j == k) (mapped_cell f g x) (cell (mapped_map f g m) j)) (λ j among. here j (j == k))
          ∙ ap (λ ks. cells_at (with_key k ks) (λ j. cond (j == k) (mapped_cell f g x) (cell (mapped_map f g m) j))) (sym (keys_stay f g m.cells))

  -- ---- with room for as many cells
  module _ (both_join : P.joins ≡ Q.joins) where
    pub mapped_folded : (cap : ℕ) (m : Map V M) → mapped_map f g (folded P c cap m) ≡ folded Q d cap (mapped_map f g m)
    mapped_folded cap m = by_joins P.joins Q.joins both_join
      where
        by_joins : (a b : Bool) → a ≡ b
            → ◌≡◌ {A = Map W N} (record {
              width = m.width;
              rest = mapped_cell f g (cond a (rest_with P c m.width m.rest (drop cap m.cells)) m.rest);
              cells = mapped_cells f g (cond a (take cap m.cells) m.cells);
            }) (record {
              width = m.width;
              rest = cond b (rest_with Q d m.width (mapped_cell f g m.rest) (drop cap (mapped_cells f g m.cells))) (mapped_cell f g m.rest);
              cells = cond b (take cap (mapped_cells f g m.cells)) (mapped_cells f g m.cells);
            })
        by_joins true true e =
            ap (λ x. record { width = m.width; rest = x; cells = mapped_cells f g (take cap m.cells) }) (mapped_rest m.width m.rest (drop cap m.cells) ∙ ap (λ es. rest_with Q d m.width (mapped_cell f g m.rest) es) (mapped_drop f g cap m.cells))
            ∙ ap (λ es. record { width = m.width; rest = rest_with Q d m.width (mapped_cell f g m.rest) (drop cap (mapped_cells f g m.cells)); cells = es }) (mapped_take f g cap m.cells)
        by_joins false false e = refl
        by_joins true false e = cc
        by_joins false true e = cc

    pub mapped_join : (cap : ℕ) (m n : Map V M) → mapped_map f g (join_of P c cap m n) ≡ join_of Q d cap (mapped_map f g m) (mapped_map f g n)
    mapped_join cap m n = mapped_folded cap (merged P c m n) ∙ ap (λ t. folded Q d cap t) (mapped_merged m n)

    pub mapped_update : (cap : ℕ) (m : Map V M) (k : ℕ) (x : AbstractCell V M) → mapped_map f g (update_of P c cap m (one k) x) ≡ update_of Q d cap (mapped_map f g m) (one k) (mapped_cell f g x)
    mapped_update cap m k x = mapped_folded cap (written m k x) ∙ ap (λ t. folded Q d cap t) (mapped_written m k x)

-- ---- values merged
module _ {V W M N : Type 0} (f : V → W) (g : M → N) (words : ℕ → V → V → V) (words' : ℕ → W → W → W) (maps : Map V M → Map V M → Map V M) (maps' : Map W N → Map W N → Map W N)
    (on_words : (w : ℕ) (x y : V) → f (words w x y) ≡ words' w (f x) (f y)) (on_maps : (x y : Map V M) → mapped_map f g (maps x y) ≡ maps' (mapped_map f g x) (mapped_map f g y)) where
  mutual
    pub mapped_merge : (x y : Abs V M) → mapped_value f g (merge_of words maps x y) ≡ merge_of words' maps' (mapped_value f g x) (mapped_value f g y)
    mapped_merge (flag t) (flag u) = refl
    mapped_merge (word w x) (word u y) = by_width (w == u)
      where
        by_width : (b : Bool) → mapped_value f g (cond b (word w (words w x y)) (word w x)) ≡ cond b (word w (words' w (f x) (f y))) (word w (f x))
        by_width true = ap (λ t. word w t) (on_words w x y)
        by_width false = refl
    mapped_merge (made ty cs) (made tz ds) = ap (λ t. made ty t) (merge_cases_mapped cs ds)
    mapped_merge (map m x) (map n y) = by_type (same_type m x n y)
      where
        by_type : (b : Bool) → mapped_value f g (cond b (map m (maps x y)) (map m x)) ≡ cond b (map m (maps' (mapped_map f g x) (mapped_map f g y))) (map m (mapped_map f g x))
        by_type true = ap (λ t. map m t) (on_maps x y)
        by_type false = refl
    mapped_merge _ _ = refl

    merge_cases_mapped : (cs ds : Cases V M) → mapped_cases f g (merge_cases words maps cs ds) ≡ merge_cases words' maps' (mapped_cases f g cs) (mapped_cases f g ds)
    merge_cases_mapped (absent cs) (absent ds) = ap (λ t. absent t) (merge_cases_mapped cs ds)
    merge_cases_mapped (absent cs) (present ys ds) = ap (λ t. present (mapped_parts f g ys) t) (merge_cases_mapped cs ds)
    merge_cases_mapped (present xs cs) (absent ds) = ap (λ t. present (mapped_parts f g xs) t) (merge_cases_mapped cs ds)
    merge_cases_mapped (present xs cs) (present ys ds) =
        ap (λ t. present t (mapped_cases f g (merge_cases words maps cs ds))) (mapped_merges xs ys) ∙ ap (λ t. present (merge_parts words' maps' (mapped_parts f g xs) (mapped_parts f g ys)) t) (merge_cases_mapped cs ds)
    merge_cases_mapped _ _ = refl

    pub mapped_merges : (xs ys : Parts V M) → mapped_parts f g (merge_parts words maps xs ys) ≡ merge_parts words' maps' (mapped_parts f g xs) (mapped_parts f g ys)
    mapped_merges (part x xs) (part y ys) =
        ap (λ t. part t (mapped_parts f g (merge_parts words maps xs ys))) (mapped_merge x y) ∙ ap (λ t. part (merge_of words' maps' (mapped_value f g x) (mapped_value f g y)) t) (mapped_merges xs ys)
    mapped_merges _ _ = refl
