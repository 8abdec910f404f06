-- Maps put together from their parts.
use Rattle.std.proofs.Common.{◌≡◌, ℕ, ◌+◌, ◌-◌, ◌^◌, ◌<◌, ◌≤◌, Bool, true, false, suc, List, [], ◌∷◌, ◌++◌, map, length, get_or, take, drop, refl, sym, ap, subst, ◌∙◌, arith, cond, Result, Ok, Err, drop-cons}
use Rattle.std.specs.Prelude.{not, IfOk, OnOk, ◌&&◌}
use Rattle.std.specs.List.{filter, list_all}
use Rattle.base_trait.specs.Algebra.{Algebra}
use Rattle.base_trait.specs.Laws.{Laws}
use Rattle.base_trait.specs.Lists.{IsAscending}
use Rattle.abstract_map_laws.specs.declared.cell.AbstractCell.{AbstractCell}
use Rattle.abstract_map_laws.specs.Cells.{CellFits, absorbs_cell, join_cells, joined, widen_cells}
use Rattle.abstract_map_laws.specs.Keys.{has_key, either_key, some}
use Rattle.abstract_map_laws.specs.Maps.{Map, Fits, keys, cell, cells_at}
use Rattle.abstract_map_laws.specs.Calls.{absorbs_of, access_of, all_joined, folded, merged, news, update_of, widen_of, written}
use Rattle.abstract_map_laws.proofs.CellLaws.{cell_join_fits}
use Rattle.abstract_map_laws.proofs.Fitting.{folded_fits, merged_bound, merged_order, room, written_bound, written_order}
use Rattle.abstract_map_laws.proofs.Absorbing.{folded_each}
use Rattle.abstract_map_laws.proofs.Joining.{fit_at, merged_each, take_all}
use Rattle.abstract_map_laws.proofs.Writing.{written_each}
use Rattle.abstract_cell_tree.specs.Entries.{put}
use Rattle.abstract_map.specs.Unfolded.{FitsUnfolded}
use Rattle.abstract_map.proofs.ByKey.{cells_by_key}
use Rattle.abstract_map.proofs.Putting.{put_written}

-- what holds of each answer holds of each that follows from it
pub if_ok : {T E : Type 0} (P Q : T → Type 0) (r : Result T E) → ((x : T) → P x → Q x) → IfOk r P → IfOk r Q
if_ok P Q (Ok x) f h = f x h
if_ok P Q (Err e) f h = h

pub on_ok : {T E : Type 0} (P Q : Type 0) (r : Result T E) → (P → Q) → OnOk r P → OnOk r Q
on_ok P Q (Ok x) f h = f h
on_ok P Q (Err e) f h = h

-- a list with an item is its first item and the others, as the code takes them
pub parted : (ks : List ℕ) → 1 ≤ length ks → ks ≡ get_or ks 0 0 ∷ take (length ks - 1) (drop 1 ks)
parted [] l = absurd (omega arith)
parted (k ∷ ks) l = ap (λ t. k ∷ t) (sym (take_all (length (k ∷ ks) - 1) ks (omega arith)))

module _ {W N : Type 0} where
  -- a map is its parts
  pub made_is : (w : ℕ) (rest : AbstractCell W N) (es : List (ℕ × AbstractCell W N)) (m : Map W N) → w ≡ m.width → rest ≡ m.rest → es ≡ m.cells → ◌≡◌ {A = Map W N} (record { width = w; rest = rest; cells = es }) m
  made_is w rest es m a b d = ap (λ t. record { width = t; rest = rest; cells = es }) a ∙ ap (λ t. record { width = m.width; rest = t; cells = es }) b ∙ ap (λ t. record { width = m.width; rest = m.rest; cells = t }) d

  -- answers that are made of such parts
  module _ {E : Type 0} (w : ℕ) (rest : AbstractCell W N) (es : List (ℕ × AbstractCell W N)) (n : Map W N) (r : Result (Map W N) E) where
    pub made_ok : ◌≡◌ {A = Map W N} (record { width = w; rest = rest; cells = es }) n → IfOk r (λ x. ◌≡◌ {A = Map W N} x (record { width = w; rest = rest; cells = es })) → IfOk r (λ x. x ≡ n)
    made_ok e h = if_ok (λ x. ◌≡◌ {A = Map W N} x (record { width = w; rest = rest; cells = es })) (λ x. x ≡ n) r (λ x d. d ∙ e) h

    pub made_fits : {C : Type 0} (B : Algebra W N C) (c : C) (cap : ℕ) → ◌≡◌ {A = Map W N} (record { width = w; rest = rest; cells = es }) n → Fits B c cap n → IfOk r (λ x. ◌≡◌ {A = Map W N} x (record { width = w; rest = rest; cells = es }))
        → IfOk r (λ x. Fits B c cap x)
    made_fits B c cap e f h = if_ok (λ x. ◌≡◌ {A = Map W N} x (record { width = w; rest = rest; cells = es })) (λ x. Fits B c cap x) r (λ x d. subst (λ t. Fits B c cap t) (sym (d ∙ e)) f) h

  pub written_is : (own m : Map W N) (k : ℕ) (x rest : AbstractCell W N) (es : List (ℕ × AbstractCell W N)) → own ≡ m → IsAscending (keys m) → rest ≡ own.rest → es ≡ put k x own.cells → ◌≡◌ {A = Map W N} (record { width = own.width; rest = rest; cells = es }) (written m k x)
  written_is own m k x rest es e order r p =
      made_is own.width rest es (written m k x) (ap (λ t. t.width) e) (r ∙ ap (λ t. t.rest) e) (p ∙ ap (λ t. put k x t.cells) e ∙ sym (put_written 0 m.rest k x m.cells order))

module _ {W N C : Type 0} (B : Algebra W N C) (c : C) where
  pub merged_is : (own other m n : Map W N) (rest : AbstractCell W N) (es : List (ℕ × AbstractCell W N)) → own ≡ m → other ≡ n → rest ≡ join_cells B c own.width own.rest other.rest
      → es ≡ cells_at (either_key (keys m) (keys n)) (λ k. join_cells B c m.width (cell m k) (cell n k)) → ◌≡◌ {A = Map W N} (record { width = own.width; rest = rest; cells = es }) (merged B c m n)
  merged_is own other m n rest es e d r h =
      made_is own.width rest es (merged B c m n) (ap (λ t. t.width) e) (r ∙ ap (λ t. join_cells B c t.width t.rest other.rest) e ∙ ap (λ t. join_cells B c m.width m.rest t.rest) d) h

  not_chosen : (b : Bool) (x y : AbstractCell W N) → cond (not b) x y ≡ cond b y x
  not_chosen true x y = refl
  not_chosen false x y = refl

  pub joined_is : (cap : ℕ) (own m : Map W N) (ks : List ℕ) (all : Bool) (x old rest : AbstractCell W N) (es : List (ℕ × AbstractCell W N)) → own ≡ m → IsAscending (keys m)
      → old ≡ own.rest → rest ≡ cond (not all) (join_cells B c own.width old x) old → es ≡ map (λ e. (e.0, cond (has_key ks e.0) (join_cells B c own.width e.1 x) e.1)) own.cells
      → ◌≡◌ {A = Map W N} (record { width = own.width; rest = rest; cells = es }) (update_of B c cap m (some ks all) x)
  joined_is cap own m ks all x old rest es e order o r h =
      made_is own.width rest es (update_of B c cap m (some ks all) x) (ap (λ t. t.width) e)
      (r ∙ ap (λ t. cond (not all) (join_cells B c own.width t x) t) o ∙ ap (λ t. cond (not all) (join_cells B c t.width t.rest x) t.rest) e ∙ not_chosen all (join_cells B c m.width m.rest x) m.rest)
      (h ∙ ap (λ t. map (λ e. (e.0, cond (has_key ks e.0) (join_cells B c t.width e.1 x) e.1)) t.cells) e ∙ cells_by_key (λ k y. cond (has_key ks k) (join_cells B c m.width y x) y) m order)

  pub widened_is : (own m n : Map W N) (rest : AbstractCell W N) (es : List (ℕ × AbstractCell W N)) → own ≡ m → IsAscending (keys m)
      → rest ≡ widen_cells B c m.width m.rest (joined B c m.width n.rest (news m n)) → es ≡ map (λ e. (e.0, widen_cells B c m.width e.1 (cell n e.0))) m.cells
      → ◌≡◌ {A = Map W N} (record { width = own.width; rest = rest; cells = es }) (widen_of B c m n)
  widened_is own m n rest es e order r h =
      made_is own.width rest es (widen_of B c m n) (ap (λ t. t.width) e) r (h ∙ cells_by_key (λ k y. widen_cells B c m.width y (cell n k)) m order)

  -- ---- reading
  joined_push : (w : ℕ) (x : AbstractCell W N) (xs : List (AbstractCell W N)) (y : AbstractCell W N) → join_cells B c w (joined B c w x xs) y ≡ joined B c w x (xs ++ y ∷ [])
  joined_push w x [] y = refl
  joined_push w x (z ∷ zs) y = joined_push w (join_cells B c w x z) zs y

  nothing_behind : {A : Type 0} (xs : List A) → xs ++ [] ≡ xs
  nothing_behind [] = refl
  nothing_behind (x ∷ xs) = ap (λ l. x ∷ l) (nothing_behind xs)

  -- the rest comes last, unless all is listed
  joined_last : (w : ℕ) (x : AbstractCell W N) (xs : List (AbstractCell W N)) (rest : AbstractCell W N) (all : Bool) → cond (not all) (join_cells B c w (joined B c w x xs) rest) (joined B c w x xs) ≡ joined B c w x (xs ++ cond all [] (rest ∷ []))
  joined_last w x xs rest true = ap (λ l. joined B c w x l) (sym (nothing_behind xs))
  joined_last w x xs rest false = joined_push w x xs rest

  pub joined_none : (w : ℕ) (rest : AbstractCell W N) (all : Bool) → rest ≡ all_joined B c w rest (cond all [] (rest ∷ []))
  joined_none w rest true = refl
  joined_none w rest false = refl

  pub read_is : (own m : Map W N) (ks : List ℕ) (all : Bool) (first : ℕ) (others : List ℕ) (found x : AbstractCell W N) → own ≡ m → ks ≡ first ∷ others → found ≡ joined B c m.width (cell m first) (map (cell m) others)
      → x ≡ cond (not all) (join_cells B c own.width found own.rest) found → x ≡ access_of B c m (some ks all)
  read_is own m ks all first others found x e k h g =
      g ∙ ap (λ t. cond (not all) (join_cells B c t.width found t.rest) found) e ∙ ap (λ y. cond (not all) (join_cells B c m.width y m.rest) y) h
      ∙ joined_last m.width (cell m first) (map (cell m) others) m.rest all ∙ sym (ap (λ l. all_joined B c m.width m.rest (map (cell m) l ++ cond all [] (m.rest ∷ []))) k)

  -- one more of the cells at keys
  pub joined_next : (w : ℕ) (x y : AbstractCell W N) (f : ℕ → AbstractCell W N) (ks : List ℕ) (i d : ℕ) (whole : AbstractCell W N) → i < length ks → y ≡ join_cells B c w x (f (get_or ks i d))
      → joined B c w x (map f (drop i ks)) ≡ whole → joined B c w y (map f (drop (i + 1) ks)) ≡ whole
  joined_next w x y f ks i d whole l e h =
      let next : i + 1 ≡ suc i = omega arith in
      ap (λ t. joined B c w t (map f (drop (i + 1) ks))) e ∙ ap (λ n. joined B c w (join_cells B c w x (f (get_or ks i d))) (map f (drop n ks))) next
      ∙ sym (ap (λ t. joined B c w x (map f t)) (drop-cons ks i d l)) ∙ h

  -- one more of the cells that pass a test
  pub joined_tested : (w : ℕ) (x y : AbstractCell W N) (test : ℕ → Bool) (es : List (ℕ × AbstractCell W N)) (i : ℕ) (d : ℕ × AbstractCell W N) (whole : AbstractCell W N) → i < length es
      → y ≡ cond (test (get_or es i d).0) (join_cells B c w x (get_or es i d).1) x
      → joined B c w x (map (λ e. e.1) (filter (λ e. test e.0) (drop i es))) ≡ whole → joined B c w y (map (λ e. e.1) (filter (λ e. test e.0) (drop (i + 1) es))) ≡ whole
  joined_tested w x y test es i d whole l e h =
      let next : i + 1 ≡ suc i = omega arith in
      ap (λ t. joined B c w t (map (λ e. e.1) (filter (λ e. test e.0) (drop (i + 1) es)))) e ∙ ap (λ n. joined B c w (cond (test (get_or es i d).0) (join_cells B c w x (get_or es i d).1) x) (map (λ e. e.1) (filter (λ e. test e.0) (drop n es)))) next
      ∙ by_test (test (get_or es i d).0) ∙ sym (ap (λ t. joined B c w x (map (λ e. e.1) (filter (λ e. test e.0) t))) (drop-cons es i d l)) ∙ h
    where
      by_test : (b : Bool) → joined B c w (cond b (join_cells B c w x (get_or es i d).1) x) (map (λ e. e.1) (filter (λ e. test e.0) (drop (suc i) es)))
          ≡ joined B c w x (map (λ e. e.1) (cond b (get_or es i d ∷ filter (λ e. test e.0) (drop (suc i) es)) (filter (λ e. test e.0) (drop (suc i) es))))
      by_test true = refl
      by_test false = refl

  -- ---- absorption
  pub absorbed_is : (own other m n : Map W N) (a b : Bool) → own ≡ m → other ≡ n → a ≡ list_all (λ k. absorbs_cell B c m.width (cell m k) (cell n k)) (either_key (keys m) (keys n))
      → b ≡ absorbs_cell B c own.width own.rest other.rest → a ≡ true → b ≡ absorbs_of B c m n
  absorbed_is own other m n a b e d h g t =
      g ∙ ap (λ x. absorbs_cell B c x.width x.rest other.rest) e ∙ ap (λ x. absorbs_cell B c m.width m.rest x.rest) d ∙ known (list_all (λ k. absorbs_cell B c m.width (cell m k) (cell n k)) (either_key (keys m) (keys n))) (absorbs_cell B c m.width m.rest n.rest) (sym h ∙ t)
    where
      known : (x y : Bool) → x ≡ true → y ≡ x && y
      known true y s = refl
      known false y s = cc

  pub absorbed_not : (m n : Map W N) (a : Bool) → a ≡ list_all (λ k. absorbs_cell B c m.width (cell m k) (cell n k)) (either_key (keys m) (keys n)) → a ≡ false → a ≡ absorbs_of B c m n
  absorbed_not m n a h t = t ∙ known (list_all (λ k. absorbs_cell B c m.width (cell m k) (cell n k)) (either_key (keys m) (keys n))) (absorbs_cell B c m.width m.rest n.rest) (sym h ∙ t)
    where
      known : (x y : Bool) → x ≡ false → false ≡ x && y
      known true y s = cc
      known false y s = refl

  -- ---- before there is room
  pub written_unfolded : (cap : ℕ) (m : Map W N) (k : ℕ) (x : AbstractCell W N) → Fits B c cap m → k < 2 ^ 32 → CellFits B c m.width x → FitsUnfolded B c (written m k x)
  written_unfolded cap m k x fit keyed fx = record { width = fit.width; cells = written_each (CellFits B c m.width) m k x fit.cells fx; order = written_order m k x fit.order; bound = written_bound m k x keyed fit.bound }

  pub merged_unfolded : Laws W N C B → (cap : ℕ) (m n : Map W N) → Fits B c cap m → Fits B c cap n → m.width ≡ n.width → FitsUnfolded B c (merged B c m n)
  merged_unfolded L cap m n fm fn e = record {
    width = fm.width;
    cells = merged_each B c m n (CellFits B c m.width) (cell_join_fits B L c m.width fm.width) fm.cells (fit_at B c n m.width e fn.cells);
    order = merged_order B c m n fm.order fn.order;
    bound = merged_bound B c m n fm.bound fn.bound;
  }

  pub unfolded_at : (m n : Map W N) → m ≡ n → FitsUnfolded B c n → FitsUnfolded B c m
  unfolded_at m n e h = subst (λ t. FitsUnfolded B c t) (sym e) h

  pub folded_fits_room : Laws W N C B → (cap : ℕ) (m : Map W N) → cap ≡ cond B.joins 256 (2 ^ 32) → FitsUnfolded B c m → Fits B c cap (folded B c cap m)
  folded_fits_room L cap m capacity fit = folded_fits B c cap m (room B cap capacity) fit.width (folded_each B c cap m (CellFits B c m.width) (cell_join_fits B L c m.width fit.width) fit.cells) fit.order fit.bound
