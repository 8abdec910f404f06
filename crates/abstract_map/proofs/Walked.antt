-- What walks over parts of trees give.
use Rattle.std.proofs.Common.{◌≡◌, ℕ, ◌+◌, ◌<◌, ◌≤◌, arith, length, length-append, Bool, true, false, List, [], ◌∷◌, ◌++◌, Option, Some, None, map, eqb, cond, refl, sym, ap, subst, ◌∙◌, append_assoc, inl, inr, ◌⊎◌, IsTrue}
use Rattle.std.specs.Prelude.{◌&&◌, ◌||◌, is_some, not, unwrap_or}
use Rattle.std.specs.List.{filter, list_all}
use Rattle.std.proofs.lemmas.List.{map-append}
use Rattle.base_trait.specs.Algebra.{Algebra}
use Rattle.base_trait.specs.Lists.{Each, IsAmong, IsAscending}
use Rattle.base_trait.proofs.Lists.{among_either, among_left, among_right, number_told}
use Rattle.base_trait.proofs.Tests.{decide}
use Rattle.abstract_cell_tree.specs.Entries.{Alike, listed_at, put}
use Rattle.abstract_map_laws.specs.declared.cell.AbstractCell.{AbstractCell}
use Rattle.abstract_map_laws.specs.Cells.{join_cells, joined}
use Rattle.abstract_map_laws.specs.Keys.{either_key, has_key}
use Rattle.abstract_map_laws.specs.Maps.{Map, cell, cell_in, cells_at, keys}
use Rattle.abstract_map_laws.proofs.KeyLists.{either_ascends, either_left, either_only, either_right, has_from, has_not, has_to}
use Rattle.abstract_map_laws.proofs.Places.{cells_again}
use Rattle.abstract_map.specs.Merged.{with_new}
use Rattle.abstract_map.proofs.ByKey.{cells_by_key, listed_has}
use Rattle.abstract_map.proofs.Laid.{Laid, each_zero, laid_all, laid_first, laid_put}
use Rattle.abstract_map.proofs.Named.{has_push}

apart_tests : true ≡ false → ⊥
apart_tests h = cc

module _ {A : Type 0} where
  pub each_left : (P : A → Type 0) (xs ys : List A) → Each P (xs ++ ys) → Each P xs
  each_left P [] ys h = tt
  each_left P (x ∷ xs) ys h = (h.0, each_left P xs ys h.1)

  pub each_right : (P : A → Type 0) (xs ys : List A) → Each P (xs ++ ys) → Each P ys
  each_right P [] ys h = h
  each_right P (x ∷ xs) ys h = each_right P xs ys h.1

  each_both : (P Q R : A → Type 0) → ((x : A) → P x → Q x → R x) → (xs : List A) → Each P xs → Each Q xs → Each R xs
  each_both P Q R f [] h g = tt
  each_both P Q R f (x ∷ xs) h g = (f x h.0 g.0, each_both P Q R f xs h.1 g.1)

module _ {A : Type 0} where
  -- what lists the same lists the same at some keys
  pub alike_is : (es xs ys : List (ℕ × A)) → xs ≡ ys → Alike es xs ys
  alike_is [] xs ys h = tt
  alike_is (e ∷ es) xs ys h = (ap (listed_at e.0) h, alike_is es xs ys h)

  pub alike_one : (d xs ys : List (ℕ × A)) (k : ℕ) (x : A) → d ≡ (k, x) ∷ [] → Alike d xs ys → listed_at k xs ≡ listed_at k ys
  alike_one d xs ys k x e h = let one = subst (λ t. Alike t xs ys) e h in one.0

  pub each_one : (P : ℕ × A → Type 0) (d : List (ℕ × A)) (k : ℕ) (x : A) → d ≡ (k, x) ∷ [] → Each P d → P (k, x)
  each_one P d k x e h = let one = subst (λ t. Each P t) e h in one.0

  pub changed_keys : (G : ℕ × A → A) (new es : List (ℕ × A)) → new ≡ map (λ (e : ℕ × A). (e.0, G e)) es → map (λ (e : ℕ × A). e.0) new ≡ map (λ (e : ℕ × A). e.0) es
  changed_keys G new es h = ap (λ (l : List (ℕ × A)). map (λ (e : ℕ × A). e.0) l) h ∙ same es
    where
      same : (es : List (ℕ × A)) → map (λ (e : ℕ × A). e.0) (map (λ (e : ℕ × A). (e.0, G e)) es) ≡ map (λ (e : ℕ × A). e.0) es
      same [] = refl
      same (e ∷ es) = ap (λ l. e.0 ∷ l) (same es)

module _ {A : Type 0} (d l r : List (ℕ × A)) (e : d ≡ l ++ r) where
  pub less_left : 1 ≤ length r → length l < length d
  less_left h = omega (arith, h, ap length e, length-append l r)

  pub less_right : 1 ≤ length l → length r < length d
  less_right h = omega (arith, h, ap length e, length-append l r)

  pub part_left : (P : ℕ × A → Type 0) → Each P d → Each P l
  part_left P h = each_left P l r (subst (λ t. Each P t) e h)

  pub part_right : (P : ℕ × A → Type 0) → Each P d → Each P r
  part_right P h = each_right P l r (subst (λ t. Each P t) e h)

  -- what is around both sides and around it one of them
  pub around_left : (xs ys zs : List (ℕ × A)) → Alike l zs xs → Alike d xs ys → Alike l zs ys
  around_left xs ys zs h g = each_both (λ x. listed_at x.0 zs ≡ listed_at x.0 xs) (λ x. listed_at x.0 xs ≡ listed_at x.0 ys) (λ x. listed_at x.0 zs ≡ listed_at x.0 ys) (λ x p q. p ∙ q) l h (part_left (λ x. listed_at x.0 xs ≡ listed_at x.0 ys) g)

  pub around_right : (xs ys zs : List (ℕ × A)) → Alike r zs xs → Alike d xs ys → Alike r zs ys
  around_right xs ys zs h g = each_both (λ x. listed_at x.0 zs ≡ listed_at x.0 xs) (λ x. listed_at x.0 xs ≡ listed_at x.0 ys) (λ x. listed_at x.0 zs ≡ listed_at x.0 ys) (λ x p q. p ∙ q) r h (part_right (λ x. listed_at x.0 xs ≡ listed_at x.0 ys) g)

  -- a test at each key
  pub all_parts : (test : ℕ → Bool) (a b : Bool) → a ≡ list_all test (map (λ x. x.0) l) → b ≡ list_all test (map (λ x. x.0) r) → a && b ≡ list_all test (map (λ x. x.0) d)
  all_parts test a b p q = ap (λ t. t && b) p ∙ ap (λ t. list_all test (map (λ x. x.0) l) && t) q ∙ beside l ∙ sym (ap (λ t. list_all test (map (λ x. x.0) t)) e)
    where
      beside : (es : List (ℕ × A)) → list_all test (map (λ x. x.0) es) && list_all test (map (λ x. x.0) r) ≡ list_all test (map (λ x. x.0) (es ++ r))
      beside [] = refl
      beside (y ∷ es) = by_test (test y.0) (beside es)
        where
          by_test : (b : Bool) → list_all test (map (λ x. x.0) es) && list_all test (map (λ x. x.0) r) ≡ list_all test (map (λ x. x.0) (es ++ r))
              → (b && list_all test (map (λ x. x.0) es)) && list_all test (map (λ x. x.0) r) ≡ b && list_all test (map (λ x. x.0) (es ++ r))
          by_test true later = later
          by_test false later = refl

  pub all_then : (test : ℕ → Bool) (a b : Bool) → a ≡ list_all test (map (λ x. x.0) l) → b ≡ list_all test (map (λ x. x.0) r) → a ≡ true → b ≡ list_all test (map (λ x. x.0) d)
  all_then test a b p q t = ap (λ x. x && b) (sym t) ∙ all_parts test a b p q

  pub all_else : (test : ℕ → Bool) (a : Bool) → a ≡ list_all test (map (λ x. x.0) l) → a ≡ false → a ≡ list_all test (map (λ x. x.0) d)
  all_else test a p t = t ∙ ap (λ x. x && list_all test (map (λ x. x.0) r)) (sym t) ∙ all_parts test a (list_all test (map (λ x. x.0) r)) p refl

  -- each entry changed
  pub map_parts : (f : ℕ × A → ℕ × A) (p q : List (ℕ × A)) → p ≡ map f l → q ≡ map f r → p ++ q ≡ map f d
  map_parts f p q h g = ap (λ t. t ++ q) h ∙ ap (λ t. map f l ++ t) g ∙ sym (map-append f l r) ∙ sym (ap (map f) e)

  -- the new entries of one side behind those of the other
  pub new_parts : (es : List (ℕ × A)) (make : A → A) (out mid : List (ℕ × A)) → mid ≡ with_new es make l out → with_new es make r mid ≡ with_new es make d out
  new_parts es make out mid h = ap (with_new es make r) h ∙ beside l out ∙ sym (ap (λ t. with_new es make t out) e)
    where
      beside : (ds old : List (ℕ × A)) → with_new es make r (with_new es make ds old) ≡ with_new es make (ds ++ r) old
      beside [] old = refl
      beside (x ∷ ds) old = beside ds (cond (is_some (listed_at x.0 es)) old (put x.0 (make x.1) old))

module _ {W N C : Type 0} (B : Algebra W N C) (c : C) (w : ℕ) (test : ℕ → Bool) where
  joined_beside : (x : AbstractCell W N) (xs ys : List (AbstractCell W N)) → joined B c w (joined B c w x xs) ys ≡ joined B c w x (xs ++ ys)
  joined_beside x [] ys = refl
  joined_beside x (y ∷ xs) ys = joined_beside (join_cells B c w x y) xs ys

  abbrev passing : List (ℕ × AbstractCell W N) → List (AbstractCell W N)
  passing es = map (λ e. e.1) (filter (λ e. test e.0) es)

  passing_parts : (l r : List (ℕ × AbstractCell W N)) → passing l ++ passing r ≡ passing (l ++ r)
  passing_parts [] r = refl
  passing_parts (e ∷ l) r = by_test (test e.0) (passing_parts l r)
    where
      by_test : (b : Bool) → passing l ++ passing r ≡ passing (l ++ r) → map (λ e. e.1) (cond b (e ∷ filter (λ e. test e.0) l) (filter (λ e. test e.0) l)) ++ passing r ≡ map (λ e. e.1) (cond b (e ∷ filter (λ e. test e.0) (l ++ r)) (filter (λ e. test e.0) (l ++ r)))
      by_test true later = ap (λ t. e.1 ∷ t) later
      by_test false later = later

  -- the cells of one side that pass a test joined behind those of the other
  pub joined_parts : (d l r : List (ℕ × AbstractCell W N)) (x y : AbstractCell W N) → d ≡ l ++ r → y ≡ joined B c w x (map (λ e. e.1) (filter (λ e. test e.0) l))
      → joined B c w y (map (λ e. e.1) (filter (λ e. test e.0) r)) ≡ joined B c w x (map (λ e. e.1) (filter (λ e. test e.0) d))
  joined_parts d l r x y e h =
      ap (λ t. joined B c w t (passing r)) h ∙ joined_beside x (passing l) (passing r) ∙ ap (λ t. joined B c w x t) (passing_parts l r) ∙ sym (ap (λ t. joined B c w x (passing t)) e)

  pub joined_one : (k : ℕ) (x y z : AbstractCell W N) → z ≡ cond (test k) (join_cells B c w x y) x → z ≡ joined B c w x (map (λ (e : ℕ × AbstractCell W N). e.1) (filter (λ (e : ℕ × AbstractCell W N). test e.0) ((k, y) ∷ [])))
  joined_one k x y z h = h ∙ by_test (test k)
    where
      by_test : (b : Bool) → cond b (join_cells B c w x y) x ≡ joined B c w x (map (λ (e : ℕ × AbstractCell W N). e.1) (cond b ((k, y) ∷ []) []))
      by_test true = refl
      by_test false = refl

-- ---- the new entries, by their keys
has_same : (j : ℕ) (ks js : List ℕ) → (IsAmong j ks → IsAmong j js) → (IsAmong j js → IsAmong j ks) → has_key ks j ≡ has_key js j
has_same j ks js f g = sorted (decide (has_key ks j)) (decide (has_key js j))
  where
    sorted : IsTrue (has_key ks j) ⊎ (has_key ks j ≡ false) → IsTrue (has_key js j) ⊎ (has_key js j ≡ false) → has_key ks j ≡ has_key js j
    sorted (inl a) (inl b) = a ∙ sym b
    sorted (inr a) (inr b) = a ∙ sym b
    sorted (inl a) (inr b) = absurd (has_not j js b (f (has_from j ks a)))
    sorted (inr a) (inl b) = absurd (has_not j ks a (g (has_from j js b)))

has_either : (j : ℕ) (ks js : List ℕ) → has_key (ks ++ js) j ≡ has_key (either_key ks js) j
has_either j ks js = has_same j (ks ++ js) (either_key ks js) (λ h. there (among_either j ks js h)) (λ h. back (either_only j ks js h))
  where
    there : IsAmong j ks ⊎ IsAmong j js → IsAmong j (either_key ks js)
    there (inl h) = either_left j ks js h
    there (inr h) = either_right j ks js h

    back : IsAmong j ks ⊎ IsAmong j js → IsAmong j (ks ++ js)
    back (inl h) = among_left j ks js h
    back (inr h) = among_right j ks js h

module _ {A : Type 0} (F : ℕ → A) (make : A → A) (es : List (ℕ × A)) where
  -- what is made of each entry that is not listed is its key's
  abbrev pub Made : List (ℕ × A) → Type 0
  Made ds = Each (λ d. is_some (listed_at d.0 es) ≡ false → make d.1 ≡ F d.0) ds

  new_laid : (ds out : List (ℕ × A)) (ks : List ℕ) → Made ds → ((j : ℕ) → has_key (map (λ e. e.0) es) j ≡ true → has_key ks j ≡ true) → Laid F es out ks → Laid F es (with_new es make ds out) (ks ++ map (λ d. d.0) ds)
  new_laid [] out ks m f h = subst (λ l. Laid F es out l) (sym (nothing_behind ks)) h
    where
      nothing_behind : (xs : List ℕ) → xs ++ [] ≡ xs
      nothing_behind [] = refl
      nothing_behind (x ∷ xs) = ap (λ l. x ∷ l) (nothing_behind xs)
  new_laid (d ∷ ds) out ks m f h =
      subst (λ l. Laid F es (with_new es make (d ∷ ds) out) l) (append_assoc ks (d.0 ∷ []) (map (λ d. d.0) ds))
      (by_test (is_some (listed_at d.0 es)) refl (λ t. laid_put F es out ks d.0 (make d.1) h (m.0 t)) (λ next g. new_laid ds next (ks ++ d.0 ∷ []) m.1 (λ j t. more j (f j t)) g))
    where
      more : (j : ℕ) → has_key ks j ≡ true → has_key (ks ++ d.0 ∷ []) j ≡ true
      more j t = has_push ks d.0 j ∙ ap (λ b. b || (eqb d.0 j || false)) t

      by_test : (b : Bool) → is_some (listed_at d.0 es) ≡ b → (is_some (listed_at d.0 es) ≡ false → Laid F es (put d.0 (make d.1) out) (ks ++ d.0 ∷ []))
          → ((next : List (ℕ × A)) → Laid F es next (ks ++ d.0 ∷ []) → Laid F es (with_new es make ds next) ((ks ++ d.0 ∷ []) ++ map (λ d. d.0) ds))
          → Laid F es (with_new es make ds (cond b out (put d.0 (make d.1) out))) ((ks ++ d.0 ∷ []) ++ map (λ d. d.0) ds)
      by_test false t p later = later (put d.0 (make d.1) out) (p t)
      by_test true t p later = later out (record { order = h.order; listed = λ j. h.listed j ∙ ap (λ b. cond b (Some (F j)) (listed_at j es)) (same j (eqb d.0 j) (λ s. number_told d.0 j s) ∙ sym (has_push ks d.0 j)) })
        where
          listed : has_key ks d.0 ≡ true
          listed = f d.0 (sym (listed_has d.0 es) ∙ t)

          same : (j : ℕ) (a : Bool) → (a ≡ true → d.0 ≡ j) → has_key ks j ≡ has_key ks j || (a || false)
          same j true g = let here = ap (has_key ks) (sym (g refl)) ∙ listed in here ∙ sym (ap (λ b. b || (true || false)) here)
          same j false g = by_side (has_key ks j)
            where
              by_side : (b : Bool) → b ≡ b || (false || false)
              by_side true = refl
              by_side false = refl

module _ {W N C : Type 0} (B : Algebra W N C) (c : C) (m n : Map W N) (left : IsAscending (keys m)) (right : IsAscending (keys n)) where
  abbrev at_key : ℕ → AbstractCell W N
  at_key k = join_cells B c m.width (cell m k) (cell n k)

  own_of : (ks : List ℕ) (f : ℕ → AbstractCell W N) → Each (λ d. d.1 ≡ f d.0) (cells_at ks f)
  own_of [] f = tt
  own_of (k ∷ ks) f = (refl, own_of ks f)

  past : (rest : AbstractCell W N) (es : List (ℕ × AbstractCell W N)) (k : ℕ) → is_some (listed_at k es) ≡ false → rest ≡ cell_in rest es k
  past rest [] k h = refl
  past rest (e ∷ es) k h = by_test (eqb e.0 k) h (past rest es k)
    where
      by_test : (b : Bool) → is_some (cond b (Some e.1) (listed_at k es)) ≡ false → (is_some (listed_at k es) ≡ false → rest ≡ cell_in rest es k) → rest ≡ cond b e.1 (cell_in rest es k)
      by_test true h f = absurd (apart_tests h)
      by_test false h f = f h

  made_of : (ds : List (ℕ × AbstractCell W N)) → Each (λ d. d.1 ≡ cell n d.0) ds → Made at_key (λ x. join_cells B c m.width m.rest x) m.cells ds
  made_of [] h = tt
  made_of (d ∷ ds) h = ((λ t. ap (λ x. join_cells B c m.width m.rest x) h.0 ∙ ap (λ x. join_cells B c m.width x (cell n d.0)) (past m.rest m.cells d.0 t)), made_of ds h.1)

  -- the cells of the first merged where they stand, and then the new ones of the other, are the cells at the keys of either
  pub both_merged : (mid out : List (ℕ × AbstractCell W N)) → mid ≡ map (λ e. (e.0, join_cells B c m.width e.1 (cell n e.0))) m.cells → out ≡ with_new m.cells (λ x. join_cells B c m.width m.rest x) n.cells mid
      → out ≡ cells_at (either_key (keys m) (keys n)) at_key
  both_merged mid out h g =
      let own : Each (λ d. d.1 ≡ cell n d.0) n.cells = subst (λ l. Each (λ d. d.1 ≡ cell n d.0) l) (cells_again 0 n.rest n.cells right) (own_of (keys n) (cell n)) in
      let first : Laid at_key m.cells mid (keys m) = subst (λ l. Laid at_key m.cells l (keys m)) (sym (h ∙ cells_by_key (λ k y. join_cells B c m.width y (cell n k)) m left)) (laid_first at_key m.cells left) in
      let all = new_laid at_key (λ x. join_cells B c m.width m.rest x) m.cells n.cells mid (keys m) (made_of n.cells own) (λ j t. t) first in
      g ∙ laid_all at_key m.cells (with_new m.cells (λ x. join_cells B c m.width m.rest x) n.cells mid) (keys n) (either_key (keys m) (keys n)) refl
      (either_ascends 0 (keys m) (keys n) (each_zero (keys m)) right)
      (record { order = all.order; listed = λ j. all.listed j ∙ ap (λ b. cond b (Some (at_key j)) (listed_at j m.cells)) (has_either j (keys m) (keys n)) })
