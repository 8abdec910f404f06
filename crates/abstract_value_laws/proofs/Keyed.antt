-- The keys that maps of values list.
use Rattle.std.proofs.Common.{◌≡◌, ℕ, zero, suc, ◌<◌, ◌^◌, Bool, true, false, Option, Some, None, List, [], ◌∷◌, map as map_of, length, take, refl, sym, ap, subst, ◌∙◌, cond, ◌⊎◌, inl, inr}
use Rattle.std.specs.Prelude.{IsTrue, ◌&&◌, ◌==◌, nat_lt, slice_get}
use Rattle.std.specs.List.{list_all}
use Rattle.std.proofs.lemmas.Bool.{ltb-true as is_less}
use Rattle.base_trait.specs.Algebra.{Algebra}
use Rattle.base_trait.specs.Lists.{Each, IsAmong}
use Rattle.base_trait.proofs.Lists.{each_at, each_from, number_told}
use Rattle.base_trait.proofs.Tests.{and_parts, at_choice}
use Rattle.abstract_map_laws.specs.Calls.{folded, merged, join_of as join_map, widen_of as widen_map}
use Rattle.abstract_map_laws.specs.Cells.{join_cells, widen_cells}
use Rattle.abstract_map_laws.specs.Keys.{either_key}
use Rattle.abstract_map_laws.specs.Maps.{Map, cell, keys}
use Rattle.abstract_map_laws.proofs.KeyLists.{either_only}
use Rattle.abstract_map_laws.proofs.Places.{keys_of_cells}
use Rattle.spec_ir.specs.declared.ty.Ty.{Ty}
use Rattle.spec_ir.specs.declared.ty.Ty.TheVariants.{Bool as Flag, Word, Data as DataTy, Map as MapOf}
use Rattle.spec_ir.specs.declared.declared.MapType.{MapType}
use Rattle.spec_ir.specs.Environment.{Case, Environment, field_types, key_of, key_type}
use Rattle.spec_ir.specs.Texts.{case_at}
use Rattle.semantics_values.specs.declared.value.Cell.{Cell as ConcreteCell}
use Rattle.semantics_values.specs.Types as concrete
use Rattle.semantics_values.specs.Types.{cell_fits, key_count, keys_ascend, listed_fits, map_fits, of_case}
use Rattle.semantics_values.specs.Values as v
use Rattle.semantics_values.specs.Values.{Val, Vals}
use Rattle.abstract_value_laws.specs.Abs.{Abs, Cases, Parts, flag, word, made, map, no_case, absent, present, no_part, part}
use Rattle.abstract_value_laws.specs.Calls.{join_of, merge_cases, merge_of, merge_parts, same_type, widen_of}
use Rattle.abstract_value_laws.specs.Keys.{CaseKeysFit, KeysFit, PartKeysFit}
use Rattle.abstract_value_laws.specs.TypeLaws.{JoinKeysFit, ValueKeysFit, WidenKeysFit}
use Rattle.abstract_value_laws.specs.OfValues.{absent_onto, case_count, cell_of, cells_of, map_at, of_value, of_values, one_case}
use Rattle.abstract_value_laws.specs.TypeShapes.{width_of}

-- ---- maps
module _ {A : Type 0} (P : ℕ → Type 0) where
  each_taken : (n : ℕ) (es : List (ℕ × A)) → Each P (map_of (λ e. e.0) es) → Each P (map_of (λ e. e.0) (take n es))
  each_taken zero es h = tt
  each_taken (suc n) [] h = tt
  each_taken (suc n) (e ∷ es) h = (h.0, each_taken n es h.1)

module _ {W N C : Type 0} (B : Algebra W N C) (c : C) (P : ℕ → Type 0) where
  folded_keys : (cap : ℕ) (m : Map W N) → Each P (keys m) → Each P (keys (folded B c cap m))
  folded_keys cap m h = by_joins B.joins
    where
      by_joins : (b : Bool) → Each P (map_of (λ e. e.0) (cond b (take cap m.cells) m.cells))
      by_joins true = each_taken P cap m.cells h
      by_joins false = h

  join_keys : (cap : ℕ) (m n : Map W N) → Each P (keys m) → Each P (keys n) → Each P (keys (join_map B c cap m n))
  join_keys cap m n h g =
      folded_keys cap (merged B c m n) (subst (λ ks. Each P ks) (sym (keys_of_cells (either_key (keys m) (keys n)) (λ k. join_cells B c m.width (cell m k) (cell n k))))
      (each_from P (either_key (keys m) (keys n)) (λ k a. sorted k (either_only k (keys m) (keys n) a))))
    where
      sorted : (k : ℕ) → IsAmong k (keys m) ⊎ IsAmong k (keys n) → P k
      sorted k (inl a) = each_at P (keys m) k h a
      sorted k (inr a) = each_at P (keys n) k g a

  widen_keys : (m n : Map W N) → Each P (keys m) → Each P (keys n) → Each P (keys (widen_map B c m n))
  widen_keys m n h g = subst (λ ks. Each P ks) (sym (keys_of_cells (keys m) (λ k. widen_cells B c m.width (cell m k) (cell n k)))) h

-- ---- values that are merged
module _ {W N : Type 0} (env : Environment) (words : ℕ → W → W → W) (maps : Map W N → Map W N → Map W N)
    (kept : (P : ℕ → Type 0) (m n : Map W N) → Each P (keys m) → Each P (keys n) → Each P (keys (maps m n))) where
  mutual
    merge_fits : (x y : Abs W N) → KeysFit env x → KeysFit env y → KeysFit env (merge_of words maps x y)
    merge_fits (flag t) (flag u) a b = tt
    merge_fits (word w x) (word u y) a b = at_choice (KeysFit env) (w == u) (word w (words w x y)) (word w x) (λ e. tt) (λ e. tt)
    merge_fits (made t cs) (made u ds) a b = cases_fit cs ds a b
    merge_fits (map m x) (map n y) a b =
        at_choice (KeysFit env) (same_type m x n y) (map m (maps x y)) (map m x)
        (λ e. kept (λ k. k < key_count env (key_type env m)) x y a (subst (λ t. Each (λ k. k < key_count env (key_type env t)) (keys y)) (sym (number_told m n (and_parts (m == n) (x.width == y.width) e).0)) b)) (λ e. a)
    merge_fits _ _ a b = a

    cases_fit : (cs ds : Cases W N) → CaseKeysFit env cs → CaseKeysFit env ds → CaseKeysFit env (merge_cases words maps cs ds)
    cases_fit (absent cs) (absent ds) a b = cases_fit cs ds a b
    cases_fit (absent cs) (present ys ds) a b = (b.0, cases_fit cs ds a b.1)
    cases_fit (present xs cs) (absent ds) a b = (a.0, cases_fit cs ds a.1 b)
    cases_fit (present xs cs) (present ys ds) a b = (parts_fit xs ys a.0 b.0, cases_fit cs ds a.1 b.1)
    cases_fit _ _ a b = tt

    parts_fit : (xs ys : Parts W N) → PartKeysFit env xs → PartKeysFit env ys → PartKeysFit env (merge_parts words maps xs ys)
    parts_fit (part x xs) (part y ys) a b = (merge_fits x y a.0 b.0, parts_fit xs ys a.1 b.1)
    parts_fit _ _ a b = tt

-- ---- values of concrete ones
listed_keys : (count w : ℕ) (cells : List (ℕ × ConcreteCell)) → list_all (listed_fits count w) cells ≡ true → Each (λ k. k < count) (map_of (λ e. e.0) cells)
listed_keys count w [] h = tt
listed_keys count w (e ∷ cells) h =
    let p = and_parts (listed_fits count w e) (list_all (listed_fits count w) cells) h in
    (is_less e.0 count (and_parts (nat_lt e.0 count) (cell_fits w e.1) p.0).0, listed_keys count w cells p.1)

module _ {W N C : Type 0} (B : Algebra W N C) (c : C) (cap : ℕ) (env : Environment) where
  same_keys : (w : ℕ) (cells : List (ℕ × ConcreteCell)) → map_of (λ e. e.0) (cells_of B c w cells) ≡ map_of (λ e. e.0) cells
  same_keys w [] = refl
  same_keys w (e ∷ cells) = ap (λ l. e.0 ∷ l) (same_keys w cells)

  absent_keys : (n : ℕ) → CaseKeysFit {W = W} {N = N} env (absent_onto n no_case)
  absent_keys zero = tt
  absent_keys (suc n) = absent_keys n

  one_keys : (n k : ℕ) (xs : Parts W N) → PartKeysFit env xs → CaseKeysFit env (one_case n k xs)
  one_keys zero k xs h = tt
  one_keys (suc n) zero xs h = (h, absent_keys n)
  one_keys (suc n) (suc k) xs h = one_keys n k xs h

  map_keys : (m : ℕ) (o : Option MapType) (w : ℕ) (rest : ConcreteCell) (cells : List (ℕ × ConcreteCell)) → map_fits env o rest cells ≡ true → Each (λ k. k < key_count env (key_of o)) (keys (map_at B c cap w rest cells))
  map_keys m None w rest cells h = cc
  map_keys m (Some d) w rest cells h =
      let p = and_parts (cell_fits d.width rest) (keys_ascend 0 cells && list_all (listed_fits (key_count env d.key) d.width) cells) h in
      let q = and_parts (keys_ascend 0 cells) (list_all (listed_fits (key_count env d.key) d.width) cells) p.1 in
      folded_keys B c (λ k. k < key_count env d.key) cap (record { width = w; rest = cell_of B c w rest; cells = cells_of B c w cells })
      (subst (λ ks. Each (λ k. k < key_count env d.key) ks) (sym (same_keys w cells)) (listed_keys (key_count env d.key) d.width cells q.1))

  fields_are : (o : Option Case) (ps : Vals) → of_case o (concrete.have_types env ps) ≡ true → ((types : List Ty) → concrete.have_types env ps types ≡ true → PartKeysFit env (of_values B c cap env ps)) → PartKeysFit env (of_values B c cap env ps)
  fields_are None ps h f = cc
  fields_are (Some d) ps h f = f (field_types d) h

  mutual
    value_fits : (val : Val) (ty : Ty) → concrete.has_type env val ty ≡ true → KeysFit env (of_value B c cap env val)
    value_fits (v.flag b) ty h = tt
    value_fits (v.word w n) ty h = tt
    value_fits (v.made t k ps) (DataTy u) h =
        let p = and_parts (t == u) (of_case (case_at env (DataTy u) k) (concrete.have_types env ps)) h in
        one_keys (case_count env t) k (of_values B c cap env ps) (fields_are (case_at env (DataTy u) k) ps p.1 (λ types q. all_fit ps types q))
    value_fits (v.map m rest cells) (MapOf n) h =
        let p = and_parts (m == n) (map_fits env (slice_get env.maps n) rest cells) h in
        map_keys m (slice_get env.maps m) (width_of (slice_get env.maps m)) rest cells (subst (λ t. map_fits env (slice_get env.maps t) rest cells ≡ true) (sym (number_told m n p.0)) p.1)
    value_fits _ _ h = cc

    all_fit : (ps : Vals) (types : List Ty) → concrete.have_types env ps types ≡ true → PartKeysFit env (of_values B c cap env ps)
    all_fit v.no_val types h = tt
    all_fit (v.val_then p ps) (t ∷ types) h = let q = and_parts (concrete.has_type env p t) (concrete.have_types env ps types) h in (value_fits p t q.0, all_fit ps types q.1)
    all_fit _ _ h = cc

module _ {W N C : Type 0} (B : Algebra W N C) where
  pub join_keys_fit : JoinKeysFit B
  join_keys_fit c cap env x y a b = merge_fits env (B.words.join c) (join_map B c cap) (λ P m n h g. join_keys B c P cap m n h g) x y a b

  pub widen_keys_fit : WidenKeysFit B
  widen_keys_fit c env old new a b = merge_fits env (B.words.widen c) (widen_map B c) (λ P m n h g. widen_keys B c P m n h g) old new a b

  pub value_keys_fit : ValueKeysFit B
  value_keys_fit c cap env val ty h = value_fits B c cap env val ty h
