-- Concrete values that have a type.
use Rattle.std.proofs.Common.{◌≡◌, ℕ, suc, ◌+◌, ◌<◌, ◌≤◌, ◌^◌, true, Option, Some, None, List, [], ◌∷◌, map as map_of, length, refl, sym, subst, arith}
use Rattle.std.specs.Prelude.{◌&&◌, ◌==◌, nat_le, nat_lt, slice_get}
use Rattle.std.specs.List.{list_all}
use Rattle.std.proofs.lemmas.Bool.{ltb-true as is_less, leb-true as is_at_most}
use Rattle.word_operations.specs.Width.{IsWidth}
use Rattle.base_trait.specs.Lists.{Each, IsAscendingFrom}
use Rattle.base_trait.proofs.Lists.{number_told}
use Rattle.base_trait.proofs.Tests.{and_parts}
use Rattle.spec_ir.specs.declared.ty.Ty.{Ty}
use Rattle.spec_ir.specs.declared.ty.Ty.TheVariants.{Bool as Flag, Word, Data as DataTy, Map as MapOf}
use Rattle.spec_ir.specs.declared.declared.MapType.{MapType}
use Rattle.spec_ir.specs.Environment.{Case, Data, Environment, field_types}
use Rattle.spec_ir.specs.Texts.{case_at, cases_of}
use Rattle.spec_ir.specs.WellFormed.{IsWellFormed, is_type, is_width}
use Rattle.spec_ir.proofs.Checks.{width_is}
use Rattle.semantics_values.specs.declared.value.Cell.{Cell}
use Rattle.semantics_values.specs.Types.{cell_fits, has_type, have_types, key_count, keys_ascend, listed_fits, map_fits, of_case}
use Rattle.semantics_values.specs.Values.{Val, Vals, flag, word, made, map, no_val, val_then}
use Rattle.abstract_value_laws.specs.TypeLaws.{TypedFits, are_keyed}
use Rattle.abstract_value_laws.specs.OfValues.{MapFits, ValueFits, ValuesFit, case_count}
use Rattle.abstract_value_laws.specs.TypeShapes.{width_of}
use Rattle.abstract_value_laws.proofs.Depths.{all_at, fields_typed, within}

-- ---- cells
ascending : (low : ℕ) (cells : List (ℕ × Cell)) → keys_ascend low cells ≡ true → IsAscendingFrom low (map_of (λ e. e.0) cells)
ascending low [] h = tt
ascending low (e ∷ cells) h =
    let p = and_parts (nat_le low e.0) (keys_ascend (suc e.0) cells) h in
    let next : suc e.0 ≡ e.0 + 1 = omega arith in
    (is_at_most low e.0 p.0, subst (λ n. IsAscendingFrom n (map_of (λ e. e.0) cells)) next (ascending (suc e.0) cells p.1))

numbers_fit : (keys w : ℕ) (cells : List (ℕ × Cell)) → list_all (listed_fits keys w) cells ≡ true → Each (λ e. e.1.v < 2 ^ w) cells
numbers_fit keys w [] h = tt
numbers_fit keys w (e ∷ cells) h =
    let p = and_parts (listed_fits keys w e) (list_all (listed_fits keys w) cells) h in
    (is_less e.1.v (2 ^ w) (and_parts (nat_lt e.0 keys) (cell_fits w e.1) p.0).1, numbers_fit keys w cells p.1)

keys_bound : (keys w : ℕ) (cells : List (ℕ × Cell)) → keys ≤ 2 ^ 32 → list_all (listed_fits keys w) cells ≡ true → Each (λ k. k < 2 ^ 32) (map_of (λ e. e.0) cells)
keys_bound keys w [] l h = tt
keys_bound keys w (e ∷ cells) l h =
    let p = and_parts (listed_fits keys w e) (list_all (listed_fits keys w) cells) h in
    let key = is_less e.0 keys (and_parts (nat_lt e.0 keys) (cell_fits w e.1) p.0).0 in
    (omega (arith, key, l), keys_bound keys w cells l p.1)

module _ (env : Environment) (ok : IsWellFormed env) (keyed : are_keyed env ≡ true) where
  map_is_fit : (m : ℕ) (o : Option MapType) (rest : Cell) (cells : List (ℕ × Cell)) → slice_get env.maps m ≡ o → map_fits env o rest cells ≡ true → MapFits (width_of o) rest cells
  map_is_fit m None rest cells e h = cc
  map_is_fit m (Some d) rest cells e h =
      let p = and_parts (cell_fits d.width rest) (keys_ascend 0 cells && list_all (listed_fits (key_count env d.key) d.width) cells) h in
      let q = and_parts (keys_ascend 0 cells) (list_all (listed_fits (key_count env d.key) d.width) cells) p.1 in
      record {
        width = width_is d.width (all_at (λ m. is_width m.width) env.maps m d ok.values e);
        rest_fits = is_less rest.v (2 ^ d.width) p.0;
        cells_fit = numbers_fit (key_count env d.key) d.width cells q.1;
        order = ascending 0 cells q.0;
        bound = keys_bound (key_count env d.key) d.width cells (is_at_most (key_count env d.key) (2 ^ 32) (all_at (λ m. nat_le (key_count env m.key) (2 ^ 32)) env.maps m d keyed e)) q.1;
      }

  -- the constructor is there, and its fields' types are types
  case_is : (u k : ℕ) (ps : Vals) (o : Option Data) → slice_get env.datas u ≡ o → of_case (slice_get (cases_of o) k) (have_types env ps) ≡ true
      → ((types : List Ty) → list_all (is_type env) types ≡ true → have_types env ps types ≡ true → ValuesFit env ps) → (k < length (cases_of (slice_get env.datas u))) × ValuesFit env ps
  case_is u k ps None e h all = cc
  case_is u k ps (Some d) e h all = at (slice_get d.cases k) refl h
    where
      at : (o : Option Case) → slice_get d.cases k ≡ o → of_case o (have_types env ps) ≡ true → (k < length (cases_of (slice_get env.datas u))) × ValuesFit env ps
      at None f q = cc
      at (Some c) f q = (subst (λ x. k < length (cases_of x)) (sym e) (within d.cases k c f), all (field_types c) (fields_typed env ok u k d c e f) q)

  mutual
    fits : (v : Val) (ty : Ty) → is_type env ty ≡ true → has_type env v ty ≡ true → ValueFits env v
    fits (flag b) Flag a h = tt
    fits (word w n) (Word u) a h =
        let p = and_parts (w == u) (nat_lt n (2 ^ u)) h in
        let same = number_told w u p.0 in
        (subst (λ t. IsWidth t) (sym same) (width_is u a), subst (λ t. n < 2 ^ t) (sym same) (is_less n (2 ^ u) p.1))
    fits (made t k ps) (DataTy u) a h =
        let p = and_parts (t == u) (of_case (case_at env (DataTy u) k) (have_types env ps)) h in
        let same = number_told t u p.0 in
        let is = case_is u k ps (slice_get env.datas u) refl p.1 (λ types a q. all_fit ps types a q) in
        (subst (λ t. k < case_count env t) (sym same) is.0, is.1)
    fits (map m rest cells) (MapOf n) a h =
        let p = and_parts (m == n) (map_fits env (slice_get env.maps n) rest cells) h in
        map_is_fit m (slice_get env.maps m) rest cells refl (subst (λ t. map_fits env (slice_get env.maps t) rest cells ≡ true) (sym (number_told m n p.0)) p.1)
    fits _ _ a h = cc

    all_fit : (ps : Vals) (types : List Ty) → list_all (is_type env) types ≡ true → have_types env ps types ≡ true → ValuesFit env ps
    all_fit no_val [] a h = tt
    all_fit (val_then p ps) (t ∷ types) a h =
        let q = and_parts (has_type env p t) (have_types env ps types) h in
        let b = and_parts (is_type env t) (list_all (is_type env) types) a in
        (fits p t b.0 q.0, all_fit ps types b.1 q.1)
    all_fit _ _ a h = cc

pub typed_fits : TypedFits
typed_fits env v ty ok keyed a h = fits env ok keyed v ty a h
