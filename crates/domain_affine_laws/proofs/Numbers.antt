-- The numbers of tracked cells have 32 bits.
use Rattle.std.proofs.Common.{◌≡◌, ℕ, zero, suc, ◌^◌, ◌<◌, true, List, [], ◌∷◌, Option, Some, None, sym, subst}
use Rattle.std.specs.Prelude.{◌==◌, ◌&&◌, IsSomeAnd, nat_lt, slice_get}
use Rattle.std.specs.List.{list_all}
use Rattle.std.proofs.lemmas.Bool.{ltb-true}
use Rattle.base_trait.specs.Lists.{Each, IsAmong}
use Rattle.base_trait.proofs.Tests.{and_parts, at_choice}
use Rattle.spec_ir.specs.declared.ty.Ty.{Ty}
use Rattle.spec_ir.specs.declared.ty.Ty.TheVariants as ty
use Rattle.spec_ir.specs.declared.declared.MapType.{MapType}
use Rattle.spec_ir.specs.Environment.{Environment}
use Rattle.semantics_values.specs.declared.value.Cell.{Cell}
use Rattle.semantics_values.specs.declared.entry.KeyAt.{KeyAt}
use Rattle.semantics_values.specs.States.{State}
use Rattle.semantics_values.specs.Types.{have_types, has_type, key_count, keys_ascend, listed_fits, map_fits}
use Rattle.semantics_values.specs.Values as v
use Rattle.semantics_values.specs.Values.{Val, cell_at, vals}
use Rattle.domain_laws.specs.States.{field_of, fields_of, map_field}
use Rattle.domain_affine_element_laws.specs.Tracked.{number_at, number_in, number_of, valuation_of}
use Rattle.domain_affine_laws.specs.Tracked.{cells_in, field_cells}
use Rattle.domain_affine_laws.proofs.Tracked.{IsCellOf, are_cells, map_cell, one_less, word_cell}

-- each cell of a typed map
pub cell_small : (count w : ℕ) (rest : Cell) (cells : List (ℕ × Cell)) (k : ℕ) → rest.v < 2 ^ w → list_all (listed_fits count w) cells ≡ true → (cell_at rest cells k).v < 2 ^ w
cell_small count w rest [] k lt h = lt
cell_small count w rest (x ∷ cells) k lt h =
    let parts = and_parts (listed_fits count w x) (list_all (listed_fits count w) cells) h in
    at_choice (λ t. t.v < 2 ^ w) (x.0 == k) x.1 (cell_at rest cells k)
    (λ e. ltb-true x.1.v (2 ^ w) (and_parts (nat_lt x.0 count) (nat_lt x.1.v (2 ^ w)) parts.0).1)
    (λ e. cell_small count w rest cells k lt parts.1)

module _ (env : Environment) where
  pub map_small : (d : MapType) (rest : Cell) (cells : List (ℕ × Cell)) (k : ℕ) → map_fits env (Some d) rest cells ≡ true → (cell_at rest cells k).v < 2 ^ d.width
  map_small d rest cells k typed =
      let count = key_count env d.key in
      let p = and_parts (nat_lt rest.v (2 ^ d.width)) (keys_ascend 0 cells && list_all (listed_fits count d.width) cells) typed in
      let q = and_parts (keys_ascend 0 cells) (list_all (listed_fits count d.width) cells) p.1 in
      cell_small count d.width rest cells k (ltb-true rest.v (2 ^ d.width) p.0) q.1

  of_map : (m n : ℕ) (o : Option MapType) (rest : Cell) (cells : List (ℕ × Cell)) (key : KeyAt) → map_fits env o rest cells ≡ true → IsAmong key (field_cells (map_field env m o))
      → number_of (v.map n rest cells) key < 2 ^ 32
  of_map m n None rest cells key typed h = cc
  of_map m n (Some d) rest cells key typed h =
      let told = map_cell (key_count env d.key) d.width key h in
      let k = told.1.0 in
      subst (λ x. number_of (v.map n rest cells) x < 2 ^ 32) (sym told.1.1) (subst (λ w. (cell_at rest cells k).v < 2 ^ w) told.0 (map_small d rest cells k typed))

  of_word : (w u n : ℕ) (key : KeyAt) → has_type env (v.word u n) (ty.Word w) ≡ true → IsAmong key (field_cells (field_of env (ty.Word w))) → number_of (v.word u n) key < 2 ^ 32
  of_word w u n key typed h =
      let told = word_cell w key h in
      let parts = and_parts (u == w) (nat_lt n (2 ^ w)) typed in
      subst (λ x. number_of (v.word u n) x < 2 ^ 32) (sym told.0) (subst (λ x. n < 2 ^ x) told.1 (ltb-true n (2 ^ w) parts.1))

  of_value : (t : Ty) (p : Val) (key : KeyAt) → has_type env p t ≡ true → IsAmong key (field_cells (field_of env t)) → number_of p key < 2 ^ 32
  of_value (ty.Word w) (v.word u n) key typed h = of_word w u n key typed h
  of_value (ty.Map m) (v.map n rest cells) key typed h =
      of_map m n (slice_get env.maps m) rest cells key (and_parts (n == m) (map_fits env (slice_get env.maps m) rest cells) typed).1 h
  of_value ty.Bool p key typed h = absurd h
  of_value (ty.Data d) p key typed h = absurd h
  of_value (ty.Word w) _ key typed h = cc
  of_value (ty.Map m) _ key typed h = cc

  of_values : (i : ℕ) (types : List Ty) (ps : List Val) (key : KeyAt) → have_types env (vals ps) types ≡ true
      → IsSomeAnd (slice_get (fields_of env types) i) (λ f. IsAmong key (field_cells f)) → number_in (slice_get ps i) key < 2 ^ 32
  of_values zero [] ps key typed h = absurd h
  of_values (suc i) [] ps key typed h = absurd h
  of_values i (t ∷ types) [] key typed h = cc
  of_values zero (t ∷ types) (p ∷ ps) key typed h = of_value t p key (and_parts (has_type env p t) (have_types env (vals ps) types) typed).0 h
  of_values (suc i) (t ∷ types) (p ∷ ps) key typed h = of_values i types ps key (and_parts (has_type env p t) (have_types env (vals ps) types) typed).1 h

  module _ (types : List Ty) (s : State) (typed : have_types env (vals s.parts) types ≡ true) where
    at_cell : (n : ℕ) (key : KeyAt) → IsCellOf (fields_of env types) (n, key) → number_at s (n, key) < 2 ^ 32
    at_cell zero key h = absurd h
    at_cell (suc i) key h = subst (λ m. number_in (slice_get s.parts m) key < 2 ^ 32) (one_less i) (of_values i types s.parts key typed h)

    numbers : (cells : List (ℕ × KeyAt)) → Each (IsCellOf (fields_of env types)) cells → Each (λ n. n < 2 ^ 32) (valuation_of cells s)
    numbers [] h = tt
    numbers (c ∷ cells) h = (at_cell c.0 c.1 h.0, numbers cells h.1)

    pub valuation_small : Each (λ n. n < 2 ^ 32) (valuation_of (cells_in (fields_of env types)) s)
    valuation_small = numbers (cells_in (fields_of env types)) (are_cells (fields_of env types))
