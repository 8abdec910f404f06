-- Accepted machines have states.
use Rattle.std.proofs.Common.{◌≡◌, ℕ, zero, suc, ◌<◌, ◌≤◌, Bool, true, false, List, [], ◌∷◌, Option, Some, None, length, map, option_map, refl, sym, ap, ◌∙◌, subst, arith, pow_mono, le-leb}
use Rattle.std.specs.Prelude.{◌&&◌, ◌^◌, ◌==◌, nat_le, nat_lt, slice_get, unwrap_or}
use Rattle.std.specs.List.{list_all}
use Rattle.std.proofs.lemmas.Bool.{leb-true, ltb-true}
use Rattle.std.proofs.lemmas.Option.{slice_get-map}
use Rattle.base_trait.proofs.Tests.{and_both, and_parts}
use Rattle.spec_match_compiler.specs.Shapes.{AreTypes}
use Rattle.spec_ir.specs.declared.ty.Ty.{Ty}
use Rattle.spec_ir.specs.declared.ty.Ty.TheVariants as ty
use Rattle.spec_ir.specs.declared.declared.MapType.{MapType}
use Rattle.spec_ir.specs.declared.spec.Machine.{Machine}
use Rattle.spec_ir.specs.Environment.{Case, Data, Environment, field_types, shape_of, shapes_of}
use Rattle.spec_ir.specs.Specification.{Spec}
use Rattle.spec_ir.specs.Texts.{cases_of, fields_at}
use Rattle.spec_ir.specs.WellFormed.{is_type, is_width}
use Rattle.spec_ir.proofs.Lists.{all_at as item, map_size as map_length}
use Rattle.semantics_values.specs.Types.{environment_of, key_count}
use Rattle.semantics_laws.specs.Accepted.{IsAccepted, IsMachine, IsMachineIfAny, is_key_type, is_map, is_part}
use Rattle.abstract_value_laws.specs.TypeLaws.{are_keyed}
use Rattle.domain_laws.specs.States.{behind, field_of, fields_of, has_states, is_field, is_state_data, map_field, number_in, state_cases, state_type, types_in}
use Rattle.analysis_problems.specs.Laws.{AcceptedAreKeyed, AcceptedHaveStates}

none_within : {A : Type 0} (xs : List A) (i : ℕ) → i < length xs → slice_get xs i ≡ None → ⊥
none_within [] i h e = absurd (omega (arith, h))
none_within (x ∷ xs) zero h e = cc
none_within (x ∷ xs) (suc i) h e = none_within xs i (omega (arith, h)) e

module _ (env : Environment) (maps : list_all (is_map env) env.maps ≡ true) (keyed : are_keyed env ≡ true) where
  map_is_field : (m : ℕ) → m < length env.maps → (o : Option MapType) → slice_get env.maps m ≡ o → is_field (map_field env m o) ≡ true
  map_is_field m within None there = absurd (none_within env.maps m within there)
  map_is_field m within (Some d) there =
      let is = item (is_map env) env.maps m d maps there in
      let rest = (and_parts (is_key_type env d.key) (is_width d.width && nat_lt d.default (2 ^ d.width)) is).1 in
      let parts = and_parts (is_width d.width) (nat_lt d.default (2 ^ d.width)) rest in
      let few = item (λ k. nat_le (key_count env k.key) (2 ^ 32)) env.maps m d keyed there in
      and_both (is_width d.width) (nat_lt d.default (2 ^ d.width) && nat_le (key_count env d.key) (2 ^ 32)) parts.0 (and_both (nat_lt d.default (2 ^ d.width)) (nat_le (key_count env d.key) (2 ^ 32)) parts.1 few)

  part_is_field : (t : Ty) → is_part t ≡ true → is_type env t ≡ true → is_field (field_of env t) ≡ true
  part_is_field (ty.Word w) p h = h
  part_is_field (ty.Map m) p h = map_is_field m (ltb-true m (length env.maps) h) (slice_get env.maps m) refl
  part_is_field ty.Bool p h = cc
  part_is_field (ty.Data t) p h = cc

  parts_are_fields : (ts : List Ty) → list_all is_part ts ≡ true → list_all (is_type env) ts ≡ true → list_all is_field (fields_of env ts) ≡ true
  parts_are_fields [] p h = refl
  parts_are_fields (t ∷ ts) p h =
      let ps = and_parts (is_part t) (list_all is_part ts) p in
      let hs = and_parts (is_type env t) (list_all (is_type env) ts) h in
      and_both (is_field (field_of env t)) (list_all is_field (fields_of env ts)) (part_is_field t ps.0 hs.0) (parts_are_fields ts ps.1 hs.1)

module _ (spec : Spec) (m : Machine) (a : IsAccepted spec) (k : IsMachine spec m) (keyed : are_keyed (environment_of spec) ≡ true) where
  cases_are : cases_of (slice_get spec.datas m.state) ≡ k.one ∷ []
  cases_are = rw (k.states_there, k.one_alone) refl

  types_are : types_in spec (Some m) ≡ k.parts
  types_are = rw cases_are (ap behind k.counter)

  typed : list_all (is_type (environment_of spec)) k.parts ≡ true
  typed =
      let env = environment_of spec in
      let cases = item (λ d. list_all (λ c. list_all (is_type env) (field_types c)) d.cases) spec.datas m.state k.states a.types.fields k.states_there in
      let one = (and_parts (list_all (is_type env) (field_types k.one)) true (rw k.one_alone at cases)).0 in
      (and_parts (is_type env (ty.Word 32)) (list_all (is_type env) k.parts) (rw k.counter at one)).1

  pub machine_has_states : (is_state_data (state_cases spec (Some m)) && list_all is_field (fields_of (environment_of spec) (types_in spec (Some m)))) ≡ true
  machine_has_states =
      and_both (is_state_data (state_cases spec (Some m))) (list_all is_field (fields_of (environment_of spec) (types_in spec (Some m))))
      (rw cases_are (rw k.counter refl)) (rw types_are (parts_are_fields (environment_of spec) a.maps keyed k.parts k.words_or_maps typed))

-- ---- keys

module _ (env : Environment) (types : AreTypes (shapes_of env)) where
  same_count : (o : Option Data) → length (unwrap_or (option_map (λ d. map (λ c. map shape_of (field_types c)) d.cases) o) []) ≡ length (cases_of o)
  same_count None = refl
  same_count (Some d) = map_length (λ c. map shape_of (field_types c)) d.cases

  few_cases : (t : ℕ) → length (cases_of (slice_get env.datas t)) < 2 ^ 32
  few_cases t =
      subst (λ n. n < 2 ^ 32) (ap (λ o. length (unwrap_or o [])) (slice_get-map (λ d. map (λ c. map shape_of (field_types c)) d.cases) env.datas t) ∙ same_count (slice_get env.datas t)) (types.cases t)

  few_keys : (t : Ty) → is_key_type env t ≡ true → nat_le (key_count env t) (2 ^ 32) ≡ true
  few_keys (ty.Word w) h = let narrow = leb-true w 32 (and_parts (is_width w) (nat_le w 32) h).1 in le-leb (2 ^ w) (2 ^ 32) (pow_mono narrow)
  few_keys (ty.Data t) h = let few = few_cases t in le-leb (length (cases_of (slice_get env.datas t))) (2 ^ 32) (omega (arith, few))
  few_keys ty.Bool h = cc
  few_keys (ty.Map m) h = cc

  maps_are_keyed : (ms : List MapType) → list_all (is_map env) ms ≡ true → list_all (λ m. nat_le (key_count env m.key) (2 ^ 32)) ms ≡ true
  maps_are_keyed [] h = refl
  maps_are_keyed (m ∷ ms) h =
      let parts = and_parts (is_map env m) (list_all (is_map env) ms) h in
      let key = (and_parts (is_key_type env m.key) (is_width m.width && nat_lt m.default (2 ^ m.width)) parts.0).0 in
      and_both (nat_le (key_count env m.key) (2 ^ 32)) (list_all (λ k. nat_le (key_count env k.key) (2 ^ 32)) ms) (few_keys m.key key) (maps_are_keyed ms parts.1)

pub accepted_are_keyed : AcceptedAreKeyed
accepted_are_keyed spec a = maps_are_keyed (environment_of spec) a.types.types (environment_of spec).maps a.maps

pub accepted_have_states : AcceptedHaveStates
accepted_have_states spec m a h =
    let machine : IsMachine spec m = subst (IsMachineIfAny spec) h a.machine in
    rw h (machine_has_states spec m a machine (accepted_are_keyed spec a))
