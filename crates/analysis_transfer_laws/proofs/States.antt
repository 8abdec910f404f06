-- State values: what their form and their type say of each other.
use Rattle.std.proofs.Common.{◌≡◌, ℕ, ◌<◌, ◌&&◌, true, List, [], ◌∷◌, Option, Some, None, slice_get, refl, sym, ap, subst, ◌∙◌}
use Rattle.std.specs.Prelude.{◌==◌}
use Rattle.std.specs.List.{list_all}
use Rattle.std.proofs.lemmas.Bool.{false≢true, eqb-true as same_number, ltb-true as is_less}
use Rattle.spec_match_compiler.proofs.Truth.{and_left, and_right, both, equal_itself}
use Rattle.base_trait.specs.Lists.{Each}
use Rattle.abstract_map_laws.specs.Maps.{Map, keys}
use Rattle.spec_ir.specs.declared.ty.Ty.{Ty}
use Rattle.spec_ir.specs.declared.ty.Ty.TheVariants.{Bool as Flag, Word, Data as DataTy, Map as MapOf}
use Rattle.spec_ir.specs.declared.declared.MapType.{MapType}
use Rattle.spec_ir.specs.declared.spec.Machine.{Machine}
use Rattle.spec_ir.specs.Environment.{Environment, field_types, key_of, key_type}
use Rattle.spec_ir.specs.Specification.{Spec}
use Rattle.spec_ir.specs.Texts.{case_at, cases_of, fields_at}
use Rattle.spec_ir.specs.WellFormed.{is_type}
use Rattle.semantics_values.specs.Types.{environment_of, key_count}
use Rattle.semantics_laws.specs.Accepted.{IsAccepted, IsMachine, is_part}
use Rattle.abstract_value_laws.specs.Abs.{Abs, Cases, Parts, word, made, map, no_case, present, no_part, part}
use Rattle.abstract_value_laws.specs.Keys.{KeysFit, PartKeysFit}
use Rattle.abstract_value_laws.specs.Types.{has_type, has_width, have_cases, have_types, of_data}
use Rattle.abstract_value_laws.proofs.Depths.{fields_typed, there}
use Rattle.domain_laws.specs.States.{behind, field_of, fields_of, map_field, number_in, state_type, state_types, types_in}
use Rattle.domain_laws.specs.Values.{AreOf, IsOf, IsStateForm}
use Rattle.analysis_transfer_laws.specs.Transfer.{counter_of}

module _ {W N : Type 0} (env : Environment) where
  -- ---- fields
  map_typed : (m : ℕ) (o : Option MapType) (x : Abs W N) → slice_get env.maps m ≡ o → is_type env (MapOf m) ≡ true → IsOf (map_field env m o) x → has_type env x (MapOf m) ≡ true
  map_typed m None x e is h = absurd (let d = there env.maps m (is_less m _ is) in let never : None ≡ Some d.0 = sym e ∙ d.1 in cc)
  map_typed m (Some d) (map n x) e is h =
      both (n == m) (has_width (slice_get env.maps m) x.width) (subst (λ k. (k == m) ≡ true) (sym h.0) (equal_itself m))
      (subst (λ o. has_width o x.width ≡ true) (sym e) (subst (λ w. (d.width == w) ≡ true) (sym h.1) (equal_itself d.width)))
  map_typed m (Some d) _ e is h = absurd h

  field_typed : (t : Ty) (x : Abs W N) → is_part t ≡ true → is_type env t ≡ true → IsOf (field_of env t) x → has_type env x t ≡ true
  field_typed (Word w) (word u x) p is h = subst (λ k. (k == w) ≡ true) (sym h) (equal_itself w)
  field_typed (MapOf m) x p is h = map_typed m (slice_get env.maps m) x refl is h
  field_typed Flag x p is h = absurd (false≢true p)
  field_typed (DataTy d) x p is h = absurd (false≢true p)
  field_typed (Word w) _ p is h = absurd h

  typed_from : (types : List Ty) (xs : Parts W N) → list_all is_part types ≡ true → list_all (is_type env) types ≡ true → AreOf (fields_of env types) xs → have_types env xs types ≡ true
  typed_from [] no_part p is h = refl
  typed_from (t ∷ types) (part x xs) p is h =
      both (has_type env x t) (have_types env xs types) (field_typed t x (and_left (is_part t) _ p) (and_left (is_type env t) _ is) h.0) (typed_from types xs (and_right (is_part t) _ p) (and_right (is_type env t) _ is) h.1)
  typed_from _ _ p is h = absurd h

  map_of_type : (m : ℕ) (o : Option MapType) (n : ℕ) (x : Map W N) → n ≡ m → has_width o x.width ≡ true → Each (λ k. k < key_count env (key_of o)) (keys x) → IsOf (map_field env m o) (map n x)
  map_of_type m None n x same h k = absurd (false≢true h)
  map_of_type m (Some d) n x same h k = (same, sym (same_number d.width x.width h), k)

  field_from : (t : Ty) (x : Abs W N) → is_part t ≡ true → has_type env x t ≡ true → KeysFit env x → IsOf (field_of env t) x
  field_from (Word w) (word u x) p h k = same_number u w h
  field_from (MapOf m) (map n x) p h k =
      let same = same_number n m (and_left (n == m) _ h) in
      map_of_type m (slice_get env.maps m) n x same (and_right (n == m) _ h) (subst (λ z. Each (λ k. k < key_count env (key_type env z)) (keys x)) same k)
  field_from Flag x p h k = absurd (false≢true p)
  field_from (DataTy d) x p h k = absurd (false≢true p)
  field_from _ _ p h k = absurd (false≢true h)

  fields_from : (types : List Ty) (xs : Parts W N) → list_all is_part types ≡ true → have_types env xs types ≡ true → PartKeysFit env xs → AreOf (fields_of env types) xs
  fields_from [] no_part p h k = tt
  fields_from (t ∷ types) (part x xs) p h k =
      (field_from t x (and_left (is_part t) _ p) (and_left (has_type env x t) _ h) k.0, fields_from types xs (and_right (is_part t) _ p) (and_right (has_type env x t) _ h) k.1)
  fields_from _ _ p h k = absurd (false≢true h)

  -- ---- keys
  map_keys : (m : ℕ) (o : Option MapType) (x : Abs W N) → slice_get env.maps m ≡ o → IsOf (map_field env m o) x → KeysFit env x
  map_keys m None (map n x) e h = subst (λ z. Each (λ k. k < key_count env (key_type env z)) (keys x)) (sym h.0) (subst (λ o. Each (λ k. k < key_count env (key_of o)) (keys x)) (sym e) h.2)
  map_keys m (Some d) (map n x) e h = subst (λ z. Each (λ k. k < key_count env (key_type env z)) (keys x)) (sym h.0) (subst (λ o. Each (λ k. k < key_count env (key_of o)) (keys x)) (sym e) h.2)
  map_keys m None _ e h = absurd h
  map_keys m (Some d) _ e h = absurd h

  field_keys : (t : Ty) (x : Abs W N) → is_part t ≡ true → IsOf (field_of env t) x → KeysFit env x
  field_keys (Word w) (word u x) p h = tt
  field_keys (MapOf m) x p h = map_keys m (slice_get env.maps m) x refl h
  field_keys Flag x p h = absurd (false≢true p)
  field_keys (DataTy d) x p h = absurd (false≢true p)
  field_keys (Word w) _ p h = absurd h

  fields_keys : (types : List Ty) (xs : Parts W N) → list_all is_part types ≡ true → AreOf (fields_of env types) xs → PartKeysFit env xs
  fields_keys [] no_part p h = tt
  fields_keys (t ∷ types) (part x xs) p h = (field_keys t x (and_left (is_part t) _ p) h.0, fields_keys types xs (and_right (is_part t) _ p) h.1)
  fields_keys _ _ p h = absurd h

pub made_typed : {W N : Type 0} (spec : Spec) (m : Machine) (is : IsMachine spec m) (cs : Cases W N)
    → has_type (environment_of spec) (made m.state cs) (DataTy m.state) ≡ (m.state == m.state) && have_cases (environment_of spec) cs (is.one ∷ [])
made_typed spec m is cs =
    ap (λ o. (m.state == m.state) && of_data o (have_cases (environment_of spec) cs)) is.states_there ∙ ap (λ ds. (m.state == m.state) && have_cases (environment_of spec) cs ds) is.one_alone

module _ (spec : Spec) (m : Machine) (e : spec.machine ≡ Some m) (is : IsMachine spec m) where
  -- the types of the fields of states
  pub state_fields : fields_at (case_at (environment_of spec) (DataTy m.state) 0) ≡ Word 32 ∷ is.parts
  state_fields = ap (λ o. fields_at (slice_get (cases_of o) 0)) is.states_there ∙ ap (λ cs. fields_at (slice_get cs 0)) is.one_alone ∙ is.counter

  pub types_are : state_types spec ≡ is.parts
  types_are = ap (types_in spec) e ∙ ap behind state_fields

  pub number_is : (state_type spec).number ≡ m.state
  number_is = ap (number_in spec) e

  -- a value of the form of states has their type
  pub form_typed : {W N : Type 0} → IsAccepted spec → (x : Abs W N) → IsStateForm (state_type spec) x → has_type (environment_of spec) x (DataTy m.state) ≡ true
  form_typed ok (made ty (present (part (word w x) xs) no_case)) h =
      let env = environment_of spec in
      let cs = present (part (word w x) xs) no_case in
      let same : ty ≡ m.state = h.0 ∙ number_is in
      let typed_types = subst (λ ts. list_all (is_type env) ts ≡ true) is.counter (fields_typed env ok.types m.state 0 is.states is.one is.states_there (ap (λ cs. slice_get cs 0) is.one_alone)) in
      let are = subst (λ ts. AreOf (fields_of env ts) xs) types_are h.2 in
      let rest = typed_from env is.parts xs is.words_or_maps (and_right (is_type env (Word 32)) _ typed_types) are in
      let all : have_types env (part (word w x) xs) (Word 32 ∷ is.parts) ≡ true = both (w == 32) (have_types env xs is.parts) (subst (λ k. (k == 32) ≡ true) (sym h.1) (equal_itself 32)) rest in
      let own : have_cases env cs (is.one ∷ []) ≡ true = both (have_types env (part (word w x) xs) (field_types is.one)) true (subst (λ ts. have_types env (part (word w x) xs) ts ≡ true) (sym is.counter) all) refl in
      subst (λ t. has_type env (made t cs) (DataTy m.state) ≡ true) (sym same) (made_typed spec m is cs ∙ both (m.state == m.state) _ (equal_itself m.state) own)
  form_typed ok _ h = absurd h

  -- a value of their type that has a counter, and whose maps list keys of their types, has their form
  pub form_from : {W N : Type 0} (x : Abs W N) (counter : ℕ × W) → has_type (environment_of spec) x (DataTy m.state) ≡ true → KeysFit (environment_of spec) x → counter_of x ≡ Some counter → IsStateForm (state_type spec) x
  form_from (made ty (present (part (word w x) xs) no_case)) counter h k e =
      let env = environment_of spec in
      let cs = present (part (word w x) xs) no_case in
      let same = same_number ty m.state (and_left (ty == m.state) _ h) in
      let own = and_right (m.state == m.state) _ (sym (made_typed spec m is cs) ∙ subst (λ t. has_type env (made t cs) (DataTy m.state) ≡ true) same h) in
      let all = subst (λ ts. have_types env (part (word w x) xs) ts ≡ true) is.counter (and_left (have_types env (part (word w x) xs) (field_types is.one)) true own) in (
        same ∙ sym number_is,
        same_number w 32 (and_left (w == 32) _ all),
        subst (λ ts. AreOf (fields_of env ts) xs) (sym types_are) (fields_from env is.parts xs is.words_or_maps (and_right (w == 32) _ all) k.0.1),
      )
  form_from _ counter h k e = absurd cc

  -- maps of a value of the form of states list keys of their types
  pub form_keys : {W N : Type 0} (x : Abs W N) → IsStateForm (state_type spec) x → KeysFit (environment_of spec) x
  form_keys (made ty (present (part (word w x) xs) no_case)) h =
      ((tt, fields_keys (environment_of spec) is.parts xs is.words_or_maps (subst (λ ts. AreOf (fields_of (environment_of spec) ts) xs) types_are h.2)), tt)
  form_keys _ h = absurd h
