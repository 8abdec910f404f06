-- Types as shapes, and a value of each type.
use Rattle.std.proofs.Common.{◌≡◌, ℕ, ◌<◌, ◌^◌, true, ◌==◌, Option, Some, None, option_map, unwrap_or, List, [], ◌∷◌, length, map, slice_get, refl, sym, ap, ◌∙◌, subst, pow_pos}
use Rattle.std.specs.Prelude.{nat_lt}
use Rattle.std.specs.List.{list_all}
use Rattle.std.proofs.lemmas.Option.{slice_get-map, same_Some as some_same}
use Rattle.std.proofs.lemmas.List.{length-map}
use Rattle.std.proofs.lemmas.Bool.{lt-ltb as less_is, ltb-true as is_less}
use Rattle.base_trait.specs.declared.uses.Stamp.TheVariants.{At}
use Rattle.spec_match_compiler.specs.declared.shape.Shape.{Shape}
use Rattle.spec_match_compiler.specs.Values as m
use Rattle.spec_match_compiler.specs.Values.{Value, Values}
use Rattle.spec_match_compiler.specs.Shapes.{cases_of, fields_of, HasShape, HaveShapes, IsShape}
use Rattle.spec_match_compiler.proofs.Truth.{and_left, and_right, both, equal_itself}
use Rattle.spec_match_compiler.proofs.Filled.{some_value}
use Rattle.spec_ir.specs.declared.ty.Ty.{Ty}
use Rattle.spec_ir.specs.declared.ty.Ty.TheVariants.{Bool as Flag, Word, Data as DataTy, Map as MapOf}
use Rattle.spec_ir.specs.Environment.{Environment, Data, Case, field_types, shape_of, shapes_of}
use Rattle.spec_ir.specs.Texts.{cases_of as cases_in, case_at}
use Rattle.spec_ir.specs.WellFormed.{IsWellFormed, is_type}
use Rattle.spec_ir.proofs.Checks.{width_is as width_from}
use Rattle.semantics_values.specs.declared.value.Cell.{Cell}
use Rattle.semantics_values.specs.Values as v
use Rattle.semantics_values.specs.Values.{Val, Vals}
use Rattle.semantics_values.specs.Types.{of_case, map_fits, has_type, have_types}
use Rattle.semantics_laws.proofs.Bound.{fields_are}
use Rattle.semantics_laws.proofs.Terms.{map_at}

abbrev pub case_shapes : Case → List Shape
case_shapes c = map shape_of (field_types c)

module _ (env : Environment) where
  -- the shapes of the constructors of a datatype
  pub cases_shaped : (t : ℕ) → cases_of (shapes_of env) t ≡ map case_shapes (cases_in (slice_get env.datas t))
  cases_shaped t = ap (λ o. unwrap_or o []) (slice_get-map (λ d. map case_shapes d.cases) env.datas t) ∙ at (slice_get env.datas t)
    where
      at : (o : Option Data) → unwrap_or (option_map (λ d. map case_shapes d.cases) o) [] ≡ map case_shapes (cases_in o)
      at None = refl
      at (Some d) = refl

  -- those of the fields of a constructor
  pub fields_shaped : (t c : ℕ) → fields_of (shapes_of env) t c ≡ option_map case_shapes (case_at env (DataTy t) c)
  fields_shaped t c = ap (λ cs. slice_get cs c) (cases_shaped t) ∙ slice_get-map case_shapes (cases_in (slice_get env.datas t)) c

  pub shaped : (ty : Ty) → is_type env ty ≡ true → IsShape (shapes_of env) (shape_of ty)
  shaped Flag h = tt
  shaped (Word w) h = width_from w h
  shaped (DataTy t) h =
      let less = is_less t (length env.datas) h in
      let same : length (shapes_of env) ≡ length env.datas = length-map env.datas (λ d. map case_shapes d.cases) in
      subst (λ n. t < n) (sym same) less
  shaped (MapOf m) h = tt

  -- ---- a value of each type
  module _ (wf : IsWellFormed env) where
    map_value : (n : ℕ) → is_type env (MapOf n) ≡ true → (p : Val) × (has_type env p (MapOf n) ≡ true)
    map_value n h =
        let d = map_at env.maps n (is_less n (length env.maps) h) in
        let cell : Cell = record { v = 0; stamp = At 0 } in
        let small : nat_lt 0 (2 ^ d.0.width) ≡ true = less_is 0 (2 ^ d.0.width) (pow_pos d.0.width) in
        let fits : map_fits env (Some d.0) cell [] ≡ true = both (nat_lt 0 (2 ^ d.0.width)) true small refl in
        (v.map n cell [], both (n == n) (map_fits env (slice_get env.maps n) cell []) (equal_itself n) (subst (λ o. map_fits env o cell [] ≡ true) (sym d.1) fits))

    made_value : (t c : ℕ) (o : Option Case) (shapes : List Shape) → case_at env (DataTy t) c ≡ o → option_map case_shapes o ≡ Some shapes
        → ((ts : List Ty) → list_all (is_type env) ts ≡ true → map shape_of ts ≡ shapes → (ps : Vals) × (have_types env ps ts ≡ true)) → (p : Val) × (has_type env p (DataTy t) ≡ true)
    made_value t c None shapes e h go = absurd cc
    made_value t c (Some case) shapes e h go =
        let ps = go (field_types case) (fields_are env wf t c case e) (some_same (case_shapes case) shapes h) in
        (v.made t c ps.0, both (t == t) (of_case (case_at env (DataTy t) c) (have_types env ps.0)) (equal_itself t) (subst (λ o. of_case o (have_types env ps.0) ≡ true) (sym e) ps.1))

    mutual
      value_like : (x : Value) (ty : Ty) → is_type env ty ≡ true → HasShape (shapes_of env) (shape_of ty) x → (p : Val) × (has_type env p ty ≡ true)
      value_like x Flag is h = (v.flag true, refl)
      value_like x (Word w) is h = (v.word w 0, both (w == w) (nat_lt 0 (2 ^ w)) (equal_itself w) (less_is 0 (2 ^ w) (pow_pos w)))
      value_like x (MapOf n) is h = map_value n is
      value_like (m.made c xs) (DataTy t) is h = made_value t c (case_at env (DataTy t) c) h.0 refl (sym (fields_shaped t c) ∙ h.1) (λ ts are same. values_like xs ts are (subst (λ ss. HaveShapes (shapes_of env) ss xs) (sym same) h.2))
      value_like (m.flag b) (DataTy t) is h = absurd h
      value_like (m.word n) (DataTy t) is h = absurd h
      value_like (m.thing n) (DataTy t) is h = absurd h

      values_like : (xs : Values) (ts : List Ty) → list_all (is_type env) ts ≡ true → HaveShapes (shapes_of env) (map shape_of ts) xs → (ps : Vals) × (have_types env ps ts ≡ true)
      values_like m.no_value [] are h = (v.no_val, refl)
      values_like (m.value_then x xs) (t ∷ ts) are h =
          let p = value_like x t (and_left (is_type env t) (list_all (is_type env) ts) are) h.0 in
          let ps = values_like xs ts (and_right (is_type env t) (list_all (is_type env) ts) are) h.1 in
          (v.val_then p.0 ps.0, both (has_type env p.0 t) (have_types env ps.0 ts) p.1 ps.1)
      values_like m.no_value (t ∷ ts) are h = absurd h
      values_like (m.value_then x xs) [] are h = absurd h

    pub some_of : (ty : Ty) → is_type env ty ≡ true → (p : Val) × (has_type env p ty ≡ true)
    some_of ty is = let x = some_value (shapes_of env) wf.types (shape_of ty) (shaped ty is) in value_like x.0 ty is x.1
