-- Values that have a type, of an accepted specification, and what stands for them.
use Rattle.std.proofs.Common.{◌≡◌, ℕ, zero, suc, ◌<◌, ◌≤◌, ◌^◌, length, get_or, true, List, [], ◌∷◌, Option, Some, None, map, slice_get, refl, sym, subst, arith, inr}
use Rattle.std.specs.Prelude.{◌&&◌, nat_le, nat_lt}
use Rattle.std.specs.List.{list_all}
use Rattle.std.proofs.lemmas.Bool.{le-leb as at_most_is}
use Rattle.base_trait.proofs.Tests.{and_both, and_parts}
use Rattle.base_trait.specs.declared.uses.Stamp.{Stamp}
use Rattle.base_concrete.specs.Instance.{concrete_laws}
use Rattle.base_concrete.specs.Meaning.{concrete}
use Rattle.spec_ir.specs.declared.ty.Ty.{Ty}
use Rattle.spec_ir.specs.Environment.{Environment, Signature, key_of}
use Rattle.spec_ir.specs.Specification.{Fun, Spec}
use Rattle.spec_ir.specs.WellFormed.{is_signature, is_type}
use Rattle.spec_ir.proofs.Lists.{all_at as one_of_all, all_from}
use Rattle.semantics_values.specs.Types.{environment_of, has_type as has_concrete_type, have_types as have_concrete_types, key_count}
use Rattle.semantics_values.specs.Values.{Val, vals}
use Rattle.semantics_values.specs.Views.{val}
use Rattle.semantics_values.specs.declared.value.Value.{Value}
use Rattle.semantics_laws.specs.Accepted.{IsAccepted}
use Rattle.abstract_value_laws.specs.Abs.{Abs, parts}
use Rattle.abstract_value_laws.specs.Fits.{Fits, PartsFit}
use Rattle.abstract_value_laws.specs.TypeLaws.{are_keyed}
use Rattle.abstract_value_laws.specs.OfValues.{ValueFits, ValuesFit, of_value}
use Rattle.abstract_value_laws.specs.Types.{has_type, have_types}
use Rattle.abstract_value_laws.proofs.Concrete.{value_is_fit, value_is_typed}
use Rattle.abstract_value_laws.proofs.Depths.{within}
use Rattle.abstract_value_laws.proofs.Typed.{typed_fits}
use Rattle.abstract_semantics.specs.Terms.{params_in}
use Rattle.abstract_semantics.proofs.Called.{keys_fine}
use Rattle.abstract_semantics.proofs.Plain.{signed}
use Rattle.abstract_map_laws.specs.Laws.{HasRoom}
use Rattle.concrete_calls.specs.Laws.{AllStandFor, AreArgumentsFor, StandsFor, room}
use Rattle.concrete_calls.proofs.Single.{value_stands}

has_room : HasRoom concrete room
has_room = inr (omega arith)

module _ (spec : Spec) (ok : IsAccepted spec) where
  abbrev env : Environment
  env = environment_of spec

  keyed : are_keyed env ≡ true
  keyed = all_from (λ m. nat_le (key_count env m.key) (2 ^ 32)) spec.maps (λ k m e.
      at_most_is (key_count env m.key) (2 ^ 32) (subst (λ o. key_count env (key_of o) ≤ 2 ^ 32) e (keys_fine spec ok k (within spec.maps k m e)).1))

  pub value_fits : (v : Val) (ty : Ty) → is_type env ty ≡ true → has_concrete_type env v ty ≡ true → ValueFits env v
  value_fits v ty is typed = typed_fits env v ty ok.types keyed is typed

  -- the value that stands for one that has a type
  pub record IsStanding (v : Val) (ty : Ty) : Type 0 where
    pub stands : StandsFor (of_value concrete tt room env v) v
    pub typed : has_type env (of_value concrete tt room env v) ty ≡ true
    pub fits : Fits concrete tt room (of_value concrete tt room env v)

  pub is_standing : (v : Val) (ty : Ty) → is_type env ty ≡ true → has_concrete_type env v ty ≡ true → IsStanding v ty
  is_standing v ty is typed =
      let fits = value_fits v ty is typed in
      record { stands = value_stands env v fits; typed = value_is_typed concrete tt room env v ty typed; fits = value_is_fit concrete concrete_laws tt room env v has_room fits }

  -- ---- several
  pub values_fit : (vs : List Val) (types : List Ty) → list_all (is_type env) types ≡ true → have_concrete_types env (vals vs) types ≡ true → ValuesFit env (vals vs)
  values_fit [] [] is typed = tt
  values_fit [] (t ∷ types) is typed = absurd cc
  values_fit (v ∷ vs) [] is typed = absurd cc
  values_fit (v ∷ vs) (t ∷ types) is typed =
      let first = and_parts (is_type env t) (list_all (is_type env) types) is in
      let has = and_parts (has_concrete_type env v t) (have_concrete_types env (vals vs) types) typed in
      (value_fits v t first.0 has.0, values_fit vs types first.1 has.1)

  record AreStanding (vs : List Val) (types : List Ty) : Type 0 where
    stand : AllStandFor (map (of_value concrete tt room env) vs) vs
    typed : have_types env (parts (map (of_value concrete tt room env) vs)) types ≡ true
    fit : PartsFit concrete tt room (parts (map (of_value concrete tt room env) vs))

  are_standing : (vs : List Val) (types : List Ty) → list_all (is_type env) types ≡ true → have_concrete_types env (vals vs) types ≡ true → AreStanding vs types
  are_standing [] [] is typed = record { stand = tt; typed = refl; fit = tt }
  are_standing [] (t ∷ types) is typed = absurd cc
  are_standing (v ∷ vs) [] is typed = absurd cc
  are_standing (v ∷ vs) (t ∷ types) is typed =
      let first = and_parts (is_type env t) (list_all (is_type env) types) is in
      let has = and_parts (has_concrete_type env v t) (have_concrete_types env (vals vs) types) typed in
      let one = is_standing v t first.0 has.0 in
      let more = are_standing vs types first.1 has.1 in
      record {
        stand = (one.stands, more.stand);
        typed = and_both (has_type env (of_value concrete tt room env v) t) (have_types env (parts (map (of_value concrete tt room env) vs)) types) one.typed more.typed;
        fit = (one.fits, more.fit);
      }

  pub are_types : (f : ℕ) (fun : Fun) → slice_get spec.funs f ≡ Some fun → list_all (is_type env) fun.params ≡ true
  are_types f fun there =
      let signature = one_of_all (is_signature env) env.funs f _ ok.types.signatures (signed spec f fun there) in
      (and_parts (list_all (is_type env) fun.params) (is_type env fun.result_type) signature).0

  -- arguments of a function, as values that stand for them
  pub arguments_for : (f : ℕ) (fun : Fun) (vs : List Val) → slice_get spec.funs f ≡ Some fun → have_concrete_types env (vals vs) fun.params ≡ true → AreArgumentsFor spec f fun (map (of_value concrete tt room env) vs) vs
  arguments_for f fun vs there typed =
      let all = are_standing vs fun.params (are_types f fun there) typed in
      record {
        there = there;
        arguments = record { typed = subst (λ o. have_types env (parts (map (of_value concrete tt room env) vs)) (params_in o) ≡ true) (sym there) all.typed; fit = all.fit };
        stand = all.stand;
        typed = typed;
      }

-- one of values that fit
pub fits_at : (env : Environment) (xs : List Value) (i : ℕ) (x : Value) → x ≡ get_or xs i x → i < length xs → ValuesFit env (vals (map val xs)) → ValueFits env (val x)
fits_at env [] i x e lt h = absurd (omega (arith, lt))
fits_at env (y ∷ xs) zero x e lt h = subst (λ z. ValueFits env (val z)) (sym e) h.0
fits_at env (y ∷ xs) (suc i) x e lt h = fits_at env xs i x e (omega (arith, lt)) h.1
