-- State values.
use Rattle.std.proofs.Common.{◌≡◌, ℕ, ◌<◌, ◌^◌, true, List, [], ◌∷◌, Option, Some, None, refl, arith}
use Rattle.std.specs.Prelude.{◌==◌}
use Rattle.base_trait.proofs.Tests.{and_parts}
use Rattle.spec_ir.specs.declared.ty.Ty.{Ty}
use Rattle.spec_ir.specs.declared.ty.Ty.TheVariants as ty
use Rattle.spec_ir.specs.declared.spec.Machine.{Machine}
use Rattle.spec_ir.specs.Environment.{Case, field_types}
use Rattle.spec_ir.specs.Specification.{Spec}
use Rattle.spec_ir.specs.Texts.{case_at, fields_at}
use Rattle.std.specs.List.{list_all}
use Rattle.semantics_values.specs.declared.entry.KeyAt.{KeyAt}
use Rattle.semantics_values.specs.States.{State, value_of}
use Rattle.semantics_values.specs.Types.{environment_of, has_type, have_types, of_case}
use Rattle.semantics_values.specs.Values as v
use Rattle.semantics_values.specs.Values.{vals}
use Rattle.abstract_value_laws.specs.Abs.{Abs, Parts, word, made, no_case, present, part}
use Rattle.abstract_value_laws.specs.Describes.{Describes, PartsDescribe}
use Rattle.domain_laws.specs.States.{IsState, StateType, behind, has_states, is_field, is_state_data, number_in, state_cases, state_type, state_types, types_in}
use Rattle.domain_laws.specs.Values.{FieldsFit, IsStateForm, IsStateValue}
use Rattle.domain_laws.specs.Calls.{fields_of, made_state}
use Rattle.domain_affine_base.specs.Meaning.{affine}
use Rattle.domain_affine_base.specs.declared.word.Word.{Word}
use Rattle.domain_affine_base.specs.declared.word.Word.TheVariants.{Const}

-- ---- the fields of a state have their types
module _ (spec : Spec) (s : State) where
  by_types : (types : List Ty) → have_types (environment_of spec) (vals (v.word 32 s.pc ∷ s.parts)) types ≡ true → have_types (environment_of spec) (vals s.parts) (behind types) ≡ true
  by_types [] h = cc
  by_types (t ∷ types) h = (and_parts (has_type (environment_of spec) (v.word 32 s.pc) t) (have_types (environment_of spec) (vals s.parts) types) h).1

  by_case : (o : Option Case) → of_case o (have_types (environment_of spec) (vals (v.word 32 s.pc ∷ s.parts))) ≡ true → have_types (environment_of spec) (vals s.parts) (behind (fields_at o)) ≡ true
  by_case None h = cc
  by_case (Some c) h = by_types (field_types c) h

  by_machine : (o : Option Machine) → is_state_data (state_cases spec o) ≡ true → has_type (environment_of spec) (value_of (number_in spec o) s) (ty.Data (number_in spec o)) ≡ true
      → have_types (environment_of spec) (vals s.parts) (types_in spec o) ≡ true
  by_machine None is h = cc
  by_machine (Some m) is h =
      by_case (case_at (environment_of spec) (ty.Data m.state) 0)
      (and_parts (m.state == m.state) (of_case (case_at (environment_of spec) (ty.Data m.state) 0) (have_types (environment_of spec) (vals (v.word 32 s.pc ∷ s.parts)))) h).1

  pub parts_typed : has_states spec ≡ true → IsState spec s → have_types (environment_of spec) (vals s.parts) (state_types spec) ≡ true
  parts_typed has h = by_machine spec.machine (and_parts (is_state_data (state_cases spec spec.machine)) (list_all is_field (state_type spec).fields) has).0 h

module _ (cells : List (ℕ × KeyAt)) (cap : ℕ) (t : StateType) where
  -- ---- opening
  pub state_fits : (pc : ℕ) (xs : Parts Word (Unit {0})) → pc < 2 ^ 32 → FieldsFit affine cells cap t.fields xs → IsStateValue affine cells cap t (made_state t.number (Const pc) xs)
  state_fits pc xs lt fit = ((refl, refl, fit.0), ((((omega arith, omega arith), (lt, tt)), fit.1), tt))

  pub state_describes : (valuation : List ℕ) (xs : Parts Word (Unit {0})) (s : State) → s.pc < 2 ^ 32 → PartsDescribe affine valuation xs (vals s.parts)
      → Describes affine valuation (made_state t.number (Const s.pc) xs) (value_of t.number s)
  state_describes valuation xs s lt h = (refl, ((refl, (refl, lt)), h))

  -- ---- closing
  pub behind_fit : (x : Abs Word (Unit {0})) → IsStateValue affine cells cap t x → FieldsFit affine cells cap t.fields (fields_of x)
  behind_fit (made ty (present (part (word w c) xs) no_case)) h = (h.0.2, h.1.0.1)
  behind_fit _ h = absurd h.0

  pub behind_describe : (valuation : List ℕ) (x : Abs Word (Unit {0})) (s : State) → IsStateForm t x → Describes affine valuation x (value_of t.number s) → PartsDescribe affine valuation (fields_of x) (vals s.parts)
  behind_describe valuation (made ty (present (part (word w c) xs) no_case)) s h d = d.1.1
  behind_describe valuation _ s h d = absurd h
