-- The maps of a state value are its fields.
use Rattle.std.proofs.Common.{◌≡◌, ℕ, List, [], ◌∷◌, Option, Some, None, inl, inr, refl, sym, subst, option_map, map as map_of, slice_get}
use Rattle.base_trait.specs.Algebra.{Algebra}
use Rattle.base_trait.specs.Lists.{IsAmong}
use Rattle.abstract_map_laws.specs.Maps.{Map}
use Rattle.spec_ir.specs.declared.declared.MapType.{MapType}
use Rattle.spec_ir.specs.declared.row.Arg.{Arg}
use Rattle.spec_ir.specs.declared.ty.Ty.{Ty}
use Rattle.spec_ir.specs.declared.ty.Ty.TheVariants.{Bool as Flag, Word, Data as DataTy, Map as MapOf}
use Rattle.spec_ir.specs.Environment.{Environment}
use Rattle.spec_ir.specs.Specification.{Row, Spec}
use Rattle.semantics_values.specs.Types.{environment_of}
use Rattle.semantics_values.specs.Values.{Val, vals}
use Rattle.semantics.specs.Decode.{argument_of, decoded, fields_in, instruction_of, row_met}
use Rattle.abstract_value_laws.specs.Abs.{Abs, Parts, word, made, map, no_case, present, no_part, part}
use Rattle.abstract_value_laws.specs.OfValues.{case_count, of_value, of_values}
use Rattle.domain_laws.specs.States.{field_of, fields_of, map_field, state_type, state_types}
use Rattle.domain_laws.specs.Values.{AreOf, IsOf, IsStateForm}
use Rattle.analysis_table_laws.specs.Values.{MapsAre, PartMapsAre}
use Rattle.analysis_table_laws.proofs.Steps.{one_maps}

-- ---- states
module _ {W N : Type 0} (env : Environment) (all : List Ty) where
  -- a map of one of these types
  abbrev IsOne : ℕ → Map W N → Type 0
  IsOne m x = IsAmong (MapOf m) all

  map_is : (m : ℕ) (o : Option MapType) (x : Abs W N) → IsAmong (MapOf m) all → IsOf (map_field env m o) x → MapsAre IsOne x
  map_is m None (map n x) among h = subst (λ k. IsAmong (MapOf k) all) (sym h.0) among
  map_is m (Some d) (map n x) among h = subst (λ k. IsAmong (MapOf k) all) (sym h.0) among
  map_is m None _ among h = absurd h
  map_is m (Some d) _ among h = absurd h

  field_is : (t : Ty) (x : Abs W N) → IsAmong t all → IsOf (field_of env t) x → MapsAre IsOne x
  field_is (Word w) (word u x) among h = tt
  field_is (MapOf m) x among h = map_is m (slice_get env.maps m) x among h
  field_is Flag (word u x) among h = tt
  field_is (DataTy d) (word u x) among h = tt
  field_is _ _ among h = absurd h

  fields_are : (types : List Ty) (xs : Parts W N) → ((t : Ty) → IsAmong t types → IsAmong t all) → AreOf (fields_of env types) xs → PartMapsAre IsOne xs
  fields_are [] no_part within h = tt
  fields_are (t ∷ types) (part x xs) within h = (field_is t x (within t (inl refl)) h.0, fields_are types xs (λ s k. within s (inr k)) h.1)
  fields_are _ _ within h = absurd h

pub state_maps : {W N : Type 0} (spec : Spec) (x : Abs W N) → IsStateForm (state_type spec) x → MapsAre (λ m z. IsAmong (MapOf m) (state_types spec)) x
state_maps spec (made ty (present (part (word w x) xs) no_case)) h = ((tt, fields_are (environment_of spec) (state_types spec) (state_types spec) xs (λ t k. k) h.2), tt)
state_maps spec _ h = absurd h

-- ---- an instruction has no maps: its fields are words
module _ {W N C : Type 0} (B : Algebra W N C) (c : C) (cap : ℕ) (env : Environment) (Q : ℕ → Map W N → Type 0) where
  words_are : (fields : List (ℕ × ℕ)) (args : List Arg) → PartMapsAre Q (of_values B c cap env (vals (map_of (argument_of fields) args)))
  words_are fields [] = tt
  words_are fields (a ∷ args) = (tt, words_are fields args)

  pub instruction_maps : (instr code_word : ℕ) (rows : List Row) (instruction : Val) → decoded instr rows code_word ≡ Some instruction → MapsAre Q (of_value B c cap env instruction)
  instruction_maps instr code_word rows instruction e = at (row_met code_word rows) e
    where
      at : (o : Option Row) → option_map (instruction_of instr code_word) o ≡ Some instruction → MapsAre Q (of_value B c cap env instruction)
      at None e = absurd cc
      at (Some row) e =
          let same : instruction_of instr code_word row ≡ instruction = cc in
          subst (λ v. MapsAre Q (of_value B c cap env v)) same (one_maps Q (case_count env instr) row.case _ (words_are (fields_in code_word row.parts) row.args))
