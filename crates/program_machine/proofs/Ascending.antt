-- In values that have a type the keys of maps ascend.
use Rattle.std.proofs.Common.{◌≡◌, ℕ, true, Option, Some, None, List, [], ◌∷◌}
use Rattle.std.specs.Prelude.{◌&&◌, ◌==◌, slice_get}
use Rattle.std.specs.List.{list_all}
use Rattle.base_trait.proofs.Tests.{and_parts}
use Rattle.spec_ir.specs.declared.declared.MapType.{MapType}
use Rattle.spec_ir.specs.declared.ty.Ty.{Ty}
use Rattle.spec_ir.specs.declared.ty.Ty.TheVariants.{Bool as Flag, Word, Data as DataTy, Map as MapOf}
use Rattle.spec_ir.specs.Environment.{Case, Environment, field_types}
use Rattle.spec_ir.specs.Texts.{case_at}
use Rattle.semantics_values.specs.declared.value.Cell.{Cell}
use Rattle.semantics_values.specs.States.{State, value_of}
use Rattle.semantics_values.specs.Types.{cell_fits, has_type, have_types, key_count, keys_ascend, listed_fits, map_fits, of_case}
use Rattle.semantics_values.specs.Values.{Val, flag, word, made, map, vals}
use Rattle.semantics_laws.specs.KeptTypes.{IsTypedState}
use Rattle.concrete_emulator.specs.Laws.{AllAscend, KeysAscend}

module _ (env : Environment) where
  cells_ascend : (declared : Option MapType) (rest : Cell) (cells : List (ℕ × Cell)) → map_fits env declared rest cells ≡ true → keys_ascend 0 cells ≡ true
  cells_ascend None rest cells h = cc
  cells_ascend (Some m) rest cells h =
      let behind = and_parts (cell_fits m.width rest) (keys_ascend 0 cells && list_all (listed_fits (key_count env m.key) m.width) cells) h in
      (and_parts (keys_ascend 0 cells) (list_all (listed_fits (key_count env m.key) m.width) cells) behind.1).0

  value_ascends : (v : Val) (ty : Ty) → has_type env v ty ≡ true → KeysAscend v
  value_ascends (flag b) ty h = tt
  value_ascends (word w n) ty h = tt
  value_ascends (made t k ps) ty h = tt
  value_ascends (map m rest cells) (MapOf u) h = cells_ascend (slice_get env.maps u) rest cells (and_parts (m == u) (map_fits env (slice_get env.maps u) rest cells) h).1
  value_ascends (map m rest cells) Flag h = cc
  value_ascends (map m rest cells) (Word w) h = cc
  value_ascends (map m rest cells) (DataTy d) h = cc

  fields_ascend : (vs : List Val) (types : List Ty) → have_types env (vals vs) types ≡ true → AllAscend vs
  fields_ascend [] types h = tt
  fields_ascend (v ∷ vs) [] h = cc
  fields_ascend (v ∷ vs) (ty ∷ types) h =
      let parts = and_parts (has_type env v ty) (have_types env (vals vs) types) h in
      (value_ascends v ty parts.0, fields_ascend vs types parts.1)

  behind_first : (v : Val) (vs : List Val) (types : List Ty) → have_types env (vals (v ∷ vs)) types ≡ true → AllAscend vs
  behind_first v vs types h = (fields_ascend (v ∷ vs) types h).1

  constructor_ascends : (v : Val) (vs : List Val) (c : Option Case) → of_case c (have_types env (vals (v ∷ vs))) ≡ true → AllAscend vs
  constructor_ascends v vs None h = cc
  constructor_ascends v vs (Some c) h = behind_first v vs (field_types c) h

  pub state_ascends : (ty : ℕ) (s : State) → IsTypedState env ty s → AllAscend s.parts
  state_ascends ty s h =
      let c = case_at env (DataTy ty) 0 in
      constructor_ascends (word 32 s.pc) s.parts c (and_parts (ty == ty) (of_case c (have_types env (vals (word 32 s.pc ∷ s.parts)))) h).1
