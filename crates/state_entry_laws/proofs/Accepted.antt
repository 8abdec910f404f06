-- Fields of the states of accepted machines.
use Rattle.std.proofs.Common.{◌≡◌, ℕ, zero, suc, ◌<◌, ◌^◌, ◌&&◌, true, List, [], ◌∷◌, Option, Some, None, map, length, slice_get, refl, subst, arith}
use Rattle.std.specs.Prelude.{nat_lt}
use Rattle.std.specs.List.{list_all}
use Rattle.std.proofs.lemmas.Bool.Decides.{nat_tests}
use Rattle.std.proofs.lemmas.Bool.{and_from as and_true, and_parts as both}
use Rattle.spec_ir.specs.declared.ty.Ty.{Ty}
use Rattle.spec_ir.specs.declared.ty.Ty.TheVariants.{Bool as Flag, Word, Data as DataTy, Map as MapOf}
use Rattle.spec_ir.specs.declared.declared.MapType.{MapType}
use Rattle.spec_ir.specs.declared.spec.Machine.{Machine}
use Rattle.spec_ir.specs.Environment.{Environment, field_types}
use Rattle.spec_ir.specs.Specification.{Spec}
use Rattle.spec_ir.specs.WellFormed.{is_type, is_width}
use Rattle.spec_ir.proofs.Lists.{all_at as each_at}
use Rattle.semantics_values.specs.Types.{environment_of}
use Rattle.semantics_laws.specs.Accepted.{IsAccepted, IsMachine, IsMachineIfAny, is_map, is_key_type, is_part}
use Rattle.state_cell_text.specs.Places.{Field, fields_in}
use Rattle.state_text.specs.OneState.{types_behind}
use Rattle.state_entry_laws.specs.Fitting.{has_default, is_cell}
use Rattle.state_entry_laws.specs.Laws.{AcceptedHaveCells, ReadStatesAreDescribed}
use Rattle.state_entry_laws.proofs.OneStates.{one_states_are_described}
use Rattle.state_entry_laws.proofs.Reading.{entries_fit}

pub none_within : (xs : List MapType) (m : ℕ) → m < length xs → slice_get xs m ≡ None → ⊥
none_within [] m h e = absurd (omega (arith, h))
none_within (x ∷ xs) zero h e = cc
none_within (x ∷ xs) (suc m) h e = none_within xs m (omega (arith, h)) e

module _ (env : Environment) (maps : list_all (is_map env) env.maps ≡ true) where
  default_of : (m : ℕ) → m < length env.maps → (o : Option MapType) → slice_get env.maps m ≡ o → has_default env o ≡ true
  default_of m within None there = absurd (none_within env.maps m within there)
  default_of m within (Some d) there =
      let is = each_at (is_map env) env.maps m d maps there in
      let rest = (both (is_key_type env d.key) (is_width d.width && nat_lt d.default (2 ^ d.width)) is).1 in
      (both (is_width d.width) (nat_lt d.default (2 ^ d.width)) rest).1

  cell_of : (t : Ty) → is_part t ≡ true → is_type env t ≡ true → is_cell env t ≡ true
  cell_of (Word w) p h = refl
  cell_of (MapOf m) p h = let within : m < length env.maps = grind (arith, nat_tests, h) in default_of m within (slice_get env.maps m) refl
  cell_of Flag p h = cc
  cell_of (DataTy t) p h = cc

  cells_of : (ts : List Ty) → list_all is_part ts ≡ true → list_all (is_type env) ts ≡ true → list_all (is_cell env) ts ≡ true
  cells_of [] p h = refl
  cells_of (t ∷ ts) p h =
      let ps = both (is_part t) (list_all is_part ts) p in
      let hs = both (is_type env t) (list_all (is_type env) ts) h in
      and_true (is_cell env t) (list_all (is_cell env) ts) (cell_of t ps.0 hs.0) (cells_of ts ps.1 hs.1)

pub behind : (fields : List Field) (t : Ty) (parts : List Ty) → map (λ f. f.1) fields ≡ t ∷ parts → types_behind fields ≡ parts
behind [] t parts h = cc
behind (f ∷ fields) t parts h = cc

module _ (spec : Spec) (m : Machine) (a : IsAccepted spec) (k : IsMachine spec m) where
  -- the types of the fields behind the counter are there
  pub parts_typed : list_all (is_type (environment_of spec)) k.parts ≡ true
  parts_typed =
      let env = environment_of spec in
      let cases = each_at (λ d. list_all (λ c. list_all (is_type env) (field_types c)) d.cases) spec.datas m.state k.states a.types.fields k.states_there in
      let one = (both (list_all (is_type env) (field_types k.one)) true (rw k.one_alone at cases)).0 in
      (both (is_type env (Word 32)) (list_all (is_type env) k.parts) (rw k.counter at one)).1

  pub fields_behind : types_behind (fields_in spec (Some m)) ≡ k.parts
  fields_behind = rw (k.states_there, k.one_alone) (behind k.one.fields (Word 32) k.parts k.counter)

  machine_cells : list_all (is_cell (environment_of spec)) (types_behind (fields_in spec (Some m))) ≡ true
  machine_cells = rw fields_behind (cells_of (environment_of spec) a.maps k.parts k.words_or_maps parts_typed)

pub accepted_have_cells : AcceptedHaveCells
accepted_have_cells spec m a h =
    let machine : IsMachine spec m = subst (IsMachineIfAny spec) h a.machine in
    rw h (machine_cells spec m a machine)

pub read_states_are_described : ReadStatesAreDescribed
read_states_are_described spec m bytes e s a h r o =
    let fits = entries_fit spec bytes e r in
    let is = one_states_are_described spec e s (accepted_have_cells spec m a h) fits o in
    (is, rw is.counter fits.counter)
