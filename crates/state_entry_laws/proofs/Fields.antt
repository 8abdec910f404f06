-- Fields of the states of a machine that was checked.
use Rattle.std.proofs.Common.{◌≡◌, ℕ, zero, suc, ◌<◌, ◌≤◌, ◌^◌, ◌&&◌, true, List, [], ◌∷◌, Option, Some, None, length, map, slice_get, refl, sym, ◌∙◌, ap, subst, arith}
use Rattle.std.specs.Prelude.{⊤, nat_le, nat_lt}
use Rattle.std.specs.List.{list_all}
use Rattle.std.proofs.lemmas.Bool.Decides.{nat_tests}
use Rattle.std.proofs.lemmas.List.{length-map}
use Rattle.std.proofs.lemmas.Bool.{and_from as and_true, and_parts as both}
use Rattle.syntax_parser.specs.declared.tree.FieldDecl.{FieldDecl}
use Rattle.syntax_parser.specs.Tree.{Constructor, Datatype}
use Rattle.spec_ir.specs.declared.ty.Ty.{Ty}
use Rattle.spec_ir.specs.declared.ty.Ty.TheVariants.{Bool as Flag, Word, Data as DataTy, Map as MapOf}
use Rattle.spec_ir.specs.declared.declared.MapType.{MapType}
use Rattle.spec_ir.specs.declared.spec.Machine.{Machine}
use Rattle.spec_ir.specs.declared.spec.SpecUse.TheVariants as use_
use Rattle.spec_ir.specs.Environment.{Case, Data}
use Rattle.spec_ir.specs.Specification.{Spec}
use Rattle.spec_ir.specs.Texts.{cases_of}
use Rattle.spec_ir.specs.WellFormed.{is_type, is_width}
use Rattle.spec_ir.proofs.Lists.{all_at as each_at}
use Rattle.spec_declarations.specs.TypeNames.{TypeTable, types_of}
use Rattle.spec_declarations.specs.Declarations.{case_declared, data_declared, field_in}
use Rattle.spec_declarations.specs.Leaves.{datatypes}
use Rattle.spec_declarations.proofs.States.{machines_are_there, datas_are}
use Rattle.spec_names.specs.Limits.{most_fields}
use Rattle.spec_names.specs.Names.{case_names}
use Rattle.semantics_values.specs.Types.{environment_of}
use Rattle.semantics_laws.specs.Accepted.{IsAccepted, IsMachine, IsMachineIfAny, is_key_type, is_map, is_part}
use Rattle.semantics_accepted.proofs.Accepted.{checked_are_accepted}
use Rattle.state_cell_text.specs.Places.{Field, fields_in, fields_of, state_fields}
use Rattle.state_text.specs.Forms.{is_name}
use Rattle.state_text.specs.Laws.{AreCellTypes, HasFields, IsCellType, IsKeyType, IsMapType, all_differ, are_names}
use Rattle.state_text.specs.OneState.{types_behind}
use Rattle.state_entry_laws.specs.Laws.{MachinesHaveFields}
use Rattle.state_entry_laws.proofs.Accepted.{fields_behind, none_within, parts_typed}
use Rattle.state_entry_laws.proofs.Differing.{HasDifferentNames, HasFewFields, HaveDifferentNames, HaveFewFields, field_names, names_differ}
use Rattle.state_entry_laws.proofs.ParsedNames.{CasesNamed, DatasNamed, FieldsNamed, parsed_names}

-- ---- the names of a datatype that was declared

record HasFieldNames (c : Case) : Type 0 where
  pub names : are_names (map (λ f. f.0) c.fields) ≡ true
  pub few : length c.fields ≤ most_fields

abbrev HaveFieldNames : List Case → Type 0
HaveFieldNames [] = ⊤
HaveFieldNames (c ∷ cases) = HasFieldNames c × HaveFieldNames cases

record HasNames (d : Data) : Type 0 where
  pub cases : are_names (map (λ c. c.name) d.cases) ≡ true
  pub fields : HaveFieldNames d.cases

all_fields : (fields : List FieldDecl) → FieldsNamed fields → list_all is_name (field_names fields) ≡ true
all_fields [] h = refl
all_fields (f ∷ fields) h = and_true (is_name f.name.text) (list_all is_name (field_names fields)) h.0 (all_fields fields h.1)

all_cases : (cases : List Constructor) → CasesNamed cases → list_all is_name (case_names cases) ≡ true
all_cases [] h = refl
all_cases (c ∷ cases) h = and_true (is_name c.name.text) (list_all is_name (case_names cases)) h.0 (all_cases cases h.2)

module _ (types : TypeTable) where
  fields_keep : (fields : List FieldDecl) → map (λ f. f.0) (map (field_in types) fields) ≡ field_names fields
  fields_keep [] = refl
  fields_keep (f ∷ fields) = ap (λ names. f.name.text ∷ names) (fields_keep fields)

  cases_keep : (cases : List Constructor) → map (λ c. c.name) (map (case_declared types) cases) ≡ case_names cases
  cases_keep [] = refl
  cases_keep (c ∷ cases) = ap (λ names. c.name.text ∷ names) (cases_keep cases)

  case_has : (c : Constructor) → FieldsNamed c.fields → HasFewFields c → HasFieldNames (case_declared types c)
  case_has c named few = record {
    names = subst (λ names. are_names names ≡ true) (sym (fields_keep c.fields)) (and_true (list_all is_name (field_names c.fields)) (all_differ (field_names c.fields)) (all_fields c.fields named) few.names);
    few = subst (λ n. n ≤ most_fields) (sym (length-map c.fields (field_in types))) few.few;
  }

  cases_have : (cases : List Constructor) → CasesNamed cases → HaveFewFields cases → HaveFieldNames (map (case_declared types) cases)
  cases_have [] named few = tt
  cases_have (c ∷ cases) named few = (case_has c named.1 few.0, cases_have cases named.2 few.1)

  data_has : (d : Datatype) → CasesNamed d.cases → HasDifferentNames d → HasNames (data_declared types d)
  data_has d named differ = record {
    cases = subst (λ names. are_names names ≡ true) (sym (cases_keep d.cases)) (and_true (list_all is_name (case_names d.cases)) (all_differ (case_names d.cases)) (all_cases d.cases named) differ.cases);
    fields = cases_have d.cases named differ.fields;
  }

  data_at : (ds : List Datatype) (t : ℕ) (d : Data) → DatasNamed ds → HaveDifferentNames ds → slice_get (map (data_declared types) ds) t ≡ Some d → HasNames d
  data_at [] t d named differ h = absurd cc
  data_at (x ∷ ds) zero d named differ h = let same : data_declared types x ≡ d = cc in subst HasNames same (data_has x named.0 differ.0)
  data_at (x ∷ ds) (suc t) d named differ h = data_at ds t d named.1 differ.1 h

-- ---- the fields of states

one_field : (fields : List Field) (t : Ty) (parts : List Ty) → map (λ f. f.1) fields ≡ t ∷ parts → 1 ≤ length fields
one_field [] t parts h = absurd cc
one_field (f ∷ fields) t parts h = omega arith

module _ (spec : Spec) (a : IsAccepted spec) (names_of : (t : ℕ) (d : Data) → slice_get spec.datas t ≡ Some d → HasNames d) where
  names_at : (t : ℕ) (o : Option Data) → slice_get spec.datas t ≡ o → are_names (map (λ c. c.name) (cases_of o)) ≡ true
  names_at t None h = refl
  names_at t (Some d) h = (names_of t d h).cases

  key_is : (t : Ty) → is_key_type (environment_of spec) t ≡ true → IsKeyType spec t
  key_is (Word w) h =
      let p = both (is_width w) (nat_le w 32) h in
      let q = both (nat_le 1 w) (nat_le w 64) p.0 in
      (grind (arith, nat_tests, q.0), grind (arith, nat_tests, p.1))
  key_is (DataTy t) h = names_at t (slice_get spec.datas t) refl
  key_is Flag h = absurd cc
  key_is (MapOf n) h = absurd cc

  map_is : (n : ℕ) → n < length spec.maps → (o : Option MapType) → slice_get spec.maps n ≡ o → IsMapType spec o
  map_is n within None h = absurd (none_within spec.maps n within h)
  map_is n within (Some d) h =
      let is = each_at (is_map (environment_of spec)) spec.maps n d a.maps h in
      let p = both (is_key_type (environment_of spec) d.key) (is_width d.width && nat_lt d.default (2 ^ d.width)) is in
      let q = both (is_width d.width) (nat_lt d.default (2 ^ d.width)) p.1 in
      (q.0, key_is d.key p.0, grind (arith, nat_tests, q.1))

  cell_is : (t : Ty) → is_part t ≡ true → is_type (environment_of spec) t ≡ true → IsCellType spec t
  cell_is (Word w) p h = h
  cell_is (MapOf n) p h = let within : n < length spec.maps = grind (arith, nat_tests, h) in map_is n within (slice_get spec.maps n) refl
  cell_is Flag p h = absurd cc
  cell_is (DataTy t) p h = absurd cc

  cells_are : (ts : List Ty) → list_all is_part ts ≡ true → list_all (is_type (environment_of spec)) ts ≡ true → AreCellTypes spec ts
  cells_are [] p h = tt
  cells_are (t ∷ ts) p h =
      let ps = both (is_part t) (list_all is_part ts) p in
      let hs = both (is_type (environment_of spec) t) (list_all (is_type (environment_of spec)) ts) h in
      (cell_is t ps.0 hs.0, cells_are ts ps.1 hs.1)

  module _ (m : Machine) (k : IsMachine spec m) (e : spec.machine ≡ Some m) where
    fields_are : state_fields spec ≡ k.one.fields
    fields_are =
        ap (fields_in spec) e ∙ ap (λ (d : Option Data). fields_of (slice_get (cases_of d) 0)) k.states_there
        ∙ ap (λ (cases : List Case). fields_of (slice_get cases 0)) k.one_alone

    types_are : types_behind (state_fields spec) ≡ k.parts
    types_are = ap (λ (o : Option Machine). types_behind (fields_in spec o)) e ∙ fields_behind spec m a k

    has : HasFieldNames k.one
    has = (subst HaveFieldNames k.one_alone (names_of m.state k.states k.states_there).fields).0

    has_fields : HasFields spec
    has_fields = record {
      some = subst (λ (fields : List Field). 1 ≤ length fields) (sym fields_are) (one_field k.one.fields (Word 32) k.parts k.counter);
      few = subst (λ (fields : List Field). length fields ≤ 2 ^ 32) (sym fields_are) (omega (arith, has.few));
      names = subst (λ (fields : List Field). are_names (map (λ f. f.0) fields) ≡ true) (sym fields_are) has.names;
      types = subst (AreCellTypes spec) (sym types_are) (cells_are k.parts k.words_or_maps (parts_typed spec m a k));
    }

pub machines_have_fields : MachinesHaveFields
machines_have_fields source tokens end tree spec lexed parsed fine is =
    let there = machines_are_there tree fine.1.1.0 in
    let accepted = checked_are_accepted use_.Machine tree spec (tokens, end, parsed) fine is in
    let e : spec.machine ≡ Some there.0 = is.machine ∙ there.1 in
    let machine : IsMachine spec there.0 = subst (IsMachineIfAny spec) e accepted.machine in
    has_fields spec accepted
    (λ t d h. data_at (types_of tree.items) (datatypes tree.items) t d (parsed_names source tokens end tree lexed parsed) (names_differ tree fine.0)
    (subst (λ ds. slice_get ds t ≡ Some d) (is.datas ∙ datas_are (types_of tree.items) tree.items) h))
    there.0 machine e
