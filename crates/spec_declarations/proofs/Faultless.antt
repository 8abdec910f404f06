-- What items without faults of types declare.
use Rattle.std.proofs.Common.{◌≡◌, ℕ, zero, suc, ◌+◌, Bool, true, false, not, Some, None, List, [], ◌∷◌, map, length, get_or, slice_get, refl, sym, subst, arith}
use Rattle.std.specs.List.{list_all}
use Rattle.std.proofs.lemmas.Bool.{and_from as both}
use Rattle.syntax_parser.specs.declared.tree.Name.{Name}
use Rattle.syntax_parser.specs.declared.tree.FieldDecl.{FieldDecl}
use Rattle.syntax_parser.specs.declared.tree.MapDecl.{MapDecl}
use Rattle.syntax_parser.specs.Tree as e
use Rattle.syntax_parser.specs.Tree.{Item, Datatype, Constructor, Function}
use Rattle.spec_ir.specs.declared.ty.Ty.{Ty}
use Rattle.spec_ir.specs.declared.ty.Ty.TheVariants.{Bool as Flag, Word, Data as DataTy, Map as MapOf}
use Rattle.spec_ir.specs.declared.spec_error.SpecError.{SpecError}
use Rattle.spec_ir.specs.Answers.{unless, ◌then◌}
use Rattle.spec_ir.specs.Environment.{field_types}
use Rattle.spec_ir.specs.WellFormed.{is_type, is_width, is_signature}
use Rattle.spec_ir.proofs.Checks.{then_left, then_right}
use Rattle.spec_declarations.specs.declared.type_names.Meaning.{Meaning}
use Rattle.spec_declarations.specs.declared.type_names.Meaning.TheVariants.{Known, BadWidth, Unknown}
use Rattle.spec_declarations.specs.Declarations.{type_in, field_in, case_declared, signature_declared, datas_from, maps_from, signatures_from, declared, width_or}
use Rattle.spec_declarations.specs.Leaves.{datatypes}
use Rattle.spec_declarations.specs.TypeNames.{types_of, type_named, type_or_flag}
use Rattle.spec_declarations.specs.Types.{name_fault, named_fault, field_types_fault, case_types_fault, datatype_fault, function_fault, value_fault, default_fault, key_fault, map_fault, meant, items_types_fault}
use Rattle.spec_declarations.proofs.Named.{is_within, named_fits}

some_none : {A : Type 0} (e : SpecError) → Some e ≡ None → A
some_none e h = absurd cc

pub not_faulty : (r : Bool) (e : SpecError) → unless (not r) e ≡ None → r ≡ false
not_faulty false e h = refl
not_faulty true e h = some_none e h

named_of : (m : Meaning) (name : Name) → name_fault name m ≡ None → (t : Ty) × (m ≡ Known t)
named_of (Known t) name h = (t, refl)
named_of BadWidth name h = some_none _ h
named_of Unknown name h = some_none _ h

module _ (items : List Item) where
  is_type_within : (t : Ty) → is_within (length (datas_from (types_of items) items)) (length (maps_from (types_of items) items)) t ≡ true → is_type (declared items) t ≡ true
  is_type_within Flag h = refl
  is_type_within (Word w) h = h
  is_type_within (DataTy d) h = h
  is_type_within (MapOf m) h = h

  -- a type that a name means is there
  pub meaning_fits : (text : List ℕ) (t : Ty) → type_named (types_of items) text ≡ Known t → is_type (declared items) t ≡ true
  meaning_fits text t h = is_type_within t (named_fits (types_of items) items text t h)

  pub type_fits : (name : Name) → named_fault (types_of items) name ≡ None → is_type (declared items) (type_in (types_of items) name) ≡ true
  type_fits name h =
      let n = named_of (type_named (types_of items) name.text) name h in
      subst (λ m. is_type (declared items) (type_or_flag m) ≡ true) (sym n.1) (meaning_fits name.text n.0 n.1)

  fields_fit : (fields : List FieldDecl) → field_types_fault (types_of items) fields ≡ None → list_all (is_type (declared items)) (map (λ f. f.1) (map (field_in (types_of items)) fields)) ≡ true
  fields_fit [] h = refl
  fields_fit (f ∷ fields) h =
      let here = then_left (named_fault (types_of items) f.ty) (field_types_fault (types_of items) fields) h in
      let later = then_right (named_fault (types_of items) f.ty) (field_types_fault (types_of items) fields) h in
      both _ _ (type_fits f.ty here) (fields_fit fields later)

  parameters_fit : (fields : List FieldDecl) → field_types_fault (types_of items) fields ≡ None → list_all (is_type (declared items)) (map (λ p. type_in (types_of items) p.ty) fields) ≡ true
  parameters_fit [] h = refl
  parameters_fit (f ∷ fields) h =
      let here = then_left (named_fault (types_of items) f.ty) (field_types_fault (types_of items) fields) h in
      let later = then_right (named_fault (types_of items) f.ty) (field_types_fault (types_of items) fields) h in
      both _ _ (type_fits f.ty here) (parameters_fit fields later)

  cases_fit : (cases : List Constructor) → case_types_fault (types_of items) cases ≡ None → list_all (λ c. list_all (is_type (declared items)) (field_types c)) (map (case_declared (types_of items)) cases) ≡ true
  cases_fit [] h = refl
  cases_fit (c ∷ cases) h =
      let here = then_left (field_types_fault (types_of items) c.fields) (case_types_fault (types_of items) cases) h in
      let later = then_right (field_types_fault (types_of items) c.fields) (case_types_fault (types_of items) cases) h in
      both _ _ (fields_fit c.fields here) (cases_fit cases later)

  value_fits : (m : Meaning) (name : Name) → type_named (types_of items) name.text ≡ m → name_fault name m ≡ None → value_fault name m ≡ None → is_width (width_or (type_or_flag m)) ≡ true
  value_fits (Known Flag) name is h k = some_none _ k
  value_fits (Known (Word w)) name is h k = meaning_fits name.text (Word w) is
  value_fits (Known (DataTy d)) name is h k = some_none _ k
  value_fits (Known (MapOf m)) name is h k = some_none _ k
  value_fits BadWidth name is h k = some_none _ h
  value_fits Unknown name is h k = some_none _ h

  module _ (datas : List Datatype) (recursive large : List Bool) where
    abbrev Rest : ℕ → List Item → Type 0
    Rest d rest = items_types_fault (types_of items) datas recursive large d rest ≡ None

    cases_of_data : (r l : Bool) (x : Datatype) → datatype_fault (types_of items) r l x ≡ None → case_types_fault (types_of items) x.cases ≡ None
    cases_of_data r l x h = then_right _ (case_types_fault (types_of items) x.cases) h

    pub datas_fit : (d : ℕ) (rest : List Item) → Rest d rest → list_all (λ x. list_all (λ c. list_all (is_type (declared items)) (field_types c)) x.cases) (datas_from (types_of items) rest) ≡ true
    datas_fit d [] h = refl
    datas_fit d (e.datatype x ∷ rest) h =
        both _ _ (cases_fit x.cases (cases_of_data (get_or recursive d false) (get_or large d false) x (then_left _ (items_types_fault (types_of items) datas recursive large (d + 1) rest) h)))
        (datas_fit (d + 1) rest (then_right (datatype_fault (types_of items) (get_or recursive d false) (get_or large d false) x) (items_types_fault (types_of items) datas recursive large (d + 1) rest) h))
    datas_fit d (e.map_type m ∷ rest) h = datas_fit d rest (then_right (map_fault (types_of items) datas m) (items_types_fault (types_of items) datas recursive large d rest) h)
    datas_fit d (e.function f ∷ rest) h = datas_fit d rest (then_right (function_fault (types_of items) f) (items_types_fault (types_of items) datas recursive large d rest) h)
    datas_fit d (e.decode x ∷ rest) h = datas_fit d rest h

    map_fits : (m : MapDecl) → map_fault (types_of items) datas m ≡ None → is_width (width_or (type_in (types_of items) m.value)) ≡ true
    map_fits m h =
        let k = named_fault (types_of items) m.key in
        let key = key_fault datas m.key (meant (types_of items) m.key) in
        let v = named_fault (types_of items) m.value in
        let value = value_fault m.value (meant (types_of items) m.value) in
        let four = then_left (((k then key) then v) then value) (default_fault m (meant (types_of items) m.value)) h in
        let named = then_right (k then key) v (then_left ((k then key) then v) value four) in
        value_fits (type_named (types_of items) m.value.text) m.value refl named (then_right ((k then key) then v) value four)

    pub maps_fit : (d : ℕ) (rest : List Item) → Rest d rest → list_all (λ m. is_width m.width) (maps_from (types_of items) rest) ≡ true
    maps_fit d [] h = refl
    maps_fit d (e.datatype x ∷ rest) h = maps_fit (d + 1) rest (then_right (datatype_fault (types_of items) (get_or recursive d false) (get_or large d false) x) (items_types_fault (types_of items) datas recursive large (d + 1) rest) h)
    maps_fit d (e.map_type m ∷ rest) h =
        both _ _ (map_fits m (then_left (map_fault (types_of items) datas m) (items_types_fault (types_of items) datas recursive large d rest) h))
        (maps_fit d rest (then_right (map_fault (types_of items) datas m) (items_types_fault (types_of items) datas recursive large d rest) h))
    maps_fit d (e.function f ∷ rest) h = maps_fit d rest (then_right (function_fault (types_of items) f) (items_types_fault (types_of items) datas recursive large d rest) h)
    maps_fit d (e.decode x ∷ rest) h = maps_fit d rest h

    function_fits : (f : Function) → function_fault (types_of items) f ≡ None → is_signature (declared items) (signature_declared (types_of items) f) ≡ true
    function_fits f h =
        both _ _ (parameters_fit f.params (then_left (field_types_fault (types_of items) f.params) (named_fault (types_of items) f.result_type) h))
        (type_fits f.result_type (then_right (field_types_fault (types_of items) f.params) (named_fault (types_of items) f.result_type) h))

    pub signatures_fit : (d : ℕ) (rest : List Item) → Rest d rest → list_all (is_signature (declared items)) (signatures_from (types_of items) rest) ≡ true
    signatures_fit d [] h = refl
    signatures_fit d (e.datatype x ∷ rest) h = signatures_fit (d + 1) rest (then_right (datatype_fault (types_of items) (get_or recursive d false) (get_or large d false) x) (items_types_fault (types_of items) datas recursive large (d + 1) rest) h)
    signatures_fit d (e.map_type m ∷ rest) h = signatures_fit d rest (then_right (map_fault (types_of items) datas m) (items_types_fault (types_of items) datas recursive large d rest) h)
    signatures_fit d (e.function f ∷ rest) h =
        both _ _ (function_fits f (then_left (function_fault (types_of items) f) (items_types_fault (types_of items) datas recursive large d rest) h))
        (signatures_fit d rest (then_right (function_fault (types_of items) f) (items_types_fault (types_of items) datas recursive large d rest) h))
    signatures_fit d (e.decode x ∷ rest) h = signatures_fit d rest h

    -- a datatype doesn't contain itself, and the types of its fields are there
    pub data_fine : (d t : ℕ) (rest : List Item) (x : Datatype) → Rest d rest → slice_get (datatypes rest) t ≡ Some x → (get_or recursive (d + t) false ≡ false) × (case_types_fault (types_of items) x.cases ≡ None)
    data_fine d t [] x h is = absurd (nothing is)
      where
        nothing : None ≡ Some x → ⊥
        nothing q = cc
    data_fine d zero (e.datatype y ∷ rest) x h is =
        let fault = then_left (datatype_fault (types_of items) (get_or recursive d false) (get_or large d false) y) (items_types_fault (types_of items) datas recursive large (d + 1) rest) h in
        subst (λ z. (get_or recursive (d + 0) false ≡ false) × (case_types_fault (types_of items) z.cases ≡ None)) (same is) (
          subst (λ n. get_or recursive n false ≡ false) plus (not_faulty (get_or recursive d false) _ (then_left _ _ (then_left _ (case_types_fault (types_of items) y.cases) fault))),
          cases_of_data (get_or recursive d false) (get_or large d false) y fault,
        )
      where
        same : Some y ≡ Some x → y ≡ x
        same q = cc

        plus : d ≡ d + 0
        plus = omega arith
    data_fine d (suc t) (e.datatype y ∷ rest) x h is =
        let r = data_fine (d + 1) t rest x (then_right (datatype_fault (types_of items) (get_or recursive d false) (get_or large d false) y) (items_types_fault (types_of items) datas recursive large (d + 1) rest) h) is in
        (subst (λ n. get_or recursive n false ≡ false) plus r.0, r.1)
      where
        plus : d + 1 + t ≡ d + suc t
        plus = omega arith
    data_fine d t (e.map_type m ∷ rest) x h is = data_fine d t rest x (then_right (map_fault (types_of items) datas m) (items_types_fault (types_of items) datas recursive large d rest) h) is
    data_fine d t (e.function f ∷ rest) x h is = data_fine d t rest x (then_right (function_fault (types_of items) f) (items_types_fault (types_of items) datas recursive large d rest) h) is
    data_fine d t (e.decode y ∷ rest) x h is = data_fine d t rest x h is
