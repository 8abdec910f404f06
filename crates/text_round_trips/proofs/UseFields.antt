-- The fields that uses are of.
use Rattle.std.proofs.Common.{◌≡◌, ◌∙◌, ◌⊎◌, ℕ, Bool, true, false, cond, not, List, [], ◌∷◌, ◌++◌, map, Option, Some, None, IsTrue, slice_get, refl, sym, ap, subst, inl, inr, bytes_eq}
use Rattle.std.specs.Prelude.{◌==◌}
use Rattle.std.specs.List.{list_all, list_any}
use Rattle.std.specs.Option.{option_and_then}
use Rattle.std.proofs.lemmas.Bool.{and_parts, cases_Bool, not-true, or_parts}
use Rattle.std.proofs.lemmas.Option.{none-some, same_Some}
use Rattle.std.proofs.lemmas.Slice.Eq.{bytes_eq-Decides}
use Rattle.base_trait.specs.Lists.{IsAmong}
use Rattle.base_trait.proofs.Lists.{number_itself, number_told}
use Rattle.spec_ir.specs.declared.spec.Machine.{Machine}
use Rattle.spec_ir.specs.declared.declared.MapType.{MapType}
use Rattle.spec_ir.specs.declared.ty.Ty.{Ty}
use Rattle.spec_ir.specs.declared.ty.Ty.TheVariants.{Bool as Flag, Word, Data as DataTy, Map as MapOf}
use Rattle.spec_ir.specs.Environment.{Case, key_of}
use Rattle.spec_ir.specs.Specification.{Spec}
use Rattle.spec_ir.specs.Texts.{cases_of}
use Rattle.spec_declarations.specs.MachineRules.{are_state_fields}
use Rattle.domain_laws.specs.States.{begins_with_counter, is_field, is_state_data, state_cases, state_type, state_types}
use Rattle.state_cell_text.specs.Keys.{keys_of}
use Rattle.state_cell_text.specs.Places.{Field, fields_in, fields_of, state_fields}
use Rattle.state_text.specs.Forms.{is_name}
use Rattle.state_text.specs.Laws.{AreCellTypes, IsCellType, IsKeyType, IsMapType, all_differ}
use Rattle.state_text.specs.OneState.{types_behind}
use Rattle.text_part_readers.proofs.Fitting.{types_are}
use Rattle.text_part_readers.specs.Cells.{behind_counter}
use Rattle.text_tables.specs.Blocks.{field_of_map, is_map}
use Rattle.text_table_reader.specs.Ends.{field_named, map_of}
use Rattle.text_round_trips.specs.Fields.{HasUseTexts}

-- ---- map types

is_map_told : (m : ℕ) (t : Ty) → IsTrue (is_map m t) → t ≡ MapOf m
is_map_told m (MapOf n) h = ap MapOf (number_told n m h)
is_map_told m Flag h = absurd (let bad : false ≡ true = h in cc)
is_map_told m (Word w) h = absurd (let bad : false ≡ true = h in cc)
is_map_told m (DataTy d) h = absurd (let bad : false ≡ true = h in cc)

is_map_itself : (m : ℕ) (t : Ty) → t ≡ MapOf m → IsTrue (is_map m t)
is_map_itself m t e = subst (λ s. IsTrue (is_map m s)) (sym e) (number_itself m)

map_of_told : (f : Field) (m : ℕ) → map_of f ≡ Some m → f.1 ≡ MapOf m
map_of_told (name, MapOf n) m e = ap MapOf (same_Some n m e)
map_of_told (name, Flag) m e = absurd (none-some m e)
map_of_told (name, Word w) m e = absurd (none-some m e)
map_of_told (name, DataTy d) m e = absurd (none-some m e)

pub map_of_is : (f : Field) (m : ℕ) → f.1 ≡ MapOf m → map_of f ≡ Some m
map_of_is (name, t) m e = subst (λ s. map_of (name, s) ≡ Some m) (sym e) refl

-- none of those, where there is none of them and one more
any_front : (seen : List ℕ) (n m : ℕ) → list_any (λ k. k == m) (seen ++ n ∷ []) ≡ false → (list_any (λ k. k == m) seen ≡ false) × ((n == m) ≡ false)
any_front [] n m h = (refl, (or_parts (n == m) false h).0)
any_front (s ∷ seen) n m h =
    let both = or_parts (s == m) (list_any (λ k. k == m) (seen ++ n ∷ [])) h in
    let rest = any_front seen n m both.1 in
    (rw both.0 rest.0, rest.1)

-- a map type that stands behind others stands once
map_once : (seen : List ℕ) (types : List Ty) (m : ℕ) → are_state_fields seen types ≡ true → IsAmong (MapOf m) types → list_any (λ k. k == m) seen ≡ false
map_once seen [] m h k = absurd k
map_once seen (Flag ∷ types) m h k = absurd (let bad : false ≡ true = h in cc)
map_once seen (DataTy d ∷ types) m h k = absurd (let bad : false ≡ true = h in cc)
map_once seen (Word w ∷ types) m h (inl e) = absurd (cc)
map_once seen (Word w ∷ types) m h (inr k) = map_once seen types m h k
map_once seen (MapOf n ∷ types) m h k = elim (cases_Bool (list_any (λ j. j == n) seen)) [
  | inl e ↦ absurd (let bad : false ≡ true = rw e at h in cc)
  | inr e ↦ at k (λ j. map_once (seen ++ n ∷ []) types m (rw e at h) j) e
]
  where
    at : IsAmong (MapOf m) (MapOf n ∷ types) → (IsAmong (MapOf m) types → list_any (λ k. k == m) (seen ++ n ∷ []) ≡ false) → list_any (λ j. j == n) seen ≡ false → list_any (λ k. k == m) seen ≡ false
    at (inl same) rest e = let numbers : m ≡ n = cc in subst (λ z. list_any (λ j. j == z) seen ≡ false) (sym numbers) e
    at (inr k) rest e = (any_front seen n m (rest k)).0

-- ---- fields by their map types and by their names

-- one of the fields is this
abbrev pub IsFieldOf : Field → List Field → Type 0
IsFieldOf f [] = ⊥
IsFieldOf f (g ∷ fields) = (f ≡ g) ⊎ IsFieldOf f fields

pub named_is : (name : List ℕ) (fields : List Field) (f : Field) → field_named name fields ≡ Some f → (f.0 ≡ name) × IsFieldOf f fields
named_is name [] f h = absurd (none-some f h)
named_is name (g ∷ fields) f h = elim (cases_Bool (bytes_eq g.0 name)) [
  | inl e ↦
      let same : g ≡ f = same_Some g f (rw e at h) in
      (subst (λ (x : Field). x.0 ≡ name) same ((bytes_eq-Decides g.0 name).0 e), inl (sym same))
  | inr e ↦ let more = named_is name fields f (rw e at h) in (more.0, inr more.1)
]

pub of_map_is : (m : ℕ) (fields : List Field) (f : Field) → field_of_map m fields ≡ Some f → (f.1 ≡ MapOf m) × IsFieldOf f fields
of_map_is m [] f h = absurd (none-some f h)
of_map_is m (g ∷ fields) f h = elim (cases_Bool (is_map m g.1)) [
  | inl e ↦
      let same : g ≡ f = same_Some g f (rw e at h) in
      (subst (λ (x : Field). x.1 ≡ MapOf m) same (is_map_told m g.1 e), inl (sym same))
  | inr e ↦ let more = of_map_is m fields f (rw e at h) in (more.0, inr more.1)
]

-- the type of a field is among their types
type_among : (f : Field) (fields : List Field) → IsFieldOf f fields → IsAmong f.1 (map (λ g. g.1) fields)
type_among f [] h = absurd h
type_among f (g ∷ fields) (inl e) = inl (ap (λ (x : Field). x.1) e)
type_among f (g ∷ fields) (inr h) = inr (type_among f fields h)

-- where no map type stands twice, a field that is a map is the first of its type
first_of_type : (seen : List ℕ) (fields : List Field) (f : Field) (m : ℕ) → are_state_fields seen (map (λ g. g.1) fields) ≡ true → IsFieldOf f fields → f.1 ≡ MapOf m → field_of_map m fields ≡ Some f
first_of_type seen [] f m h k e = absurd k
first_of_type seen (g ∷ fields) f m h (inl same) e = rw (is_map_itself m g.1 (ap (λ (x : Field). x.1) (sym same) ∙ e)) (ap Some (sym same))
first_of_type seen ((name, Flag) ∷ fields) f m h (inr k) e = absurd (let bad : false ≡ true = h in cc)
first_of_type seen ((name, DataTy d) ∷ fields) f m h (inr k) e = absurd (let bad : false ≡ true = h in cc)
first_of_type seen ((name, Word w) ∷ fields) f m h (inr k) e = first_of_type seen fields f m h k e
first_of_type seen ((name, MapOf n) ∷ fields) f m h (inr k) e = elim (cases_Bool (list_any (λ j. j == n) seen)) [
  | inl was ↦ absurd (let bad : false ≡ true = rw was at h in cc)
  | inr was ↦
      let rest : are_state_fields (seen ++ n ∷ []) (map (λ (g : Field). g.1) fields) ≡ true = rw was at h in
      let among : IsAmong (MapOf m) (map (λ (g : Field). g.1) fields) = subst (λ t. IsAmong t (map (λ (g : Field). g.1) fields)) e (type_among f fields k) in
      let apart : (n == m) ≡ false = (any_front seen n m (map_once (seen ++ n ∷ []) (map (λ (g : Field). g.1) fields) m rest among)).1 in
      rw apart (first_of_type (seen ++ n ∷ []) fields f m rest k e)
]

-- the name of a field is among their names
name_apart : (name : List ℕ) (fields : List Field) (f : Field) → list_any (bytes_eq name) (map (λ g. g.0) fields) ≡ false → IsFieldOf f fields → bytes_eq name f.0 ≡ false
name_apart name [] f h k = absurd k
name_apart name (g ∷ fields) f h (inl e) = subst (λ (x : Field). bytes_eq name x.0 ≡ false) (sym e) (or_parts (bytes_eq name g.0) (list_any (bytes_eq name) (map (λ (x : Field). x.0) fields)) h).0
name_apart name (g ∷ fields) f h (inr k) = name_apart name fields f (or_parts (bytes_eq name g.0) (list_any (bytes_eq name) (map (λ (x : Field). x.0) fields)) h).1 k

-- where names differ, a field is the first of its name
first_of_name : (fields : List Field) (f : Field) → all_differ (map (λ g. g.0) fields) ≡ true → IsFieldOf f fields → field_named f.0 fields ≡ Some f
first_of_name [] f h k = absurd k
first_of_name (g ∷ fields) f h (inl e) = rw ((bytes_eq-Decides g.0 f.0).1 (ap (λ (x : Field). x.0) (sym e))) (ap Some (sym e))
first_of_name (g ∷ fields) f h (inr k) =
    let both = and_parts (not (list_any (bytes_eq g.0) (map (λ (x : Field). x.0) fields))) (all_differ (map (λ (x : Field). x.0) fields)) h in
    let apart = name_apart g.0 fields f (not-true (list_any (bytes_eq g.0) (map (λ (x : Field). x.0) fields)) both.0) k in
    rw apart (first_of_name fields f both.1 k)

-- each of the names is a name
name_is : (fields : List Field) (f : Field) → list_all is_name (map (λ g. g.0) fields) ≡ true → IsFieldOf f fields → is_name f.0 ≡ true
name_is [] f h k = absurd k
name_is (g ∷ fields) f h (inl e) = subst (λ (x : Field). is_name x.0 ≡ true) (sym e) (and_parts (is_name g.0) (list_all is_name (map (λ (x : Field). x.0) fields)) h).0
name_is (g ∷ fields) f h (inr k) = name_is fields f (and_parts (is_name g.0) (list_all is_name (map (λ (x : Field). x.0) fields)) h).1 k

-- the first field of a map type that is one of these types
has_of_map : (m : ℕ) (fields : List Field) → IsAmong (MapOf m) (map (λ g. g.1) fields) → (f : Field) × (field_of_map m fields ≡ Some f)
has_of_map m [] h = absurd h
has_of_map m (g ∷ fields) h = at (is_map m g.1) refl h (λ k. has_of_map m fields k)
  where
    at : (test : Bool) → is_map m g.1 ≡ test → IsAmong (MapOf m) (map (λ (x : Field). x.1) (g ∷ fields)) → (IsAmong (MapOf m) (map (λ (x : Field). x.1) fields) → (f : Field) × (field_of_map m fields ≡ Some f))
        → (f : Field) × (field_of_map m (g ∷ fields) ≡ Some f)
    at true e k more = (g, ap (λ test. cond test (Some g) (field_of_map m fields)) e)
    at false e (inl same) more = absurd (let own : is_map m g.1 ≡ true = is_map_itself m g.1 (sym same) in let bad : false ≡ true = sym e ∙ own in cc)
    at false e (inr k) more = let found = more k in (found.0, ap (λ test. cond test (Some g) (field_of_map m fields)) e ∙ found.1)

-- ---- the fields of states

-- The counter, and the fields behind it.
record HasCounter (fields : List Field) : Type 0 where
  counter : Field
  others : List Field
  are : fields ≡ counter ∷ others
  number : counter.1 ≡ Word 32

list_counter : (fields : List Field) → begins_with_counter (map (λ f. f.1) fields) ≡ true → HasCounter fields
list_counter [] h = absurd (let bad : false ≡ true = h in cc)
list_counter ((name, Word w) ∷ fields) h = record { counter = (name, Word w); others = fields; are = refl; number = ap Word (number_told w 32 h) }
list_counter ((name, Flag) ∷ fields) h = absurd (let bad : false ≡ true = h in cc)
list_counter ((name, DataTy d) ∷ fields) h = absurd (let bad : false ≡ true = h in cc)
list_counter ((name, MapOf m) ∷ fields) h = absurd (let bad : false ≡ true = h in cc)

case_counter : (cases : List Case) → is_state_data cases ≡ true → HasCounter (fields_of (slice_get cases 0))
case_counter [] h = absurd (let bad : false ≡ true = h in cc)
case_counter (c ∷ []) h = list_counter c.fields h
case_counter (c ∷ d ∷ cases) h = absurd (let bad : false ≡ true = h in cc)

machine_counter : (spec : Spec) (machine : Option Machine) → is_state_data (state_cases spec machine) ≡ true → HasCounter (fields_in spec machine)
machine_counter spec None h = absurd (let bad : false ≡ true = h in cc)
machine_counter spec (Some m) h = case_counter (cases_of (slice_get spec.datas m.state)) h

behind_are : (fields : List Field) (c : Field) (others : List Field) → fields ≡ c ∷ others → map (λ f. f.1) (behind_counter fields) ≡ map (λ f. f.1) others
behind_are fields c others e = ap (λ (list : List Field). map (λ f. f.1) (behind_counter list)) e

types_behind_are : (fields : List Field) → types_behind fields ≡ map (λ f. f.1) (behind_counter fields)
types_behind_are [] = refl
types_behind_are (f ∷ fields) = refl

-- a cell type among several
cell_type : (spec : Spec) (t : Ty) (types : List Ty) → AreCellTypes spec types → IsAmong t types → IsCellType spec t
cell_type spec t [] h k = absurd k
cell_type spec t (u ∷ types) h (inl e) = subst (IsCellType spec) (sym e) h.0
cell_type spec t (u ∷ types) h (inr k) = cell_type spec t types h.1 k

key_type_of : (spec : Spec) (found : Option MapType) → IsMapType spec found → IsKeyType spec (key_of found)
key_type_of spec None h = absurd h
key_type_of spec (Some d) h = h.1

module _ (spec : Spec) (has : HasUseTexts spec) where
  counter_first : HasCounter (state_fields spec)
  counter_first = machine_counter spec spec.machine (and_parts (is_state_data (state_cases spec spec.machine)) (list_all is_field (state_type spec).fields) has.states).0

  types_of_others : map (λ (f : Field). f.1) counter_first.others ≡ state_types spec
  types_of_others = sym (behind_are (state_fields spec) counter_first.counter counter_first.others counter_first.are) ∙ types_are spec

  -- a field that is a map is none but one behind the counter
  behind_first : (f : Field) (m : ℕ) → f.1 ≡ MapOf m → IsFieldOf f (state_fields spec) → IsFieldOf f counter_first.others
  behind_first f m e h = at (subst (IsFieldOf f) counter_first.are h)
    where
      at : IsFieldOf f (counter_first.counter ∷ counter_first.others) → IsFieldOf f counter_first.others
      at (inl same) = absurd (let bad : Word 32 ≡ MapOf m = sym counter_first.number ∙ ap (λ (x : Field). x.1) (sym same) ∙ e in cc)
      at (inr k) = k

  -- The field of a name, where it is a map.
  pub record MapField (name : List ℕ) (m : ℕ) (f : Field) : Type 0 where
    pub same_name : f.0 ≡ name
    pub type_is : f.1 ≡ MapOf m
    pub first : field_of_map m (state_fields spec) ≡ Some f
    pub among : IsAmong (MapOf m) (state_types spec)

  others_first : (f : Field) (m : ℕ) → f.1 ≡ MapOf m → IsFieldOf f counter_first.others → field_of_map m (state_fields spec) ≡ Some f
  others_first f m e h =
      let behind = first_of_type [] counter_first.others f m (subst (λ types. are_state_fields [] types ≡ true) (sym types_of_others) has.maps) h e in
      subst (λ fields. field_of_map m fields ≡ Some f) (sym counter_first.are)
      (subst (λ t. cond (is_map m t) (Some counter_first.counter) (field_of_map m counter_first.others) ≡ Some f) (sym counter_first.number) behind)

  -- what a name and a map tell
  pub field_told : (name : List ℕ) (m : ℕ) → option_and_then map_of (field_named name (state_fields spec)) ≡ Some m → (f : Field) × MapField name m f
  field_told name m h = from (field_named name (state_fields spec)) refl h
    where
      from : (o : Option Field) → field_named name (state_fields spec) ≡ o → option_and_then map_of o ≡ Some m → (f : Field) × MapField name m f
      from None is e = absurd (none-some m e)
      from (Some f) is e =
          let named = named_is name (state_fields spec) f is in
          let type_is = map_of_told f m e in
          let behind = behind_first f m type_is named.1 in
          let among : IsAmong f.1 (state_types spec) = subst (IsAmong f.1) types_of_others (type_among f counter_first.others behind) in
          (f, record { same_name = named.0; type_is = type_is; first = others_first f m type_is behind; among = subst (λ t. IsAmong t (state_types spec)) type_is among })

  -- What is written of a map that is a field.
  pub record WrittenField (m : ℕ) : Type 0 where
    pub field : Field
    pub first : field_of_map m (state_fields spec) ≡ Some field
    pub type_is : field.1 ≡ MapOf m
    pub named : field_named field.0 (state_fields spec) ≡ Some field
    pub name : is_name field.0 ≡ true
    pub keys : IsKeyType spec (keys_of spec (MapOf m))

  pub field_written : (m : ℕ) → IsAmong (MapOf m) (state_types spec) → WrittenField m
  field_written m h =
      let behind = has_of_map m counter_first.others (subst (IsAmong (MapOf m)) (sym types_of_others) h) in
      let of_map = of_map_is m counter_first.others behind.0 behind.1 in
      let own : IsFieldOf behind.0 (state_fields spec) = subst (IsFieldOf behind.0) (sym counter_first.are) (inr of_map.1) in
      let names = and_parts (list_all is_name (map (λ (f : Field). f.0) (state_fields spec))) (all_differ (map (λ (f : Field). f.0) (state_fields spec))) has.fields.names in
      let types : types_behind (state_fields spec) ≡ state_types spec = types_behind_are (state_fields spec) ∙ types_are spec in
      record {
        field = behind.0;
        first = others_first behind.0 m of_map.0 of_map.1;
        type_is = of_map.0;
        named = first_of_name (state_fields spec) behind.0 names.1 own;
        name = name_is (state_fields spec) behind.0 names.0 own;
        keys = key_type_of spec (slice_get spec.maps m) (cell_type spec (MapOf m) (state_types spec) (subst (AreCellTypes spec) types has.fields.types) h);
      }
