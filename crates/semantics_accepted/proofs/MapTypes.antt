-- Map types without a fault have a type of keys, a width, and a default of that width.
use Rattle.std.proofs.Common.{◌≡◌, ℕ, ◌+◌, ◌^◌, ◌&&◌, Bool, true, false, Option, Some, None, option_map, List, [], ◌∷◌, length, map, get_or, slice_get, refl, sym, ap, ◌∙◌, subst}
use Rattle.std.specs.Prelude.{nat_le, nat_lt}
use Rattle.std.specs.List.{list_all}
use Rattle.std.proofs.lemmas.List.{length-map}
use Rattle.std.proofs.lemmas.Option.{slice_get-map}
use Rattle.spec_match_compiler.proofs.Truth.{and_left, and_right, both}
use Rattle.syntax_parser.specs.declared.tree.MapDecl.{MapDecl}
use Rattle.syntax_parser.specs.declared.tree.Name.{Name}
use Rattle.syntax_parser.specs.Tree as e
use Rattle.syntax_parser.specs.Tree.{Item, Datatype, Constructor}
use Rattle.spec_ir.specs.declared.ty.Ty.TheVariants.{Bool as Flag, Word, Data as DataTy, Map as MapOf}
use Rattle.spec_ir.specs.Answers.{◌then◌}
use Rattle.spec_ir.specs.WellFormed.{is_width}
use Rattle.spec_ir.proofs.Checks.{then_left, then_right, unless_none}
use Rattle.spec_declarations.specs.declared.type_names.Meaning.{Meaning}
use Rattle.spec_declarations.specs.declared.type_names.Meaning.TheVariants.{Known, BadWidth, Unknown}
use Rattle.spec_declarations.specs.TypeNames.{TypeTable, types_of, type_named, type_or_flag}
use Rattle.spec_declarations.specs.Leaves.{datatypes}
use Rattle.spec_declarations.specs.Declarations.{type_in, width_or, field_in, case_declared, data_declared, map_declared, datas_from, maps_from, declared}
use Rattle.spec_declarations.specs.Types as d
use Rattle.spec_declarations.specs.Types.{name_fault, no_fields, datatype_fault, function_fault, value_fault, default_fault, key_fault, map_fault, meant, named_fault, item_types_fault, items_types_fault, behind}
use Rattle.spec_declarations.proofs.Faultless.{meaning_fits}
use Rattle.spec_declarations.proofs.States.{datas_are}
use Rattle.semantics_laws.specs.Accepted.{is_enumeration, is_key_type, is_map}
use Rattle.semantics_accepted.proofs.Typing.{clash}

empty_cases : (types : TypeTable) (cases : List Constructor) → list_all no_fields cases ≡ true → list_all (λ c. nat_le (length c.fields) 0) (map (case_declared types) cases) ≡ true
empty_cases types [] h = refl
empty_cases types (c ∷ cases) h =
    let here : nat_le (length (map (field_in types) c.fields)) 0 ≡ true = rw (length-map c.fields (field_in types)) (and_left (no_fields c) (list_all no_fields cases) h) in
    both (nat_le (length (map (field_in types) c.fields)) 0) (list_all (λ c. nat_le (length c.fields) 0) (map (case_declared types) cases)) here (empty_cases types cases (and_right (no_fields c) (list_all no_fields cases) h))

enumeration : (types : TypeTable) (o : Option Datatype) → d.is_enumeration o ≡ true → is_enumeration (option_map (data_declared types) o) ≡ true
enumeration types None h = h
enumeration types (Some x) h = empty_cases types x.cases h

module _ (items : List Item) where
  key_is : (name : Name) (x : Meaning) → type_named (types_of items) name.text ≡ x → name_fault name x ≡ None → key_fault (datatypes items) name x ≡ None → is_key_type (declared items) (type_or_flag x) ≡ true
  key_is name (Known Flag) e h k = clash k
  key_is name (Known (Word w)) e h k = both (is_width w) (nat_le w 32) (meaning_fits items name.text (Word w) e) (unless_none (nat_le w 32) _ k)
  key_is name (Known (DataTy t)) e h k =
      let there : slice_get (datas_from (types_of items) items) t ≡ option_map (data_declared (types_of items)) (slice_get (datatypes items) t) =
      ap (λ ds. slice_get ds t) (datas_are (types_of items) items) ∙ slice_get-map (data_declared (types_of items)) (datatypes items) t in
      subst (λ o. is_enumeration o ≡ true) (sym there) (enumeration (types_of items) (slice_get (datatypes items) t) (unless_none (d.is_enumeration (slice_get (datatypes items) t)) _ k))
  key_is name (Known (MapOf m)) e h k = clash k
  key_is name BadWidth e h k = clash h
  key_is name Unknown e h k = clash h

  value_is : (m : MapDecl) (x : Meaning) → type_named (types_of items) m.value.text ≡ x → name_fault m.value x ≡ None → value_fault m.value x ≡ None → default_fault m x ≡ None
      → is_width (width_or (type_or_flag x)) && nat_lt m.default.v (2 ^ width_or (type_or_flag x)) ≡ true
  value_is m (Known Flag) e h k f = clash k
  value_is m (Known (Word w)) e h k f = both (is_width w) (nat_lt m.default.v (2 ^ w)) (meaning_fits items m.value.text (Word w) e) (unless_none (nat_lt m.default.v (2 ^ w)) _ f)
  value_is m (Known (DataTy t)) e h k f = clash k
  value_is m (Known (MapOf n)) e h k f = clash k
  value_is m BadWidth e h k f = clash h
  value_is m Unknown e h k f = clash h

  one_map : (m : MapDecl) → map_fault (types_of items) (datatypes items) m ≡ None → is_map (declared items) (map_declared (types_of items) m) ≡ true
  one_map m h =
      let a = named_fault (types_of items) m.key in
      let b = key_fault (datatypes items) m.key (meant (types_of items) m.key) in
      let c = named_fault (types_of items) m.value in
      let f = value_fault m.value (meant (types_of items) m.value) in
      let g = default_fault m (meant (types_of items) m.value) in
      let four = then_left (((a then b) then c) then f) g h in
      let three = then_left ((a then b) then c) f four in
      let two = then_left (a then b) c three in
      both (is_key_type (declared items) (type_in (types_of items) m.key)) (is_width (width_or (type_in (types_of items) m.value)) && nat_lt m.default.v (2 ^ width_or (type_in (types_of items) m.value)))
      (key_is m.key (type_named (types_of items) m.key.text) refl (then_left a b two) (then_right a b two))
      (value_is m (type_named (types_of items) m.value.text) refl (then_right (a then b) c three) (then_right ((a then b) then c) f four) (then_right (((a then b) then c) then f) g h))

  module _ (recursive large : List Bool) where
    abbrev Rest : ℕ → List Item → Type 0
    Rest n rest = items_types_fault (types_of items) (datatypes items) recursive large n rest ≡ None

    pub all_maps : (n : ℕ) (rest : List Item) → Rest n rest → list_all (is_map (declared items)) (maps_from (types_of items) rest) ≡ true
    all_maps n [] h = refl
    all_maps n (e.datatype x ∷ rest) h = all_maps (n + 1) rest (then_right (datatype_fault (types_of items) (get_or recursive n false) (get_or large n false) x) (items_types_fault (types_of items) (datatypes items) recursive large (n + 1) rest) h)
    all_maps n (e.map_type m ∷ rest) h =
        both (is_map (declared items) (map_declared (types_of items) m)) (list_all (is_map (declared items)) (maps_from (types_of items) rest))
        (one_map m (then_left (map_fault (types_of items) (datatypes items) m) (items_types_fault (types_of items) (datatypes items) recursive large n rest) h))
        (all_maps n rest (then_right (map_fault (types_of items) (datatypes items) m) (items_types_fault (types_of items) (datatypes items) recursive large n rest) h))
    all_maps n (e.function f ∷ rest) h = all_maps n rest (then_right (function_fault (types_of items) f) (items_types_fault (types_of items) (datatypes items) recursive large n rest) h)
    all_maps n (e.decode x ∷ rest) h = all_maps n rest h
