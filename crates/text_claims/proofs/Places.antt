-- Cells that texts name are cells that the states have.
use Rattle.std.proofs.Common.{◌≡◌, ◌∙◌, ℕ, zero, suc, ◌+◌, ◌<◌, ◌^◌, ◌==◌, Bool, true, false, List, [], ◌∷◌, Option, Some, None, map, length, option_map, refl, sym, ap, subst, arith}
use Rattle.std.specs.Prelude.{nat_lt, nat_le, IsSomeAnd, bytes_eq, slice_get, if◌then◌else◌}
use Rattle.std.proofs.lemmas.Bool.{ltb-true}
use Rattle.std.proofs.lemmas.Bool.Decides.{nat_tests}
use Rattle.spec_ir.specs.declared.ty.Ty.{Ty}
use Rattle.spec_ir.specs.declared.ty.Ty.TheVariants as ty
use Rattle.spec_ir.specs.declared.declared.MapType.{MapType}
use Rattle.spec_ir.specs.declared.spec.Machine.{Machine}
use Rattle.spec_ir.specs.Environment.{Case}
use Rattle.spec_ir.specs.Specification.{Spec}
use Rattle.spec_ir.specs.Texts.{cases_of, fields_at}
use Rattle.semantics_values.specs.declared.entry.GivenNumber.{GivenNumber}
use Rattle.semantics_values.specs.declared.entry.KeyAt.{KeyAt}
use Rattle.semantics_values.specs.declared.entry.KeyAt.TheVariants.{Whole, At}
use Rattle.semantics_values.specs.Types.{environment_of, key_count}
use Rattle.state_cell_text.specs.declared.places.Place.{Place}
use Rattle.state_cell_text.specs.declared.places.Place.TheVariants as place
use Rattle.state_cell_text.specs.Digits.{decimal_number, hex_number}
use Rattle.state_cell_text.specs.Keys.{below, case_number, key_number}
use Rattle.state_cell_text.specs.Places.{Field, cell_place, fields_in, fields_of as fields_of_case, map_place, place_at, place_from, place_of, state_fields}
use Rattle.state_cell_names.specs.Names.{CellName, Part, whole, rest, at, cell_name}
use Rattle.domain_laws.specs.declared.field.Field as of_domain
use Rattle.domain_laws.specs.declared.field.Field.TheVariants as field
use Rattle.domain_laws.specs.Entries.{GivenFits, PlaceFits, field_at}
use Rattle.domain_laws.specs.States.{behind, field_of, fields_of, map_field, state_type, types_in}
use Rattle.analysis_query_laws.specs.Laws.{IsOfCell}
use Rattle.text_claims.specs.declared.kinds.Known.{Known}
use Rattle.text_claims.specs.Cells.{at_key, cell_in, cell_of, known, known_at, of_part}

-- ---- keys
case_below : (n : ℕ) (cases : List Case) (name : List ℕ) (k : ℕ) → case_number n cases name ≡ Some k → k < n + length cases
case_below n [] name k h = cc
case_below n (c ∷ cases) name k h = by_name n c cases name k (λ e. case_below (n + 1) cases name k e) (bytes_eq c.name name) refl h where
  by_name : (n : ℕ) (c : Case) (cases : List Case) (name : List ℕ) (k : ℕ) → (case_number (n + 1) cases name ≡ Some k → k < n + 1 + length cases)
      → (b : Bool) → bytes_eq c.name name ≡ b → case_number n (c ∷ cases) name ≡ Some k → k < n + length (c ∷ cases)
  by_name n c cases name k ih true e h = let same : n ≡ k = let s = rw e at h in cc in omega (arith, same)
  by_name n c cases name k ih false e h = let less = ih (rw e at h) in omega (arith, less)

below_is : (w : ℕ) (o : Option ℕ) (k : ℕ) → below w o ≡ Some k → k < 2 ^ w
below_is w None k h = cc
below_is w (Some j) k h = by_test w j k (nat_lt j (2 ^ w)) refl h where
  by_test : (w j k : ℕ) (b : Bool) → nat_lt j (2 ^ w) ≡ b → (if nat_lt j (2 ^ w) then Some j else None) ≡ Some k → k < 2 ^ w
  by_test w j k true e h = let same : j ≡ k = let s = rw e at h in cc in subst (λ x. x < 2 ^ w) same (ltb-true j (2 ^ w) e)
  by_test w j k false e h = let s = rw e at h in cc

-- the names and types of fields of texts are those of domains
fields_of_one : (c : Option Case) → map (λ f. f.1) (fields_of_case c) ≡ fields_at c
fields_of_one None = refl
fields_of_one (Some c) = refl

module _ (spec : Spec) where
  key_below : (t : Ty) (text : List ℕ) (k : ℕ) → key_number spec t text ≡ Some k → k < key_count (environment_of spec) t
  key_below (ty.Word w) text k h = below_is w (if nat_le w 8 then decimal_number text else hex_number 8 text) k h
  key_below (ty.Data t) text k h = let less = case_below 0 (cases_of (slice_get spec.datas t)) text k h in omega (arith, less)
  key_below ty.Bool text k h = cc
  key_below (ty.Map m) text k h = cc

  -- ---- fields
  of_machine : (m : Option Machine) → behind (map (λ f. f.1) (fields_in spec m)) ≡ types_in spec m
  of_machine None = refl
  of_machine (Some m) = ap behind (fields_of_one (slice_get (cases_of (slice_get spec.datas m.state)) 0))

  both_maps : (fields : List Field) (i : ℕ) → slice_get (fields_of (environment_of spec) (map (λ f. f.1) fields)) i ≡ option_map (λ f. field_of (environment_of spec) f.1) (slice_get fields i)
  both_maps [] i = refl
  both_maps (f ∷ fields) zero = refl
  both_maps (f ∷ fields) (suc i) = both_maps fields i

  behind_first : (fields : List Field) (i : ℕ) → slice_get (fields_of (environment_of spec) (behind (map (λ f. f.1) fields))) i ≡ option_map (λ f. field_of (environment_of spec) f.1) (slice_get fields (suc i))
  behind_first [] i = refl
  behind_first (f ∷ fields) i = both_maps fields i

  abbrev fields : List of_domain.Field
  fields = (state_type spec).fields

  -- a field of texts is that field of domains
  field_is : (n : ℕ) (f : Field) → slice_get (state_fields spec) (suc n) ≡ Some f → field_at fields (suc n) ≡ Some (field_of (environment_of spec) f.1)
  field_is n f h =
      ap (λ types. slice_get (fields_of (environment_of spec) types) n) (sym (of_machine spec.machine))
      ∙ behind_first (state_fields spec) n ∙ ap (option_map (λ f. field_of (environment_of spec) f.1)) h

  -- ---- places
  abbrev PlaceIs : Option Place → Type 0
  PlaceIs None = Unit {0}
  PlaceIs (Some place.Counter) = Unit {0}
  PlaceIs (Some (place.Word n w)) = field_at fields n ≡ Some (field.Word w)
  PlaceIs (Some (place.Map n key w)) = (m : ℕ) × (default : ℕ) × (field_at fields n ≡ Some (field.Map m (key_count (environment_of spec) key) w default))

  map_is : (n m : ℕ) (o : Option MapType) → field_at fields n ≡ Some (map_field (environment_of spec) m o) → PlaceIs (map_place spec n o)
  map_is n m None e = tt
  map_is n m (Some d) e = (m, d.default, e)

  cell_is : (n : ℕ) (t : Ty) → field_at fields n ≡ Some (field_of (environment_of spec) t) → PlaceIs (cell_place spec n t)
  cell_is n (ty.Word w) e = e
  cell_is n (ty.Map m) e = map_is n m (slice_get spec.maps m) e
  cell_is n ty.Bool e = tt
  cell_is n (ty.Data t) e = tt

  place_at_is : (n : ℕ) (f : Field) → slice_get (state_fields spec) n ≡ Some f → PlaceIs (place_at spec n f.1)
  place_at_is zero f h = tt
  place_at_is (suc n) f h = by_limit n f (cell_is (suc n) f.1 (field_is n f h)) (nat_lt (suc n) (2 ^ 32)) refl where
    by_limit : (n : ℕ) (f : Field) → PlaceIs (cell_place spec (suc n) f.1) → (b : Bool) → nat_lt (suc n) (2 ^ 32) ≡ b → PlaceIs (place_at spec (suc n) f.1)
    by_limit n f h true e = let no : (suc n == 0) ≡ false = grind (arith, nat_tests) in rw (no, e) h
    by_limit n f h false e = let no : (suc n == 0) ≡ false = grind (arith, nat_tests) in rw (no, e) tt

  place_from_is : (name : List ℕ) (n : ℕ) (fs : List Field) → ((j : ℕ) → slice_get (state_fields spec) (n + j) ≡ slice_get fs j) → PlaceIs (place_from spec n fs name)
  place_from_is name n [] h = tt
  place_from_is name n (f ∷ fs) h =
      by_name name n f fs (place_at_is n f (subst (λ m. slice_get (state_fields spec) m ≡ Some f) (omega arith) (h 0)))
      (place_from_is name (n + 1) fs (λ j. subst (λ m. slice_get (state_fields spec) m ≡ slice_get fs j) (omega arith) (h (suc j)))) (bytes_eq f.0 name) refl where
        by_name : (name : List ℕ) (n : ℕ) (f : Field) (fs : List Field) → PlaceIs (place_at spec n f.1) → PlaceIs (place_from spec (n + 1) fs name) → (b : Bool) → bytes_eq f.0 name ≡ b → PlaceIs (place_from spec n (f ∷ fs) name)
        by_name name n f fs h k true e = rw e h
        by_name name n f fs h k false e = rw e k

  place_is : (name : List ℕ) → PlaceIs (place_of spec name)
  place_is name = place_from_is name 0 (state_fields spec) (λ j. ap (slice_get (state_fields spec)) (omega arith))

  -- ---- cells
  -- A cell that is known is there, and numbers of so many bits are numbers that it can have.
  abbrev KnownIs : Option Known → Type 0
  KnownIs None = Unit {0}
  KnownIs (Some k) = (given : GivenNumber) → GivenFits k.width given → IsOfCell fields k.field k.key given

  abbrev pub CellIs : Option (Option Known) → Type 0
  CellIs None = Unit {0}
  CellIs (Some k) = KnownIs k

  of_field : (o : Option of_domain.Field) (f : of_domain.Field) (key : KeyAt) (given : GivenNumber) → o ≡ Some f → PlaceFits f key given → IsSomeAnd o (λ f. PlaceFits f key given)
  of_field o f key given e h = subst (λ o. IsSomeAnd o (λ f. PlaceFits f key given)) (sym e) h

  key_is : (n w m default : ℕ) (key : Ty) → field_at fields n ≡ Some (field.Map m (key_count (environment_of spec) key) w default)
      → (o : Option ℕ) → ((k : ℕ) → o ≡ Some k → k < key_count (environment_of spec) key) → KnownIs (at_key n w o)
  key_is n w m default key e None h = tt
  key_is n w m default key e (Some k) h = λ given fits. of_field (field_at fields n) (field.Map m (key_count (environment_of spec) key) w default) (At k) given e (h k refl, fits)

  at_place : (o : Option Place) → PlaceIs o → (part : Part) → KnownIs (known_at spec o part)
  at_place None h part = tt
  at_place (Some place.Counter) h part = tt
  at_place (Some (place.Word n w)) h whole = λ given fits. of_field (field_at fields n) (field.Word w) Whole given h fits
  at_place (Some (place.Word n w)) h rest = tt
  at_place (Some (place.Word n w)) h (at text) = tt
  at_place (Some (place.Map n key w)) h whole = tt
  at_place (Some (place.Map n key w)) h rest = tt
  at_place (Some (place.Map n key w)) (m, default, e) (at text) = key_is n w m default key e (key_number spec key text) (key_below key text)

  part_is : (c : CellName) (part : Part) → CellIs (of_part spec c part)
  part_is c rest = tt
  part_is c whole = at_place (place_of spec c.name) (place_is c.name) c.part
  part_is c (at text) = at_place (place_of spec c.name) (place_is c.name) c.part

  named_is : (o : Option CellName) → CellIs (cell_of spec o)
  named_is None = tt
  named_is (Some c) = part_is c c.part

  pub cell_there : (text : List ℕ) → CellIs (cell_in spec text)
  cell_there text = named_is (cell_name text)
