-- Lines of an entry that is read fit the fields of states.
use Rattle.std.proofs.Common.{◌≡◌, ℕ, zero, suc, ◌<◌, ◌≤◌, Bool, true, false, List, [], ◌∷◌, Option, Some, None, map, refl, sym, ap, ◌∙◌, subst}
use Rattle.std.specs.Prelude.{◌&&◌, ◌^◌, IsSomeAnd, nat_lt, slice_get}
use Rattle.std.specs.List.{list_all}
use Rattle.std.proofs.lemmas.Bool.{ltb-true}
use Rattle.base_trait.specs.Lists.{Each}
use Rattle.base_trait.proofs.Tests.{and_parts}
use Rattle.spec_ir.specs.declared.ty.Ty.{Ty}
use Rattle.spec_ir.specs.declared.ty.Ty.TheVariants as ty
use Rattle.spec_ir.specs.declared.declared.MapType.{MapType}
use Rattle.spec_ir.specs.declared.spec.Machine.{Machine}
use Rattle.spec_ir.specs.Environment.{Case, Environment}
use Rattle.spec_ir.specs.Specification.{Spec}
use Rattle.spec_ir.specs.Texts.{cases_of, fields_at}
use Rattle.semantics_values.specs.declared.entry.GivenNumber.{GivenNumber}
use Rattle.semantics_values.specs.declared.entry.GivenNumber.TheVariants.{One, Any, Range}
use Rattle.semantics_values.specs.declared.entry.KeyAt.{KeyAt}
use Rattle.semantics_values.specs.declared.entry.KeyAt.TheVariants.{Whole, Rest, At}
use Rattle.semantics_values.specs.declared.entry.Line.{Line}
use Rattle.semantics_values.specs.Types.{environment_of, key_count}
use Rattle.state_cell_text.specs.Places as places
use Rattle.state_text.specs.Meaning.{given_fits}
use Rattle.state_text.specs.OneState.{types_behind}
use Rattle.state_entry_laws.specs.Fitting.{field_type, line_fits, place_fits}
use Rattle.state_entry_laws.proofs.Reading.{entries_fit}
use Rattle.domain_laws.specs.declared.field.Field.{Field}
use Rattle.domain_laws.specs.Entries.{GivenFits, LineFits, LinesFit, PlaceFits, field_at}
use Rattle.domain_laws.specs.States.{behind, field_of, fields_of, map_field, state_type, state_types, types_in}
use Rattle.analysis_problems.specs.Laws.{ReadEntriesFit}
use Rattle.analysis_problems.proofs.Ordered.{AreOrdered, IsOrdered, entries_ordered}

given_is : (w : ℕ) (g : GivenNumber) → given_fits g w ≡ true → IsOrdered g → GivenFits w g
given_is w (One v) h o = ltb-true v (2 ^ w) h
given_is w Any h o = tt
given_is w (Range lo hi) h o = (o, ltb-true hi (2 ^ w) h)

module _ (env : Environment) where
  map_is : (m : ℕ) (o : Option MapType) (key : KeyAt) (g : GivenNumber) → slice_get env.maps m ≡ o → place_fits env (Some (ty.Map m)) key g ≡ true → IsOrdered g → PlaceFits (map_field env m o) key g
  map_is m None Whole g e h r = cc
  map_is m None Rest g e h r = let s = rw e at h in cc
  map_is m None (At k) g e h r = let s = rw e at h in cc
  map_is m (Some d) Whole g e h r = cc
  map_is m (Some d) Rest g e h r = given_is d.width g (rw e at h) r
  map_is m (Some d) (At k) g e h r =
      let parts = and_parts (nat_lt k (key_count env d.key)) (given_fits g d.width) (rw e at h) in
      (ltb-true k (key_count env d.key) parts.0, given_is d.width g parts.1 r)

  place_is : (t : Ty) (key : KeyAt) (g : GivenNumber) → place_fits env (Some t) key g ≡ true → IsOrdered g → PlaceFits (field_of env t) key g
  place_is (ty.Word w) Whole g h r = given_is w g h r
  place_is (ty.Word w) Rest g h r = cc
  place_is (ty.Word w) (At k) g h r = cc
  place_is (ty.Map m) key g h r = map_is m (slice_get env.maps m) key g refl h r
  place_is ty.Bool Whole g h r = cc
  place_is ty.Bool Rest g h r = cc
  place_is ty.Bool (At k) g h r = cc
  place_is (ty.Data t) Whole g h r = cc
  place_is (ty.Data t) Rest g h r = cc
  place_is (ty.Data t) (At k) g h r = cc

  at_field : (types : List Ty) (n : ℕ) (key : KeyAt) (g : GivenNumber) → place_fits env (slice_get types n) key g ≡ true → IsOrdered g → IsSomeAnd (slice_get (fields_of env types) n) (λ f. PlaceFits f key g)
  at_field [] n Whole g h r = cc
  at_field [] n Rest g h r = cc
  at_field [] n (At k) g h r = cc
  at_field (t ∷ types) zero key g h r = place_is t key g h r
  at_field (t ∷ types) (suc n) key g h r = at_field types n key g h r

  line_is : (types : List Ty) (field : ℕ) (key : KeyAt) (g : GivenNumber) → place_fits env (field_type types field) key g ≡ true → IsOrdered g → IsSomeAnd (field_at (fields_of env types) field) (λ f. PlaceFits f key g)
  line_is types zero Whole g h r = cc
  line_is types zero Rest g h r = cc
  line_is types zero (At k) g h r = cc
  line_is types (suc n) key g h r = at_field types n key g h r

  lines_are : (types : List Ty) (ls : List Line) → list_all (line_fits env types) ls ≡ true → AreOrdered ls → LinesFit (fields_of env types) ls
  lines_are types [] h r = tt
  lines_are types (l ∷ ls) h r =
      let parts = and_parts (line_fits env types l) (list_all (line_fits env types) ls) h in
      (line_is types l.field l.key l.given parts.0 r.0, lines_are types ls parts.1 r.1)

-- the types of fields behind the counter
module _ (spec : Spec) where
  behind_fields : (fields : List (List ℕ × Ty)) → types_behind fields ≡ behind (map (λ f. f.1) fields)
  behind_fields [] = refl
  behind_fields (f ∷ fields) = refl

  of_case : (c : Option Case) → types_behind (places.fields_of c) ≡ behind (fields_at c)
  of_case None = refl
  of_case (Some c) = behind_fields c.fields

  same_types : (o : Option Machine) → types_behind (places.fields_in spec o) ≡ types_in spec o
  same_types None = refl
  same_types (Some m) = of_case (slice_get (cases_of (slice_get spec.datas m.state)) 0)

pub read_entries_fit : ReadEntriesFit
read_entries_fit spec bytes e h =
    let fits = (entries_fit spec bytes e h).lines in
    lines_are (environment_of spec) (state_types spec) e.lines (subst (λ types. list_all (line_fits (environment_of spec) types) e.lines ≡ true) (same_types spec spec.machine) fits) (entries_ordered spec bytes e h)
