-- The element of an entry.
use Rattle.std.proofs.Common.{◌≡◌, ℕ, Bool, true, false, List, [], ◌∷◌, Option, Some, None, suc, refl, sym, subst, arith, IsTrue, pow_pos}
use Rattle.std.specs.Prelude.{◌==◌, ◌&&◌, ◌^◌, IfSome, nat_lt, slice_get}
use Rattle.std.specs.List.{list_all}
use Rattle.std.proofs.lemmas.Bool.{ltb-false, ltb-true}
use Rattle.base_trait.specs.Algebra.{Algebra}
use Rattle.base_trait.specs.Laws.{Laws}
use Rattle.base_trait.specs.Lists.{Each}
use Rattle.base_trait.specs.declared.uses.Stamp.TheVariants as stamp
use Rattle.base_trait.proofs.Lists.{number_told}
use Rattle.base_trait.proofs.Tests.{and_parts, at_choice}
use Rattle.spec_ir.specs.declared.ty.Ty.{Ty}
use Rattle.spec_ir.specs.declared.ty.Ty.TheVariants as ty
use Rattle.spec_ir.specs.declared.declared.MapType.{MapType}
use Rattle.spec_ir.specs.Environment.{Environment}
use Rattle.semantics_values.specs.declared.value.Cell.{Cell}
use Rattle.semantics_values.specs.declared.entry.GivenNumber.{GivenNumber}
use Rattle.semantics_values.specs.declared.entry.GivenNumber.TheVariants.{One}
use Rattle.semantics_values.specs.declared.entry.KeyAt.TheVariants.{Whole, Rest, At}
use Rattle.semantics_values.specs.declared.entry.Line.{Line}
use Rattle.semantics_values.specs.Types.{have_types, has_type, key_count, keys_ascend, listed_fits, map_fits}
use Rattle.semantics_values.specs.Values as v
use Rattle.semantics_values.specs.Values.{Val, cell_at, vals}
use Rattle.semantics.specs.Entries.{AreEntryFields, IsEntryCell, IsEntryField, IsEntryMap, IsEntryMapOf, given_at, given_or, given_rest, given_word}
use Rattle.abstract_value_laws.specs.Describes.{Describes, PartsDescribe, held_at}
use Rattle.abstract_value_laws.specs.Fits.{Fits}
use Rattle.abstract_value_laws.specs.Shapes.{PartsList}
use Rattle.domain_laws.specs.declared.field.Field.{Field}
use Rattle.domain_laws.specs.declared.field.Field.TheVariants as field
use Rattle.domain_laws.specs.Entries.{GivenFits, PlaceFits}
use Rattle.domain_laws.specs.States.{field_of, fields_of, map_field}
use Rattle.domain_laws.specs.Values.{FieldsFit, IsOf}
use Rattle.domain_laws.specs.Entry.{entry_value, entry_values}
use Rattle.domain_laws.specs.Lines.{IsField, OfField, OfFields}
use Rattle.domain_laws.proofs.Described.{IsEntryHeld, given_describes, given_fits}
use Rattle.domain_laws.proofs.Lines.{given_at_fits, or_fits}
use Rattle.domain_laws.proofs.Maps.{cells_describe, cells_list, good_cells}

-- ---- what is given fits
module _ (lines : List Line) (n w : ℕ) (of : OfField n (field.Word w) lines) where
  pub word_fits : GivenFits w (given_word lines n)
  word_fits = or_fits w (given_at lines n Whole) (One 0) (given_at_fits n (field.Word w) Whole lines of) (pow_pos w)

module _ (lines : List Line) (n m bound width default : ℕ) (fine : IsField (field.Map m bound width default)) (of : OfField n (field.Map m bound width default) lines) where
  pub rest_fits : GivenFits width (given_rest lines n default)
  rest_fits = or_fits width (given_at lines n Rest) (One default) (given_at_fits n (field.Map m bound width default) Rest lines of) fine.1

-- ---- the element fits, and lists the entry alone
module _ {W N C : Type 0} (B : Algebra W N C) (L : Laws W N C B) (c : C) (cap : ℕ) (lines : List Line) where
  pub values_list : (n : ℕ) (fields : List Field) → PartsList B (stamp.Entry ∷ []) (entry_values B c cap lines n fields)
  values_list n [] = tt
  values_list n (field.Word w ∷ fields) = (tt, values_list (suc n) fields)
  values_list n (field.Map m bound width default ∷ fields) = (cells_list B L c cap n lines width (given_rest lines n default), values_list (suc n) fields)

  module _ (joins : IsTrue B.joins) where
    value_fits : (n : ℕ) (f : Field) → IsField f → OfField n f lines → IsOf f (entry_value B c cap lines n f) × Fits B c cap (entry_value B c cap lines n f)
    value_fits n (field.Word w) fine of = (refl, (fine, given_fits B L c w (given_word lines n) fine (word_fits lines n w of)))
    value_fits n (field.Map m bound width default) fine of =
        let good = good_cells B L c cap joins n m bound width default fine lines (given_rest lines n default) (rest_fits lines n m bound width default fine of) of in
        ((refl, good.of_width, good.of_keys), good.fits)

    pub values_fit : (n : ℕ) (fields : List Field) → Each IsField fields → OfFields n fields lines → FieldsFit B c cap fields (entry_values B c cap lines n fields)
    values_fit n [] fine of = (tt, tt)
    values_fit n (f ∷ fields) fine of =
        let here = value_fits n f fine.0 of.0 in
        let later = values_fit (suc n) fields fine.1 of.1 in
        ((here.0, later.0), (here.1, later.1))

-- ---- a typed map has the rest at each number that is no key
past_keys : (count w k : ℕ) (rest : Cell) (cells : List (ℕ × Cell)) → nat_lt k count ≡ false → list_all (listed_fits count w) cells ≡ true → cell_at rest cells k ≡ rest
past_keys count w k rest [] e h = refl
past_keys count w k rest (x ∷ cells) e h =
    let parts = and_parts (listed_fits count w x) (list_all (listed_fits count w) cells) h in
    at_choice (λ t. t ≡ rest) (x.0 == k) x.1 (cell_at rest cells k)
    (λ d. let same = number_told x.0 k d in let below = subst (λ i. IsTrue (nat_lt i count)) same (and_parts (nat_lt x.0 count) (nat_lt x.1.v (2 ^ w)) parts.0).0 in cc)
    (λ d. past_keys count w k rest cells e parts.1)

module _ (env : Environment) (lines : List Line) (n m : ℕ) (d : MapType) (rest : Cell) (cells : List (ℕ × Cell)) where
  abbrev f : Field
  f = field.Map m (key_count env d.key) d.width d.default

  held : (g : GivenNumber) (x : Cell) → IsEntryCell g d.width x → IsEntryHeld d.width g (record { number = x.v; stamp = x.stamp })
  held g x is = record { stamp = is.stamp; number = is.word; of_given = is.given }

  cells_given : OfField n f lines → map_fits env (Some d) rest cells ≡ true → IsEntryMap env lines n d rest cells
      → (k : ℕ) → IsEntryHeld d.width (given_or (given_at lines n (At k)) (given_rest lines n d.default)) (held_at rest cells k)
  cells_given of typed is k = by_key (nat_lt k (key_count env d.key)) refl
    where
      fit : list_all (listed_fits (key_count env d.key) d.width) cells ≡ true
      fit = (and_parts (keys_ascend 0 cells) (list_all (listed_fits (key_count env d.key) d.width) cells) (and_parts (nat_lt rest.v (2 ^ d.width)) (keys_ascend 0 cells && list_all (listed_fits (key_count env d.key) d.width) cells) typed).1).1

      -- no line names what is no key
      unnamed : (o : Option GivenNumber) → IfSome o (PlaceFits f (At k)) → nat_lt k (key_count env d.key) ≡ false → IsEntryHeld d.width (given_or o (given_rest lines n d.default)) (record { number = rest.v; stamp = rest.stamp })
      unnamed None h e = held (given_rest lines n d.default) rest is.others
      unnamed (Some g) h e = let below = h.0 in let above = ltb-false k (key_count env d.key) e in absurd (omega (arith, below, above))

      by_key : (b : Bool) → nat_lt k (key_count env d.key) ≡ b → IsEntryHeld d.width (given_or (given_at lines n (At k)) (given_rest lines n d.default)) (held_at rest cells k)
      by_key true e = held (given_or (given_at lines n (At k)) (given_rest lines n d.default)) (cell_at rest cells k) (is.each k (ltb-true k (key_count env d.key) e))
      by_key false e =
          subst (λ x. IsEntryHeld d.width (given_or (given_at lines n (At k)) (given_rest lines n d.default)) (record { number = x.v; stamp = x.stamp }))
          (sym (past_keys (key_count env d.key) d.width k rest cells e fit)) (unnamed (given_at lines n (At k)) (given_at_fits n f (At k) lines of) e)

-- ---- the element holds of each state of the entry
module _ {W N C : Type 0} (B : Algebra W N C) (L : Laws W N C B) (c : C) (cap : ℕ) (joins : IsTrue B.joins) (env : Environment) (lines : List Line) where
  map_described : (n m k : ℕ) (o : Option MapType) (rest : Cell) (cells : List (ℕ × Cell)) → IsField (map_field env m o) → OfField n (map_field env m o) lines
      → map_fits env o rest cells ≡ true → k ≡ m → IsEntryMapOf env lines n o rest cells → Describes B [] (entry_value B c cap lines n (map_field env m o)) (v.map k rest cells)
  map_described n m k None rest cells fine of typed e is = absurd is
  map_described n m k (Some d) rest cells fine of typed e is = (
    e,
    cells_describe B L c cap joins n m (key_count env d.key) d.width d.default fine [] (given_rest lines n d.default) (rest_fits lines n m (key_count env d.key) d.width d.default fine of) lines of
        (held_at rest cells) (cells_given env lines n m d rest cells of typed is),
  )

  value_described : (n : ℕ) (t : Ty) (p : Val) → IsField (field_of env t) → OfField n (field_of env t) lines → has_type env p t ≡ true → IsEntryField env lines n t p
      → Describes B [] (entry_value B c cap lines n (field_of env t)) p
  value_described n (ty.Word w) (v.word u x) fine of typed is =
      (is.0, given_describes B L c [] w x (given_word lines n) fine joins (word_fits lines n w of) is.1 is.2)
  value_described n (ty.Map m) (v.map k rest cells) fine of typed is =
      map_described n m k (slice_get env.maps m) rest cells fine of (and_parts (k == m) (map_fits env (slice_get env.maps m) rest cells) typed).1 is.0 is.1
  value_described n _ _ fine of typed is = absurd is

  pub values_described : (n : ℕ) (types : List Ty) (ps : List Val) → Each IsField (fields_of env types) → OfFields n (fields_of env types) lines → have_types env (vals ps) types ≡ true
      → AreEntryFields env lines n types ps → PartsDescribe B [] (entry_values B c cap lines n (fields_of env types)) (vals ps)
  values_described n [] [] fine of typed are = tt
  values_described n (t ∷ types) (p ∷ ps) fine of typed are =
      let parts = and_parts (has_type env p t) (have_types env (vals ps) types) typed in
      (value_described n t p fine.0 of.0 parts.0 are.0, values_described (suc n) types ps fine.1 of.1 parts.1 are.1)
  values_described n _ _ fine of typed are = absurd are
