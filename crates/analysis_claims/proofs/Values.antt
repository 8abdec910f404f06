-- The values of fields, one by one.
use Rattle.std.proofs.Common.{◌≡◌, ℕ, zero, suc, ◌-◌, ◌<◌, ◌≤◌, ◌^◌, get_or, List, [], ◌∷◌, length, map, Some, None, refl, sym, ap, subst, arith, ◌⊎◌, inl, inr}
use Rattle.std.specs.Prelude.{◌==◌, IsSomeAnd, slice_get}
use Rattle.base_trait.specs.Algebra.{Algebra}
use Rattle.base_trait.proofs.Tests.{at_choice}
use Rattle.abstract_map_laws.specs.Maps.{cell_in}
use Rattle.abstract_map_laws.specs.Cells.{CellFits}
use Rattle.semantics_values.specs.declared.entry.GivenNumber.{GivenNumber}
use Rattle.semantics_values.specs.declared.entry.KeyAt.{KeyAt}
use Rattle.semantics_values.specs.declared.entry.KeyAt.TheVariants.{Whole, Rest, At}
use Rattle.abstract_value_laws.specs.Abs.{Abs, Parts, word, map as map_of, no_part, part, parts}
use Rattle.abstract_value_laws.specs.Fits.{Fits, PartsFit}
use Rattle.domain_laws.specs.declared.field.Field.{Field}
use Rattle.domain_laws.specs.declared.field.Field.TheVariants as field
use Rattle.domain_laws.specs.Entries.{GivenFits, PlaceFits}
use Rattle.domain_laws.specs.Values.{AreOf, IsOf}
use Rattle.abstract_value.specs.View.{abs}
use Rattle.abstract_value.specs.declared.value.AbstractValue.{AbstractValue}
use Rattle.analysis_query_laws.specs.Cells.{value_behind, value_in, word_in, word_of}
use Rattle.analysis_query_laws.specs.Laws.{IsOfCell}
use Rattle.base_trait.specs.Lists.{Each}
use Rattle.abstract_map_laws.specs.declared.cell.AbstractCell.{AbstractCell}
use Rattle.analysis_claims.specs.Words.{HasWordFor}

module _ {X W N C : Type 0} where
  behind_found : (values : List (AbstractValue X W N C)) (i : ℕ) (v : AbstractValue X W N C) → v ≡ get_or values i v → i < length values → value_behind (parts (map abs values)) i ≡ Some (abs v)
  behind_found [] i v e lt = absurd (omega (arith, lt))
  behind_found (x ∷ xs) zero v e lt = ap (λ y. Some (abs y)) (sym e)
  behind_found (x ∷ xs) (suc i) v e lt = behind_found xs i v e (omega (arith, lt))

  behind_missing : (values : List (AbstractValue X W N C)) (i : ℕ) → length values ≤ i → value_behind (parts (map abs values)) i ≡ None
  behind_missing [] i past = refl
  behind_missing (x ∷ xs) zero past = absurd (omega (arith, past))
  behind_missing (x ∷ xs) (suc i) past = behind_missing xs i (omega (arith, past))

  pub found_in : (values : List (AbstractValue X W N C)) (n : ℕ) (v : AbstractValue X W N C) → v ≡ get_or values (n - 1) v → n - 1 < length values → 0 < n → value_in (parts (map abs values)) n ≡ Some (abs v)
  found_in values zero v e lt positive = absurd (omega (arith, positive))
  found_in values (suc n) v e lt positive = let one : suc n - 1 ≡ n = omega arith in behind_found values n v (subst (λ i. v ≡ get_or values i v) one e) (subst (λ i. i < length values) one lt)

  pub missing_in : (values : List (AbstractValue X W N C)) (n : ℕ) → length values < n → value_in (parts (map abs values)) n ≡ None
  missing_in values zero past = absurd (omega (arith, past))
  missing_in values (suc n) past = behind_missing values n (omega (arith, past))

  pub nothing_in : (values : List (AbstractValue X W N C)) (n : ℕ) → (n ≡ 0) ⊎ ((n ≡ 0 → ⊥) × (length values < n)) → value_in (parts (map abs values)) n ≡ None
  nothing_in values n (inl e) = ap (λ i. value_in (parts (map abs values)) i) e
  nothing_in values n (inr h) = missing_in values n h.1

module _ {X W N C : Type 0} (B : Algebra W N C) (c : C) (cap : ℕ) where
  pub fits_at : (values : List (AbstractValue X W N C)) (i : ℕ) (v : AbstractValue X W N C) → v ≡ get_or values i v → i < length values → PartsFit B c cap (parts (map abs values)) → Fits B c cap (abs v)
  fits_at [] i v e lt h = absurd (omega (arith, lt))
  fits_at (x ∷ xs) zero v e lt h = subst (λ y. Fits B c cap (abs y)) (sym e) h.0
  fits_at (x ∷ xs) (suc i) v e lt h = fits_at xs i v e (omega (arith, lt)) h.1

-- ---- numbers that are given of a cell are numbers of the width of its word
module _ {W N C : Type 0} (B : Algebra W N C) (c : C) (cap : ℕ) (key : KeyAt) (given : GivenNumber) where
  cell_fits : (w k : ℕ) (rest : AbstractCell W N) (cells : List (ℕ × AbstractCell W N)) → CellFits B c w rest → Each (λ e. CellFits B c w e.1) cells → CellFits B c w (cell_in rest cells k)
  cell_fits w k rest [] h g = h
  cell_fits w k rest (e ∷ cells) h g = at_choice (CellFits B c w) (e.0 == k) e.1 (cell_in rest cells k) (λ _. g.0) (λ _. cell_fits w k rest cells h g.1)

  value_has : (key : KeyAt) (f : Field) (x : Abs W N) → IsOf f x → Fits B c cap x → PlaceFits f key given → HasWordFor B c given (word_of (Some x) key)
  value_has Whole (field.Word w) (word u x) of fits place = record { width = fits.0; fits = fits.1; numbers = subst (λ z. GivenFits z given) (sym of) place }
  value_has Rest (field.Word w) (word u x) of fits place = tt
  value_has (At k) (field.Word w) (word u x) of fits place = tt
  value_has key (field.Word w) x of fits place = absurd of
  value_has (At k) (field.Map m keys width default) (map_of i x) of fits place =
      record { width = fits.width; fits = cell_fits x.width k x.rest x.cells fits.cells.0 fits.cells.1; numbers = subst (λ z. GivenFits z given) (sym of.1) place.1 }
  value_has Whole (field.Map m keys width default) (map_of i x) of fits place = tt
  value_has Rest (field.Map m keys width default) (map_of i x) of fits place = tt
  value_has key (field.Map m keys width default) x of fits place = absurd of

  behind_has : (fields : List Field) (xs : Parts W N) (n : ℕ) → AreOf fields xs → PartsFit B c cap xs → IsSomeAnd (slice_get fields n) (λ f. PlaceFits f key given) → HasWordFor B c given (word_of (value_behind xs n) key)
  behind_has [] no_part n of fits place = absurd place
  behind_has (f ∷ fields) (part x xs) zero of fits place = value_has key f x of.0 fits.0 place
  behind_has (f ∷ fields) (part x xs) (suc n) of fits place = behind_has fields xs n of.1 fits.1 place
  behind_has [] (part x xs) n of fits place = absurd of
  behind_has (f ∷ fields) no_part n of fits place = absurd of

  pub has_word : (fields : List Field) (xs : Parts W N) (n : ℕ) → AreOf fields xs → PartsFit B c cap xs → IsOfCell fields n key given → HasWordFor B c given (word_in xs n key)
  has_word fields xs zero of fits place = absurd place
  has_word fields xs (suc n) of fits place = behind_has fields xs n of fits place
