-- The element of an entry holds of each state of the entry.
use Rattle.std.proofs.Common.{◌≡◌, ℕ, zero, suc, ◌+◌, List, [], ◌∷◌, Option, Some, None, refl, sym, subst, arith}
use Rattle.std.specs.Prelude.{◌==◌, IfSome, IsSomeAnd, slice_get}
use Rattle.base_trait.specs.Lists.{Each, IsAmong}
use Rattle.base_trait.proofs.Lists.{number_told}
use Rattle.base_trait.proofs.Tests.{at_choice}
use Rattle.spec_ir.specs.declared.ty.Ty.{Ty}
use Rattle.spec_ir.specs.declared.ty.Ty.TheVariants as ty
use Rattle.spec_ir.specs.declared.declared.MapType.{MapType}
use Rattle.spec_ir.specs.Environment.{Environment}
use Rattle.semantics_values.specs.declared.value.Cell.{Cell}
use Rattle.semantics_values.specs.declared.entry.GivenNumber.{GivenNumber}
use Rattle.semantics_values.specs.declared.entry.GivenNumber.TheVariants as given
use Rattle.semantics_values.specs.declared.entry.KeyAt.{KeyAt}
use Rattle.semantics_values.specs.declared.entry.KeyAt.TheVariants.{Whole, At}
use Rattle.semantics_values.specs.declared.entry.Line.{Line}
use Rattle.semantics_values.specs.States.{State}
use Rattle.semantics_values.specs.Types.{key_count}
use Rattle.semantics_values.specs.Values as v
use Rattle.semantics_values.specs.Values.{Val}
use Rattle.semantics.specs.Entries.{AreEntryFields, IsEntryField, IsEntryMapOf, IsGiven, given_at, given_or, given_rest}
use Rattle.domain_laws.specs.declared.field.Field.{Field}
use Rattle.domain_laws.specs.declared.field.Field.TheVariants as field
use Rattle.domain_laws.specs.Entries.{GivenFits, LinesFit, PlaceFits, field_at}
use Rattle.domain_laws.specs.States.{field_of, fields_of, map_field}
use Rattle.domain_laws.specs.Lines.{IsField, OfField}
use Rattle.domain_laws.proofs.Entries.{rest_fits, word_fits}
use Rattle.domain_laws.proofs.Lines.{given_at_fits, of_field, or_fits}
use Rattle.domain_affine_base.specs.Words.{Fits, Stands}
use Rattle.domain_affine_base.specs.declared.word.Word.TheVariants.{Any, Const}
use Rattle.domain_affine_element_laws.specs.Laws.{StandAll}
use Rattle.domain_affine_element_laws.specs.Tracked.{number_at, number_in, number_of, valuation_of}
use Rattle.domain_affine_laws.specs.Entry.{entry_words, given_number, given_of}
use Rattle.domain_affine_laws.specs.Tracked.{field_cells}
use Rattle.domain_affine_laws.proofs.Tracked.{IsCellOf, map_cell, one_less, word_cell}

-- ---- the word of what is given
number_fits : (k : ℕ) (g : GivenNumber) → GivenFits 32 g → Fits k 32 (given_number g)
number_fits k (given.One v) h = (h, tt)
number_fits k given.Any h = (tt, tt)
number_fits k (given.Range lo hi) h =
    let order = h.0 in let bound = h.1 in
    at_choice (Fits k 32) (lo == hi) (Const lo) Any (λ e. (omega (arith, order, bound), tt)) (λ e. (tt, tt))

number_stands : (valuation : List ℕ) (g : GivenNumber) (n : ℕ) → IsGiven g n → Stands valuation (given_number g) n
number_stands valuation (given.One v) n h = h
number_stands valuation given.Any n h = tt
number_stands valuation (given.Range lo hi) n h =
    let low = h.0 in let high = h.1 in
    at_choice (λ z. Stands valuation z n) (lo == hi) (Const lo) Any (λ e. let same = number_told lo hi e in omega (arith, same, low, high)) (λ e. tt)

-- ---- what is given fits
at_place : {A : Type 0} (P : A → Type 0) (xs : List A) (i : ℕ) (x : A) → Each P xs → slice_get xs i ≡ Some x → P x
at_place P [] zero x h e = cc
at_place P [] (suc i) x h e = cc
at_place P (y ∷ xs) zero x h e = let same : y ≡ x = cc in subst P same h.0
at_place P (y ∷ xs) (suc i) x h e = at_place P xs i x h.1 e

module _ (lines : List Line) where
  named_fits : (n m bound width default : ℕ) (key : ℕ) → OfField n (field.Map m bound width default) lines → IfSome (given_at lines n (At key)) (GivenFits width)
  named_fits n m bound width default key of = weaken (given_at lines n (At key)) (given_at_fits n (field.Map m bound width default) (At key) lines of)
    where
      weaken : (o : Option GivenNumber) → IfSome o (PlaceFits (field.Map m bound width default) (At key)) → IfSome o (GivenFits width)
      weaken None h = tt
      weaken (Some g) h = h.1

  given_fits : (n : ℕ) (f : Field) (key : KeyAt) → IsField f → OfField n f lines → IsAmong key (field_cells f) → GivenFits 32 (given_of lines n (Some f) key)
  given_fits n (field.Word w) key fine of h =
      let told = word_cell w key h in
      subst (λ k. GivenFits 32 (given_of lines n (Some (field.Word w)) k)) (sym told.0) (subst (λ w. GivenFits w (given_of lines n (Some (field.Word w)) Whole)) told.1 (word_fits lines n w of))
  given_fits n (field.Map m bound width default) key fine of h =
      let told = map_cell bound width key h in
      let j = told.1.0 in
      subst (λ k. GivenFits 32 (given_of lines n (Some (field.Map m bound width default)) k)) (sym told.1.1)
      (subst (λ w. GivenFits w (given_or (given_at lines n (At j)) (given_rest lines n default))) told.0
      (or_fits width (given_at lines n (At j)) (given_rest lines n default) (named_fits n m bound width default j of) (rest_fits lines n m bound width default fine of)))

  module _ (fields : List Field) (fine : Each IsField fields) (fit : LinesFit fields lines) where
    cell_given : (n : ℕ) (key : KeyAt) → IsCellOf fields (n, key) → GivenFits 32 (given_of lines n (field_at fields n) key)
    cell_given zero key h = absurd h
    cell_given (suc i) key h = by_field (slice_get fields i) refl h
      where
        by_field : (o : Option Field) → slice_get fields i ≡ o → IsSomeAnd o (λ f. IsAmong key (field_cells f)) → GivenFits 32 (given_of lines (suc i) o key)
        by_field None e h = absurd h
        by_field (Some f) e h = given_fits (suc i) f key (at_place IsField fields i f fine e) (of_field fields lines fit i f e) h

    pub entry_fit : (k : ℕ) (cells : List (ℕ × KeyAt)) → Each (IsCellOf fields) cells → Each (Fits k 32) (entry_words lines fields cells)
    entry_fit k [] h = tt
    entry_fit k (c ∷ cells) h = (number_fits k (given_of lines c.0 (field_at fields c.0) c.1) (cell_given c.0 c.1 h.0), entry_fit k cells h.1)

  -- ---- the numbers are given
  module _ (env : Environment) where
    map_given : (n m k : ℕ) (o : Option MapType) (rest : Cell) (cells : List (ℕ × Cell)) (key : KeyAt) → IsEntryMapOf env lines n o rest cells → IsAmong key (field_cells (map_field env m o))
        → IsGiven (given_of lines n (Some (map_field env m o)) key) (number_of (v.map k rest cells) key)
    map_given n m k None rest cells key is h = absurd is
    map_given n m k (Some d) rest cells key is h =
        let told = map_cell (key_count env d.key) d.width key h in
        subst (λ x. IsGiven (given_of lines n (Some (map_field env m (Some d))) x) (number_of (v.map k rest cells) x)) (sym told.1.1) (is.each told.1.0 told.1.2).given

    value_given : (n : ℕ) (t : Ty) (p : Val) (key : KeyAt) → IsEntryField env lines n t p → IsAmong key (field_cells (field_of env t))
        → IsGiven (given_of lines n (Some (field_of env t)) key) (number_of p key)
    value_given n (ty.Word w) (v.word u x) key is h =
        let told = word_cell w key h in
        subst (λ j. IsGiven (given_of lines n (Some (field.Word w)) j) (number_of (v.word u x) j)) (sym told.0) is.2
    value_given n (ty.Map m) (v.map k rest cells) key is h = map_given n m k (slice_get env.maps m) rest cells key is.1 h
    value_given n _ _ key is h = absurd is

    values_given : (n i : ℕ) (types : List Ty) (ps : List Val) (key : KeyAt) → AreEntryFields env lines n types ps
        → IsSomeAnd (slice_get (fields_of env types) i) (λ f. IsAmong key (field_cells f))
        → IsGiven (given_of lines (n + i) (slice_get (fields_of env types) i) key) (number_in (slice_get ps i) key)
    values_given n zero [] ps key are h = absurd h
    values_given n (suc i) [] ps key are h = absurd h
    values_given n i (t ∷ types) [] key are h = absurd are
    values_given n zero (t ∷ types) (p ∷ ps) key are h =
        let same : n ≡ n + 0 = omega arith in
        subst (λ m. IsGiven (given_of lines m (Some (field_of env t)) key) (number_of p key)) same (value_given n t p key are.0 h)
    values_given n (suc i) (t ∷ types) (p ∷ ps) key are h =
        let same : suc n + i ≡ n + suc i = omega arith in
        subst (λ m. IsGiven (given_of lines m (slice_get (fields_of env types) i) key) (number_in (slice_get ps i) key)) same (values_given (suc n) i types ps key are.1 h)

    module _ (types : List Ty) (s : State) (are : AreEntryFields env lines 1 types s.parts) (valuation : List ℕ) where
      number_given : (n : ℕ) (key : KeyAt) → IsCellOf (fields_of env types) (n, key) → IsGiven (given_of lines n (field_at (fields_of env types) n) key) (number_at s (n, key))
      number_given zero key h = absurd h
      number_given (suc i) key h =
          let same : 1 + i ≡ suc i = omega arith in
          subst (λ j. IsGiven (given_of lines (suc i) (slice_get (fields_of env types) i) key) (number_in (slice_get s.parts j) key)) (one_less i)
          (subst (λ m. IsGiven (given_of lines m (slice_get (fields_of env types) i) key) (number_in (slice_get s.parts i) key)) same (values_given 1 i types s.parts key are h))

      pub entry_stand : (cells : List (ℕ × KeyAt)) → Each (IsCellOf (fields_of env types)) cells → StandAll valuation (entry_words lines (fields_of env types) cells) (valuation_of cells s)
      entry_stand [] h = tt
      entry_stand (c ∷ cells) h =
          (number_stands valuation (given_of lines c.0 (field_at (fields_of env types) c.0) c.1) (number_at s c) (number_given c.0 c.1 h.0), entry_stand cells h.1)
