-- The lines of an entry fit the fields that they name.
use Rattle.std.proofs.Common.{◌≡◌, ◌+◌, ◌<◌, ◌≤◌, ◌^◌, ◌==◌, ◌&&◌, ℕ, zero, suc, Bool, true, false, List, [], ◌∷◌, ◌++◌, length, map, Option, Some, None, Result, Ok, Err, is_some, refl, sym, subst, ap, ◌∙◌, inl, inr, arith, nat_lt, nat_le, bytes_eq, slice_get, slice_index}
use Rattle.std.proofs.lemmas.Bool.{and_parts, cases_Bool}
use Rattle.std.proofs.lemmas.Bool.Decides.{nat_tests}
use Rattle.std.proofs.lemmas.Option.{none-some, same_Some}
use Rattle.hex.proofs.HexLemmas.{decode_of-ok}
use Rattle.spec_ir.specs.declared.ty.Ty.{Ty}
use Rattle.spec_ir.specs.declared.ty.Ty.TheVariants.{Bool as Flag, Word, Data as DataTy, Map as MapOf}
use Rattle.spec_ir.specs.declared.declared.MapType.{MapType}
use Rattle.spec_ir.specs.Environment.{Case}
use Rattle.spec_ir.specs.Specification.{Spec}
use Rattle.spec_ir.specs.Texts.{cases_of}
use Rattle.semantics_values.specs.declared.entry.GivenNumber.{GivenNumber}
use Rattle.semantics_values.specs.declared.entry.GivenNumber.TheVariants.{One}
use Rattle.semantics_values.specs.declared.entry.KeyAt.{KeyAt}
use Rattle.semantics_values.specs.declared.entry.KeyAt.TheVariants.{Whole, Rest, At}
use Rattle.semantics_values.specs.declared.entry.Line.{Line}
use Rattle.semantics_values.specs.Types.{environment_of, key_count}
use Rattle.state_cell_text.specs.declared.places.Place.{Place}
use Rattle.state_cell_text.specs.declared.places.Place.TheVariants as place
use Rattle.state_cell_text.specs.Keys.{below, case_number, key_number}
use Rattle.state_cell_text.specs.Places.{Field, cell_place, map_place, place_at, place_from, place_of, state_fields}
use Rattle.state_text.specs.declared.entry_error.EntryError.{EntryError}
use Rattle.state_text.specs.Forms.{Form, HasForm, CellSuffix, whole, rest, at, from, run, single}
use Rattle.state_text.specs.Lines.{lines}
use Rattle.state_text.specs.Meaning.{Said, nothing, counter, cells, faulty, form_says, given_fits, run_cells, said, single_says, sized, at_key, run_at, run_says}
use Rattle.state_text.specs.Parsing.{form}
use Rattle.state_text.specs.Reading.{Entry, GivenCells, any_given, counted, entry_found, goes_on, line_of, number_given, read_from, with_cells, with_counter, with_line}
use Rattle.state_text.proofs.Shown.{shown}

-- a number given of a map's cell, at one of its keys
abbrev pub KeyBelow : ℕ → KeyAt → Type 0
KeyBelow keys (At k) = k < keys
KeyBelow keys _ = Unit {0}

module _ (spec : Spec) where
  abbrev pub FitsMap : Option MapType → KeyAt → GivenNumber → Type 0
  FitsMap None key given = Unit {0}
  FitsMap (Some d) key given = (given_fits given d.width ≡ true) × KeyBelow (key_count (environment_of spec) d.key) key

  -- what is given of a part of a field of a type
  abbrev pub FitsType : Ty → KeyAt → GivenNumber → Type 0
  FitsType (Word w) key given = given_fits given w ≡ true
  FitsType (MapOf m) key given = FitsMap (slice_get spec.maps m) key given
  FitsType _ key given = Unit {0}

  abbrev pub FieldTypes : List Ty
  FieldTypes = map (λ f. f.1) (state_fields spec)

  abbrev pub FitsField : ℕ → KeyAt → GivenNumber → Type 0
  FitsField field key given = (t : Ty) → slice_get FieldTypes field ≡ Some t → FitsType t key given

  abbrev pub AllFit : List Line → Type 0
  AllFit [] = Unit {0}
  AllFit (l ∷ ls) = FitsField l.field l.key l.given × AllFit ls

  AllFit-append : (xs ys : List Line) → AllFit xs → AllFit ys → AllFit (xs ++ ys)
  AllFit-append [] ys p q = q
  AllFit-append (x ∷ xs) ys p q = (p.0, AllFit-append xs ys p.1 q)

  abbrev CellsFit : ℕ → List (KeyAt × GivenNumber) → Type 0
  CellsFit field [] = Unit {0}
  CellsFit field (c ∷ cs) = FitsField field c.0 c.1 × CellsFit field cs

  -- what a line says fits
  abbrev SaidFits : Said → Type 0
  SaidFits (cells field cs) = CellsFit field cs
  SaidFits _ = Unit {0}

  -- ---- places

  -- a place among fields with these types, from number n on
  abbrev IsPlaceOf : List Ty → ℕ → Place → Type 0
  IsPlaceOf types n place.Counter = Unit {0}
  IsPlaceOf types n (place.Word k w) = (j : ℕ) × (k ≡ n + j) × (slice_get types j ≡ Some (Word w))
  IsPlaceOf types n (place.Map k key w) = (j : ℕ) × (m : ℕ) × (d : MapType) × (k ≡ n + j) × (slice_get types j ≡ Some (MapOf m)) × (slice_get spec.maps m ≡ Some d) × (d.key ≡ key) × (d.width ≡ w)

  map_shown : (n m : ℕ) (types : List Ty) (o : Option MapType) (p : Place) → slice_get spec.maps m ≡ o → map_place spec n o ≡ Some p → IsPlaceOf (MapOf m ∷ types) n p
  map_shown n m types None p e h = absurd (none-some p h)
  map_shown n m types (Some d) p e h = subst (IsPlaceOf (MapOf m ∷ types) n) (same_Some (place.Map n d.key d.width) p h) (0, m, d, omega arith, refl, e, refl, refl)

  cell_shown : (n : ℕ) (ty : Ty) (types : List Ty) (p : Place) → cell_place spec n ty ≡ Some p → IsPlaceOf (ty ∷ types) n p
  cell_shown n (Word w) types p h = subst (IsPlaceOf (Word w ∷ types) n) (same_Some (place.Word n w) p h) (0, omega arith, refl)
  cell_shown n (MapOf m) types p h = map_shown n m types (slice_get spec.maps m) p refl h
  cell_shown n Flag types p h = absurd (none-some p h)
  cell_shown n (DataTy t) types p h = absurd (none-some p h)

  at_shown : (n : ℕ) (ty : Ty) (types : List Ty) (p : Place) → place_at spec n ty ≡ Some p → IsPlaceOf (ty ∷ types) n p
  at_shown n ty types p h = elim (cases_Bool (n == 0)) [
    | inl e ↦ subst (IsPlaceOf (ty ∷ types) n) (same_Some place.Counter p (rw e at h)) tt
    | inr e ↦ elim (cases_Bool (nat_lt n (2 ^ 32))) [
      | inl f ↦ cell_shown n ty types p (rw (e, f) at h)
      | inr f ↦ absurd (none-some p (rw (e, f) at h))
    ]
  ]

  one_behind : (ty : Ty) (types : List Ty) (n : ℕ) (p : Place) → IsPlaceOf types (n + 1) p → IsPlaceOf (ty ∷ types) n p
  one_behind ty types n place.Counter h = tt
  one_behind ty types n (place.Word k w) h = (suc h.0, (let e = h.1 in omega (arith, e)), h.2)
  one_behind ty types n (place.Map k key w) h = (suc h.0, h.1, h.2, (let e = h.3 in omega (arith, e)), h.4, h.5, h.6, h.7)

  place_shown : (n : ℕ) (fields : List Field) (name : List ℕ) (p : Place) → place_from spec n fields name ≡ Some p → IsPlaceOf (map (λ f. f.1) fields) n p
  place_shown n [] name p h = absurd (none-some p h)
  place_shown n (f ∷ fields) name p h = elim (cases_Bool (bytes_eq f.0 name)) [
    | inl e ↦ at_shown n f.1 (map (λ g. g.1) fields) p (rw e at h)
    | inr e ↦ one_behind f.1 (map (λ g. g.1) fields) n p (place_shown (n + 1) fields name p (rw e at h))
  ]

  -- ---- keys

  case_below : (n : ℕ) (cases : List Case) (name : List ℕ) (k : ℕ) → case_number n cases name ≡ Some k → k < n + length cases
  case_below n [] name k h = absurd (none-some k h)
  case_below n (c ∷ cases) name k h = elim (cases_Bool (bytes_eq c.name name)) [
    | inl e ↦ let same : n ≡ k = same_Some n k (rw e at h) in omega (arith, same)
    | inr e ↦ let more = case_below (n + 1) cases name k (rw e at h) in omega (arith, more)
  ]

  below_shown : (w : ℕ) (x : Option ℕ) (k : ℕ) → below w x ≡ Some k → k < 2 ^ w
  below_shown w None k h = absurd (none-some k h)
  below_shown w (Some j) k h = elim (cases_Bool (nat_lt j (2 ^ w))) [
    | inl e ↦
        let lt : j < 2 ^ w = grind (arith, nat_tests, e) in
        let same : j ≡ k = same_Some j k (rw e at h) in
        subst (λ i. i < 2 ^ w) same lt
    | inr e ↦ absurd (none-some k (rw e at h))
  ]

  key_below : (ty : Ty) (text : List ℕ) (k : ℕ) → key_number spec ty text ≡ Some k → k < key_count (environment_of spec) ty
  key_below (Word w) text k h = below_shown w _ k h
  key_below (DataTy t) text k h = let lt = case_below 0 (cases_of (slice_get spec.datas t)) text k h in omega (arith, lt)
  key_below Flag text k h = absurd (none-some k h)
  key_below (MapOf m) text k h = absurd (none-some k h)

  -- ---- what a line says

  word_fits : (field w : ℕ) (given : GivenNumber) → IsPlaceOf FieldTypes 0 (place.Word field w) → given_fits given w ≡ true → FitsField field Whole given
  word_fits field w given is fits t h =
      let j : field ≡ is.0 = (let e = is.1 in omega (arith, e)) in
      let same : Word w ≡ t = same_Some (Word w) t (sym is.2 ∙ rw j at h) in
      subst (λ u. FitsType u Whole given) same fits

  map_fits_at : (field : ℕ) (key : Ty) (w : ℕ) (part : KeyAt) (given : GivenNumber) → IsPlaceOf FieldTypes 0 (place.Map field key w) → given_fits given w ≡ true → KeyBelow (key_count (environment_of spec) key) part → FitsField field part given
  map_fits_at field key w part given is fits within t h =
      let j : field ≡ is.0 = (let e = is.3 in omega (arith, e)) in
      let same : MapOf is.1 ≡ t = same_Some (MapOf is.1) t (sym is.4 ∙ rw j at h) in
      let d = is.2 in
      let both : FitsMap (Some d) part given = (rw is.7 fits, rw is.6 within) in
      subst (λ u. FitsType u part given) same (rw is.5 both)

  sized_fits : (given : GivenNumber) (w : ℕ) (s : Said) → (given_fits given w ≡ true → SaidFits s) → SaidFits (sized given w s)
  sized_fits given w s h = elim (cases_Bool (given_fits given w)) [ inl e ↦ rw e (h e) | inr e ↦ rw e tt ]

  key_fits : (field : ℕ) (key : Ty) (w : ℕ) (given : GivenNumber) (n : Option ℕ) → IsPlaceOf FieldTypes 0 (place.Map field key w) → ((k : ℕ) → n ≡ Some k → k < key_count (environment_of spec) key) → SaidFits (at_key field w given n)
  key_fits field key w given None is within = tt
  key_fits field key w given (Some k) is within = sized_fits given w (cells field ((At k, given) ∷ [])) (λ fits. (map_fits_at field key w (At k) given is fits (within k refl), tt))

  single_fits : (o : Option Place) (part : CellSuffix) (given : GivenNumber) → ((p : Place) → o ≡ Some p → IsPlaceOf FieldTypes 0 p) → SaidFits (single_says spec o part given)
  single_fits None part given is = tt
  single_fits (Some place.Counter) whole given is = sized_fits given 32 (counter given) (λ fits. tt)
  single_fits (Some place.Counter) rest given is = tt
  single_fits (Some place.Counter) (at text) given is = tt
  single_fits (Some place.Counter) (from text) given is = tt
  single_fits (Some (place.Word field w)) whole given is = sized_fits given w (cells field ((Whole, given) ∷ [])) (λ fits. (word_fits field w given (is (place.Word field w) refl) fits, tt))
  single_fits (Some (place.Word field w)) rest given is = tt
  single_fits (Some (place.Word field w)) (at text) given is = tt
  single_fits (Some (place.Word field w)) (from text) given is = tt
  single_fits (Some (place.Map field key w)) whole given is = tt
  single_fits (Some (place.Map field key w)) rest given is =
      sized_fits given w (cells field ((Rest, given) ∷ [])) (λ fits. (map_fits_at field key w Rest given (is (place.Map field key w) refl) fits tt, tt))
  single_fits (Some (place.Map field key w)) (at text) given is = key_fits field key w given (key_number spec key text) (is (place.Map field key w) refl) (λ k e. key_below key text k e)
  single_fits (Some (place.Map field key w)) (from text) given is = tt

  -- each of bytes is below 256
  abbrev AreBytes : List ℕ → Type 0
  AreBytes bytes = (i : ℕ) → slice_index bytes i < 256

  run_fits : (field : ℕ) (key : Ty) (k : ℕ) (bytes : List ℕ) → IsPlaceOf FieldTypes 0 (place.Map field key 8) → AreBytes bytes → k + length bytes ≤ key_count (environment_of spec) key → CellsFit field (run_cells k bytes)
  run_fits field key k [] is small within = tt
  run_fits field key k (b ∷ bytes) is small within =
      let first : b < 256 = small 0 in
      let fits : given_fits (One b) 8 ≡ true = grind (arith, nat_tests, first) in
      (map_fits_at field key 8 (At k) (One b) is fits (omega (arith, within)), run_fits field key (suc k) bytes is (λ i. small (suc i)) (omega (arith, within)))

  run_at_fits : (field : ℕ) (key : Ty) (bytes : List ℕ) (n : Option ℕ) → IsPlaceOf FieldTypes 0 (place.Map field key 8) → AreBytes bytes → SaidFits (run_at spec field key bytes n)
  run_at_fits field key bytes None is small = tt
  run_at_fits field key bytes (Some k) is small = elim (cases_Bool (nat_lt (k + length bytes) (2 ^ 64) && nat_le (k + length bytes) (key_count (environment_of spec) key))) [
    | inl e ↦
        let both = and_parts (nat_lt (k + length bytes) (2 ^ 64)) (nat_le (k + length bytes) (key_count (environment_of spec) key)) e in
        let within : k + length bytes ≤ key_count (environment_of spec) key = grind (arith, nat_tests, both.1) in
        rw e (run_fits field key k bytes is small within)
    | inr e ↦ rw e tt
  ]

  run_says_fits : (o : Option Place) (text bytes : List ℕ) → AreBytes bytes → ((p : Place) → o ≡ Some p → IsPlaceOf FieldTypes 0 p) → SaidFits (run_says spec o text bytes)
  run_says_fits None text bytes small is = tt
  run_says_fits (Some place.Counter) text bytes small is = tt
  run_says_fits (Some (place.Word field w)) text bytes small is = tt
  run_says_fits (Some (place.Map field key w)) text bytes small is = elim (cases_Bool (w == 8)) [
    | inl e ↦
        let eight : w ≡ 8 = grind (arith, nat_tests, e) in
        let at_place = is (place.Map field key w) refl in
        rw e (run_at_fits field key bytes (key_number spec key text) (rw eight at at_place) small)
    | inr e ↦ rw e tt
  ]

  form_fits : (line : List ℕ) (o : Option Form) → form line ≡ o → SaidFits (form_says spec o)
  form_fits line None e = tt
  form_fits line (Some (single name part given)) e = single_fits (place_of spec name) part given (λ p h. place_shown 0 (state_fields spec) name p h)
  form_fits line (Some (run name text bytes)) e =
      let has : HasForm line (run name text bytes) = shown line (run name text bytes) e in
      run_says_fits (place_of spec name) text bytes (decode_of-ok has.0 bytes has.4.0).3 (λ p h. place_shown 0 (state_fields spec) name p h)

  said_fits : (line : List ℕ) → SaidFits (said spec line)
  said_fits [] = tt
  said_fits (b ∷ line) = elim (cases_Bool (b == 35)) [
    | inl e ↦ rw e tt
    | inr e ↦ rw e (form_fits (b ∷ line) (form (b ∷ line)) refl)
  ]

  -- ---- the lines

  lines_fit : (n field : ℕ) (cs : List (KeyAt × GivenNumber)) → CellsFit field cs → AllFit (map (line_of n field) cs)
  lines_fit n field [] h = tt
  lines_fit n field (c ∷ cs) h = (h.0, lines_fit n field cs h.1)

  abbrev FoundFits : Result GivenCells EntryError → Type 0
  FoundFits (Ok found) = AllFit found.lines
  FoundFits (Err e) = Unit {0}

  with_fits : (n : ℕ) (s : Said) (found : GivenCells) → SaidFits s → AllFit found.lines → FoundFits (with_line n s found)
  with_fits n nothing found h fits = fits
  with_fits n (faulty f) found h fits = tt
  with_fits n (counter given) found h fits = elim (cases_Bool (is_some found.counter)) [ inl e ↦ rw e tt | inr e ↦ rw e fits ]
  with_fits n (cells field cs) found h fits = elim (cases_Bool (any_given found.lines field cs)) [
    | inl e ↦ rw e tt
    | inr e ↦ rw e (AllFit-append found.lines (map (line_of n field) cs) fits (lines_fit n field cs h))
  ]

  abbrev pub EntryFits : Result Entry EntryError → Type 0
  EntryFits (Ok e) = AllFit e.lines
  EntryFits (Err e) = Unit {0}

  counted_fits : (o : Option ℕ) (ls : List Line) → AllFit ls → EntryFits (counted o ls)
  counted_fits None ls fits = tt
  counted_fits (Some pc) ls fits = fits

  goes_fits : (r : Result GivenCells EntryError) (next : GivenCells → Result Entry EntryError) → FoundFits r → ((found : GivenCells) → AllFit found.lines → EntryFits (next found)) → EntryFits (goes_on spec r next)
  goes_fits (Err e) next h more = tt
  goes_fits (Ok found) next h more = more found h

  pub read_fits : (n : ℕ) (found : GivenCells) (ls : List (List ℕ)) → AllFit found.lines → EntryFits (read_from spec n found ls)
  read_fits n found [] fits = counted_fits (number_given found.counter) found.lines fits
  read_fits n found (line ∷ ls) fits =
      goes_fits (with_line n (said spec line) found) (λ more. read_from spec (n + 1) more ls) (with_fits n (said spec line) found (said_fits line) fits) (λ more h. read_fits (n + 1) more ls h)
