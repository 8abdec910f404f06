-- An entry that is read fits.
use Rattle.std.proofs.Common.{◌≡◌, ◌∙◌, ℕ, zero, suc, ◌+◌, ◌<◌, ◌≤◌, ◌^◌, ◌++◌, ◌==◌, Bool, true, false, List, [], ◌∷◌, Option, Some, None, Result, Ok, Err, map, length, slice_get, option_map, refl, sym, ap, subst, arith}
use Rattle.std.specs.Prelude.{nat_lt, nat_le, is_some, bytes_eq, if◌then◌else◌}
use Rattle.std.specs.List.{list_all}
use Rattle.std.proofs.lemmas.Bool.Decides.{nat_tests}
use Rattle.std.proofs.lemmas.Option.{slice_get-map}
use Rattle.std.proofs.lemmas.Bool.{and_from as and_true}
use Rattle.hex.specs.Hex.{IsBytes}
use Rattle.hex.proofs.HexLemmas.{decode_of-ok}
use Rattle.spec_ir.specs.declared.ty.Ty.{Ty}
use Rattle.spec_ir.specs.declared.ty.Ty.TheVariants.{Bool as Flag, Word, Data as DataTy, Map as MapOf}
use Rattle.spec_ir.specs.declared.declared.MapType.{MapType}
use Rattle.spec_ir.specs.Environment.{Case}
use Rattle.spec_ir.specs.Specification.{Spec}
use Rattle.spec_ir.specs.Texts.{cases_of}
use Rattle.semantics_values.specs.declared.entry.GivenNumber.{GivenNumber}
use Rattle.semantics_values.specs.declared.entry.GivenNumber.TheVariants.{One, Any, Range}
use Rattle.semantics_values.specs.declared.entry.KeyAt.{KeyAt}
use Rattle.semantics_values.specs.declared.entry.KeyAt.TheVariants.{Whole, Rest, At}
use Rattle.semantics_values.specs.declared.entry.Line.{Line}
use Rattle.semantics_values.specs.Types.{key_count, environment_of}
use Rattle.state_cell_text.specs.declared.places.Place.{Place}
use Rattle.state_cell_text.specs.declared.places.Place.TheVariants as place
use Rattle.state_cell_text.specs.Digits.{decimal_number, hex_number}
use Rattle.state_cell_text.specs.Keys.{below, case_number, key_number}
use Rattle.state_cell_text.specs.Places.{Field, state_fields, map_place, cell_place, place_at, place_from, place_of}
use Rattle.state_text.specs.declared.entry_error.EntryError.{EntryError}
use Rattle.state_text.specs.Forms.{Form, single, run, CellSuffix, whole as whole_part, rest as rest_part, at as at_part, from as from_part}
use Rattle.state_text.specs.Lines.{lines}
use Rattle.state_text.specs.Meaning.{Said, nothing, counter, cells, faulty, given_fits, sized, cell, at_key, run_cells, single_says, run_at, run_says, form_says, said}
use Rattle.state_text.specs.OneState.{types_behind}
use Rattle.state_text.specs.Parsing.{form}
use Rattle.state_text.specs.Reading.{GivenCells, none_found, any_given, line_of, with_cells, with_counter, with_line, Entry, single_number, counted, number_given, goes_on, read_from}
use Rattle.state_text.proofs.Shown.{shown}
use Rattle.state_entry_laws.specs.Fitting.{field_type, place_fits, line_fits}
use Rattle.state_entry_laws.specs.Laws.{EntriesFit, Fits}
use Rattle.spec_patterns.proofs.Variables.{all_append}

-- the type of a field by its number
type_at : (fields : List Field) (n : ℕ) (f : Field) → slice_get fields (suc n) ≡ Some f → field_type (types_behind fields) (suc n) ≡ Some f.1
type_at [] n f h = cc
type_at (g ∷ fields) n f h = slice_get-map (λ x. x.1) fields n ∙ ap (option_map (λ x. x.1)) h

-- the number of a constructor
case_below : (n : ℕ) (cases : List Case) (name : List ℕ) (k : ℕ) → case_number n cases name ≡ Some k → k < n + length cases
case_below n [] name k h = cc
case_below n (c ∷ cases) name k h = by_name n c cases name k (λ e. case_below (n + 1) cases name k e) (bytes_eq c.name name) refl h where
  by_name : (n : ℕ) (c : Case) (cases : List Case) (name : List ℕ) (k : ℕ) → (case_number (n + 1) cases name ≡ Some k → k < n + 1 + length cases)
      → (b : Bool) → bytes_eq c.name name ≡ b → case_number n (c ∷ cases) name ≡ Some k → k < n + length (c ∷ cases)
  by_name n c cases name k ih true e h = let same : n ≡ k = let s = rw e at h in cc in omega (arith, same)
  by_name n c cases name k ih false e h = let less = ih (rw e at h) in omega (arith, less)

below_is : (w : ℕ) (o : Option ℕ) (k : ℕ) → below w o ≡ Some k → nat_lt k (2 ^ w) ≡ true
below_is w None k h = cc
below_is w (Some j) k h = by_test w j k (nat_lt j (2 ^ w)) refl h where
  by_test : (w j k : ℕ) (b : Bool) → nat_lt j (2 ^ w) ≡ b → (if nat_lt j (2 ^ w) then Some j else None) ≡ Some k → nat_lt k (2 ^ w) ≡ true
  by_test w j k true e h = let same : j ≡ k = let s = rw e at h in cc in subst (λ x. nat_lt x (2 ^ w) ≡ true) same e
  by_test w j k false e h = let s = rw e at h in cc

module _ (spec : Spec) where
  -- the key that a text spells is one
  key_below : (ty : Ty) (text : List ℕ) (k : ℕ) → key_number spec ty text ≡ Some k → nat_lt k (key_count (environment_of spec) ty) ≡ true
  key_below (Word w) text k h = below_is w (if nat_le w 8 then decimal_number text else hex_number 8 text) k h
  key_below (DataTy t) text k h = let less = case_below 0 (cases_of (slice_get spec.datas t)) text k h in grind (arith, nat_tests, less)
  key_below Flag text k h = cc
  key_below (MapOf m) text k h = cc

  abbrev types : List Ty
  types = types_behind (state_fields spec)

  -- what is said of a field has its type
  abbrev PlaceIs : Option Place → Type 0
  PlaceIs None = Unit {0}
  PlaceIs (Some place.Counter) = Unit {0}
  PlaceIs (Some (place.Word field w)) = field_type types field ≡ Some (Word w)
  PlaceIs (Some (place.Map field key w)) = (m : ℕ) × (d : MapType) × (field_type types field ≡ Some (MapOf m)) × (slice_get spec.maps m ≡ Some d) × (d.key ≡ key) × (d.width ≡ w)

  map_place_is : (n m : ℕ) → field_type types n ≡ Some (MapOf m) → (o : Option MapType) → slice_get spec.maps m ≡ o → PlaceIs (map_place spec n o)
  map_place_is n m at None there = tt
  map_place_is n m at (Some d) there = (m, d, at, there, refl, refl)

  cell_place_is : (n : ℕ) (ty : Ty) → field_type types n ≡ Some ty → PlaceIs (cell_place spec n ty)
  cell_place_is n (Word w) at = at
  cell_place_is n (MapOf m) at = map_place_is n m at (slice_get spec.maps m) refl
  cell_place_is n Flag at = tt
  cell_place_is n (DataTy t) at = tt

  place_at_is : (n : ℕ) (f : Field) → slice_get (state_fields spec) n ≡ Some f → PlaceIs (place_at spec n f.1)
  place_at_is zero f h = tt
  place_at_is (suc n) f h = by_limit n f (cell_place_is (suc n) f.1 (type_at (state_fields spec) n f h)) (nat_lt (suc n) (2 ^ 32)) refl where
    by_limit : (n : ℕ) (f : Field) → PlaceIs (cell_place spec (suc n) f.1) → (b : Bool) → nat_lt (suc n) (2 ^ 32) ≡ b → PlaceIs (place_at spec (suc n) f.1)
    by_limit n f h true e = let no : (suc n == 0) ≡ false = grind (arith, nat_tests) in rw (no, e) h
    by_limit n f h false e = let no : (suc n == 0) ≡ false = grind (arith, nat_tests) in rw (no, e) tt

  place_from_is : (name : List ℕ) (n : ℕ) (fs : List Field) → ((j : ℕ) → slice_get (state_fields spec) (n + j) ≡ slice_get fs j) → PlaceIs (place_from spec n fs name)
  place_from_is name n [] h = tt
  place_from_is name n (f ∷ fs) h =
      by_name name n f fs (place_at_is n f (subst (λ m. slice_get (state_fields spec) m ≡ Some f) (omega arith) (h 0)))
      (place_from_is name (n + 1) fs (λ j. subst (λ m. slice_get (state_fields spec) m ≡ slice_get fs j) (omega arith) (h (suc j)))) (bytes_eq f.0 name) refl where
        by_name : (name : List ℕ) (n : ℕ) (f : Field) (fs : List Field) → PlaceIs (place_at spec n f.1) → PlaceIs (place_from spec (n + 1) fs name) → (b : Bool) → bytes_eq f.0 name ≡ b → PlaceIs (place_from spec n (f ∷ fs) name)
        by_name name n f fs h k true e = rw e h
        by_name name n f fs h k false e = rw e k

  -- each of some cells of a field fits
  abbrev AllFit : ℕ → List (KeyAt × GivenNumber) → Type 0
  AllFit field [] = Unit {0}
  AllFit field (c ∷ cs) = (place_fits (environment_of spec) (field_type types field) c.0 c.1 ≡ true) × AllFit field cs

  -- what a line says fits
  abbrev SaidFits : Said → Type 0
  SaidFits nothing = Unit {0}
  SaidFits (counter g) = given_fits g 32 ≡ true
  SaidFits (cells field cs) = AllFit field cs
  SaidFits (faulty f) = Unit {0}

  sized_fits : (g : GivenNumber) (w : ℕ) (s : Said) → (given_fits g w ≡ true → SaidFits s) → SaidFits (sized g w s)
  sized_fits g w s h = by_test g w s h (given_fits g w) refl where
    by_test : (g : GivenNumber) (w : ℕ) (s : Said) → (given_fits g w ≡ true → SaidFits s) → (b : Bool) → given_fits g w ≡ b → SaidFits (sized g w s)
    by_test g w s h true e = rw e (h e)
    by_test g w s h false e = rw e tt

  at_key_fits : (field m w : ℕ) (d : MapType) → field_type types field ≡ Some (MapOf m) → slice_get spec.maps m ≡ Some d → d.width ≡ w
      → (g : GivenNumber) (o : Option ℕ) → ((k : ℕ) → o ≡ Some k → nat_lt k (key_count (environment_of spec) d.key) ≡ true) → SaidFits (at_key field w g o)
  at_key_fits field m w d is there width g None h = tt
  at_key_fits field m w d is there width g (Some k) h =
      sized_fits g w (cell field (At k) g) (λ f. (rw (is, there) (and_true (nat_lt k (key_count (environment_of spec) d.key)) (given_fits g d.width) (h k refl) (rw width f)), tt))

  single_fits : (o : Option Place) → PlaceIs o → (part : CellSuffix) (g : GivenNumber) → SaidFits (single_says spec o part g)
  single_fits None p part g = tt
  single_fits (Some place.Counter) p whole_part g = sized_fits g 32 (counter g) (λ f. f)
  single_fits (Some place.Counter) p rest_part g = tt
  single_fits (Some place.Counter) p (at_part text) g = tt
  single_fits (Some place.Counter) p (from_part text) g = tt
  single_fits (Some (place.Word field w)) p whole_part g = sized_fits g w (cell field Whole g) (λ f. (rw p f, tt))
  single_fits (Some (place.Word field w)) p rest_part g = tt
  single_fits (Some (place.Word field w)) p (at_part text) g = tt
  single_fits (Some (place.Word field w)) p (from_part text) g = tt
  single_fits (Some (place.Map field key w)) p whole_part g = tt
  single_fits (Some (place.Map field key w)) (m, d, is, there, ks, width) rest_part g = sized_fits g w (cell field Rest g) (λ f. (rw (is, there) (rw width f), tt))
  single_fits (Some (place.Map field key w)) (m, d, is, there, ks, width) (at_part text) g =
      at_key_fits field m w d is there width g (key_number spec key text) (λ k e. rw ks (key_below key text k e))
  single_fits (Some (place.Map field key w)) p (from_part text) g = tt

  run_cells_fit : (field m : ℕ) (d : MapType) → field_type types field ≡ Some (MapOf m) → slice_get spec.maps m ≡ Some d → d.width ≡ 8
      → (k : ℕ) (bytes : List ℕ) → k + length bytes ≤ key_count (environment_of spec) d.key → IsBytes bytes → AllFit field (run_cells k bytes)
  run_cells_fit field m d is there width k [] within bs = tt
  run_cells_fit field m d is there width k (b ∷ bytes) within bs =
      let key : nat_lt k (key_count (environment_of spec) d.key) ≡ true = grind (arith, nat_tests, within) in
      let small : b < 256 = bs 0 in
      let fits : given_fits (One b) d.width ≡ true = rw width (grind (arith, nat_tests, small)) in (
        rw (is, there) (and_true (nat_lt k (key_count (environment_of spec) d.key)) (given_fits (One b) d.width) key fits),
        run_cells_fit field m d is there width (suc k) bytes (omega (arith, within)) (λ i. bs (suc i)),
      )

  run_at_fits : (field m : ℕ) (key : Ty) (d : MapType) → field_type types field ≡ Some (MapOf m) → slice_get spec.maps m ≡ Some d → d.key ≡ key → d.width ≡ 8
      → (bytes : List ℕ) → IsBytes bytes → (o : Option ℕ) → SaidFits (run_at spec field key bytes o)
  run_at_fits field m key d is there ks width bytes bs None = tt
  run_at_fits field m key d is there ks width bytes bs (Some k) = by_test field m key d is there ks width bytes bs k (nat_lt (k + length bytes) (2 ^ 64)) refl (nat_le (k + length bytes) (key_count (environment_of spec) key)) refl where
    by_test : (field m : ℕ) (key : Ty) (d : MapType) → field_type types field ≡ Some (MapOf m) → slice_get spec.maps m ≡ Some d → d.key ≡ key → d.width ≡ 8
        → (bytes : List ℕ) → IsBytes bytes → (k : ℕ) (b : Bool) → nat_lt (k + length bytes) (2 ^ 64) ≡ b → (c : Bool) → nat_le (k + length bytes) (key_count (environment_of spec) key) ≡ c → SaidFits (run_at spec field key bytes (Some k))
    by_test field m key d is there ks width bytes bs k false e c f = rw e tt
    by_test field m key d is there ks width bytes bs k true e false f = rw (e, f) tt
    by_test field m key d is there ks width bytes bs k true e true f =
        let le : k + length bytes ≤ key_count (environment_of spec) key = grind (arith, nat_tests, f) in
        rw (e, f) (run_cells_fit field m d is there width k bytes (subst (λ t. k + length bytes ≤ key_count (environment_of spec) t) (sym ks) le) bs)

  run_fits : (o : Option Place) → PlaceIs o → (text bytes : List ℕ) → IsBytes bytes → SaidFits (run_says spec o text bytes)
  run_fits None p text bytes bs = tt
  run_fits (Some place.Counter) p text bytes bs = tt
  run_fits (Some (place.Word field w)) p text bytes bs = tt
  run_fits (Some (place.Map field key w)) (m, d, is, there, ks, width) text bytes bs = by_width field key w m d is there ks width text bytes bs (w == 8) refl where
    by_width : (field : ℕ) (key : Ty) (w m : ℕ) (d : MapType) → field_type types field ≡ Some (MapOf m) → slice_get spec.maps m ≡ Some d → d.key ≡ key → d.width ≡ w
        → (text bytes : List ℕ) → IsBytes bytes → (b : Bool) → (w == 8) ≡ b → SaidFits (run_says spec (Some (place.Map field key w)) text bytes)
    by_width field key w m d is there ks width text bytes bs false e = rw e tt
    by_width field key w m d is there ks width text bytes bs true e =
        let eight : w ≡ 8 = grind (arith, nat_tests, e) in
        rw e (run_at_fits field m key d is there ks (width ∙ eight) bytes bs (key_number spec key text))

  form_fits : (line : List ℕ) (o : Option Form) → form line ≡ o → SaidFits (form_says spec o)
  form_fits line None e = tt
  form_fits line (Some (single name part g)) e = single_fits (place_of spec name) (place_from_is name 0 (state_fields spec) (λ j. ap (slice_get (state_fields spec)) (omega arith))) part g
  form_fits line (Some (run name text bytes)) e =
      let has = shown line (run name text bytes) e in
      let bs = (decode_of-ok has.0 bytes has.4.0).3 in
      run_fits (place_of spec name) (place_from_is name 0 (state_fields spec) (λ j. ap (slice_get (state_fields spec)) (omega arith))) text bytes bs

  said_fits : (line : List ℕ) → SaidFits (said spec line)
  said_fits [] = tt
  said_fits (b ∷ bytes) = by_comment b bytes (form_fits (b ∷ bytes) (form (b ∷ bytes)) refl) (b == 35) refl where
    by_comment : (b : ℕ) (bytes : List ℕ) → SaidFits (form_says spec (form (b ∷ bytes))) → (c : Bool) → (b == 35) ≡ c → SaidFits (said spec (b ∷ bytes))
    by_comment b bytes h true e = rw e tt
    by_comment b bytes h false e = rw e h

  -- what is found fits
  abbrev CounterFits : Option GivenNumber → Type 0
  CounterFits None = Unit {0}
  CounterFits (Some g) = given_fits g 32 ≡ true

  abbrev FoundFits : GivenCells → Type 0
  FoundFits found = CounterFits found.counter × (list_all (line_fits (environment_of spec) types) found.lines ≡ true)

  lines_fit : (n field : ℕ) (cs : List (KeyAt × GivenNumber)) → AllFit field cs → list_all (line_fits (environment_of spec) types) (map (line_of n field) cs) ≡ true
  lines_fit n field [] h = refl
  lines_fit n field (c ∷ cs) h = and_true (line_fits (environment_of spec) types (line_of n field c)) (list_all (line_fits (environment_of spec) types) (map (line_of n field) cs)) h.0 (lines_fit n field cs h.1)

  with_counter_fits : (n : ℕ) (g : GivenNumber) → given_fits g 32 ≡ true → (found : GivenCells) → FoundFits found → (b : Bool) → is_some found.counter ≡ b → (more : GivenCells) → with_counter n g found ≡ Ok more → FoundFits more
  with_counter_fits n g f found h true e more m = let s = rw e at m in cc
  with_counter_fits n g f found h false e more m =
      let same : record { counter = Some g; lines = found.lines } ≡ more = let s = rw e at m in cc in
      subst FoundFits same (f, h.1)

  with_cells_fit : (n field : ℕ) (cs : List (KeyAt × GivenNumber)) → AllFit field cs → (found : GivenCells) → FoundFits found → (b : Bool) → any_given found.lines field cs ≡ b → (more : GivenCells) → with_cells n field cs found ≡ Ok more → FoundFits more
  with_cells_fit n field cs f found h true e more m = let s = rw e at m in cc
  with_cells_fit n field cs f found h false e more m =
      let same : record { counter = found.counter; lines = found.lines ++ map (line_of n field) cs } ≡ more = let s = rw e at m in cc in
      subst FoundFits same (h.0, all_append (line_fits (environment_of spec) types) found.lines (map (line_of n field) cs) h.1 (lines_fit n field cs f))

  with_line_fits : (n : ℕ) (s : Said) → SaidFits s → (found : GivenCells) → FoundFits found → (more : GivenCells) → with_line n s found ≡ Ok more → FoundFits more
  with_line_fits n nothing f found h more m = let same : found ≡ more = cc in subst FoundFits same h
  with_line_fits n (faulty x) f found h more m = cc
  with_line_fits n (counter g) f found h more m = with_counter_fits n g f found h (is_some found.counter) refl more m
  with_line_fits n (cells field cs) f found h more m = with_cells_fit n field cs f found h (any_given found.lines field cs) refl more m

  number_fits : (g : GivenNumber) (pc : ℕ) → given_fits g 32 ≡ true → single_number g ≡ Some pc → pc < 2 ^ 32
  number_fits (One v) pc f h = let same : v ≡ pc = cc in let less : v < 2 ^ 32 = grind (arith, nat_tests, f) in subst (λ n. n < 2 ^ 32) same less
  number_fits Any pc f h = cc
  number_fits (Range lo hi) pc f h = by_test lo hi pc f (lo == hi) refl h where
    by_test : (lo hi pc : ℕ) → nat_lt hi (2 ^ 32) ≡ true → (b : Bool) → (lo == hi) ≡ b → (if lo == hi then Some lo else None) ≡ Some pc → pc < 2 ^ 32
    by_test lo hi pc f true e h =
        let same : lo ≡ pc = let s = rw e at h in cc in
        let less : lo < 2 ^ 32 = grind (arith, nat_tests, f, e) in
        subst (λ n. n < 2 ^ 32) same less
    by_test lo hi pc f false e h = let s = rw e at h in cc

  counted_fits : (g : GivenNumber) (ls : List Line) → given_fits g 32 ≡ true → list_all (line_fits (environment_of spec) types) ls ≡ true → (o : Option ℕ) → single_number g ≡ o → (e : Entry) → counted o ls ≡ Ok e → Fits spec e
  counted_fits g ls f h None n e m = cc
  counted_fits g ls f h (Some pc) n e m =
      let same : record { pc = pc; lines = ls } ≡ e = cc in
      subst (Fits spec) same (record { counter = number_fits g pc f n; lines = h })

  entry_fits : (c : Option GivenNumber) (ls : List Line) → CounterFits c → list_all (line_fits (environment_of spec) types) ls ≡ true → (e : Entry) → counted (number_given c) ls ≡ Ok e → Fits spec e
  entry_fits None ls f h e m = cc
  entry_fits (Some g) ls f h e m = counted_fits g ls f h (single_number g) refl e m

  read_fits : (n : ℕ) (found : GivenCells) (ls : List (List ℕ)) (e : Entry) → FoundFits found → read_from spec n found ls ≡ Ok e → Fits spec e
  read_fits n found [] e f h = entry_fits found.counter found.lines f.0 f.1 e h
  read_fits n found (line ∷ ls) e f h = by_line n found line ls e f (λ more g. read_fits (n + 1) more ls e g) (with_line n (said spec line) found) refl h where
    by_line : (n : ℕ) (found : GivenCells) (line : List ℕ) (ls : List (List ℕ)) (e : Entry) → FoundFits found
        → ((more : GivenCells) → FoundFits more → read_from spec (n + 1) more ls ≡ Ok e → Fits spec e)
        → (r : Result GivenCells EntryError) → with_line n (said spec line) found ≡ r → goes_on spec r (λ more. read_from spec (n + 1) more ls) ≡ Ok e → Fits spec e
    by_line n found line ls e f ih (Err x) r h = cc
    by_line n found line ls e f ih (Ok more) r h = ih more (with_line_fits n (said spec line) (said_fits line) found f more r) h

pub entries_fit : EntriesFit
entries_fit spec bytes e h = read_fits spec 1 none_found (lines bytes) e (tt, refl) h
