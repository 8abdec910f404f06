-- The one state of an entry that fits.
use Rattle.std.proofs.Common.{◌≡◌, ◌∙◌, ℕ, suc, ◌+◌, ◌<◌, ◌^◌, ◌&&◌, ◌==◌, Bool, true, false, List, [], ◌∷◌, Option, Some, None, Ok, slice_get, refl, sym, ap, subst, arith}
use Rattle.std.specs.Prelude.{nat_lt, is_some, if◌then◌else◌}
use Rattle.std.specs.List.{list_all}
use Rattle.std.proofs.lemmas.Nat.{pow_pos}
use Rattle.std.proofs.lemmas.Bool.Decides.{nat_tests}
use Rattle.std.proofs.lemmas.Bool.{and_from as and_true, and_parts as both}
use Rattle.spec_ir.specs.declared.ty.Ty.{Ty}
use Rattle.spec_ir.specs.declared.ty.Ty.TheVariants.{Bool as Flag, Word, Data as DataTy, Map as MapOf}
use Rattle.spec_ir.specs.declared.declared.MapType.{MapType}
use Rattle.spec_ir.specs.Environment.{Environment}
use Rattle.spec_ir.specs.Specification.{Spec}
use Rattle.semantics_values.specs.declared.entry.GivenNumber.{GivenNumber}
use Rattle.semantics_values.specs.declared.entry.GivenNumber.TheVariants.{One, Any, Range}
use Rattle.semantics_values.specs.declared.entry.KeyAt.{KeyAt}
use Rattle.semantics_values.specs.declared.entry.KeyAt.TheVariants.{Whole, Rest, At}
use Rattle.semantics_values.specs.declared.entry.Line.{Line}
use Rattle.semantics_values.specs.States.{State}
use Rattle.semantics_values.specs.Types.{key_count, keys_ascend, listed_fits, map_fits, has_type, have_types, environment_of}
use Rattle.semantics_values.specs.Values.{vals, cell_at, map as map_of}
use Rattle.semantics.specs.Entries.{IsGiven, is_key, given_at, given_or, given_word, given_rest, given_cell, IsEntryCell, IsEntryMap, IsEntryMapOf, IsEntryField, AreEntryFields, IsEntryState, one_number, entry_cell, named_cells, entry_map, entry_field, entry_fields, one_state_of}
use Rattle.state_cell_text.specs.Places.{state_fields}
use Rattle.state_text.specs.Meaning.{given_fits}
use Rattle.state_text.specs.OneState.{only_state, first_open, types_behind}
use Rattle.state_text.specs.Reading.{Entry, single_number}
use Rattle.state_text.proofs.Described.{key_same as key_is}
use Rattle.state_entry_laws.specs.Fitting.{field_type, place_fits, key_fits, line_fits, has_default, is_cell}
use Rattle.state_entry_laws.specs.Laws.{OneStatesAreDescribed}
use Rattle.state_entry_laws.proofs.Cells.{put_at, put_keeps}
use Rattle.semantics_laws.proofs.Maps.{put_ascends}

-- a value is one number
abbrev IsOne : GivenNumber → Type 0
IsOne g = is_some (single_number g) ≡ true

single_by : (lo hi : ℕ) (b : Bool) → (lo == hi) ≡ b → is_some (if lo == hi then Some lo else None) ≡ true → lo ≡ hi
single_by lo hi true e h = grind (arith, nat_tests, e)
single_by lo hi false e h = cc

-- the one number is given
one_is_given : (g : GivenNumber) → IsOne g → IsGiven g (one_number g)
one_is_given (One v) h = refl
one_is_given Any h = cc
one_is_given (Range lo hi) h = let e = single_by lo hi (lo == hi) refl h in (omega arith, omega (arith, e))

-- and it has the width
one_fits : (g : GivenNumber) (w : ℕ) → IsOne g → given_fits g w ≡ true → one_number g < 2 ^ w
one_fits (One v) w h f = grind (arith, nat_tests, f)
one_fits Any w h f = cc
one_fits (Range lo hi) w h f =
    let e = single_by lo hi (lo == hi) refl h in
    let less : hi < 2 ^ w = grind (arith, nat_tests, f) in
    rw e less

module _ (env : Environment) (types : List Ty) where
  -- lines fit, and each gives one number
  abbrev AreSingle : List Line → Type 0
  AreSingle [] = Unit {0}
  AreSingle (l ∷ lines) = (line_fits env types l ≡ true) × IsOne l.given × AreSingle lines

  pub are_single : (lines : List Line) → list_all (line_fits env types) lines ≡ true → first_open lines ≡ None → AreSingle lines
  are_single [] h o = tt
  are_single (l ∷ lines) h o = by_one l lines (both (line_fits env types l) (list_all (line_fits env types) lines) h) (is_some (single_number l.given)) refl o (are_single lines) where
    by_one : (l : Line) (lines : List Line) → (line_fits env types l ≡ true) × (list_all (line_fits env types) lines ≡ true)
        → (b : Bool) → is_some (single_number l.given) ≡ b → (if is_some (single_number l.given) then first_open lines else Some l) ≡ None
        → (list_all (line_fits env types) lines ≡ true → first_open lines ≡ None → AreSingle lines) → AreSingle (l ∷ lines)
    by_one l lines p true e o rec = (p.0, e, rec p.1 (rw e at o))
    by_one l lines p false e o rec = let o' = rw e at o in cc

positive : (w : ℕ) → given_fits (One 0) w ≡ true
positive w = let p : 0 < 2 ^ w = pow_pos w in grind (arith, nat_tests, p)

-- a value is one number, of a width
abbrev IsOneOf : GivenNumber → ℕ → Type 0
IsOneOf g w = IsOne g × (given_fits g w ≡ true)

or_one : (o : Option GivenNumber) (other : GivenNumber) (w : ℕ) → ((g : GivenNumber) → o ≡ Some g → IsOneOf g w) → IsOneOf other w → IsOneOf (given_or o other) w
or_one None other w f h = h
or_one (Some g) other w f h = f g refl

entry_cell_is : (g : GivenNumber) (w : ℕ) → IsOneOf g w → IsEntryCell g w (entry_cell (one_number g))
entry_cell_is g w h = record { stamp = refl; word = one_fits g w h.0 h.1; given = one_is_given g h.0 }

-- the cell at a key among those that lines name
cell_named : (lines : List Line) (n k : ℕ) (other : GivenNumber) → cell_at (entry_cell (one_number other)) (named_cells lines n) k ≡ entry_cell (one_number (given_or (given_at lines n (At k)) other))
cell_named [] n k other = refl
cell_named (l ∷ lines) n k other = by_field l lines n k other (cell_named lines n k other) (l.field == n) refl l.key refl where
  by_key : (l : Line) (lines : List Line) (n k j : ℕ) (other : GivenNumber) → cell_at (entry_cell (one_number other)) (named_cells lines n) k ≡ entry_cell (one_number (given_or (given_at lines n (At k)) other))
      → (b : Bool) → (j == k) ≡ b
      → (if j == k then entry_cell (one_number l.given) else cell_at (entry_cell (one_number other)) (named_cells lines n) k) ≡ entry_cell (one_number (given_or (if j == k then Some l.given else given_at lines n (At k)) other))
  by_key l lines n k j other ih true e = rw e refl
  by_key l lines n k j other ih false e = rw e ih

  by_field : (l : Line) (lines : List Line) (n k : ℕ) (other : GivenNumber) → cell_at (entry_cell (one_number other)) (named_cells lines n) k ≡ entry_cell (one_number (given_or (given_at lines n (At k)) other))
      → (b : Bool) → (l.field == n) ≡ b → (key : KeyAt) → l.key ≡ key
      → cell_at (entry_cell (one_number other)) (named_cells (l ∷ lines) n) k ≡ entry_cell (one_number (given_or (given_at (l ∷ lines) n (At k)) other))
  by_field l lines n k other ih false e key at = rw e ih
  by_field l lines n k other ih true e Whole at = rw (e, at) ih
  by_field l lines n k other ih true e Rest at = rw (e, at) ih
  by_field l lines n k other ih true e (At j) at = rw (e, at) (put_at (entry_cell (one_number other)) j (entry_cell (one_number l.given)) (named_cells lines n) k ∙ by_key l lines n k j other ih (j == k) refl)

named_ascend : (lines : List Line) (n : ℕ) → keys_ascend 0 (named_cells lines n) ≡ true
named_ascend [] n = refl
named_ascend (l ∷ lines) n = by_field l lines n (named_ascend lines n) (l.field == n) refl l.key refl where
  by_field : (l : Line) (lines : List Line) (n : ℕ) → keys_ascend 0 (named_cells lines n) ≡ true → (b : Bool) → (l.field == n) ≡ b → (key : KeyAt) → l.key ≡ key → keys_ascend 0 (named_cells (l ∷ lines) n) ≡ true
  by_field l lines n ih false e key at = rw e ih
  by_field l lines n ih true e Whole at = rw (e, at) ih
  by_field l lines n ih true e Rest at = rw (e, at) ih
  by_field l lines n ih true e (At j) at = rw (e, at) (put_ascends 0 j (entry_cell (one_number l.given)) (named_cells lines n) (omega arith) ih)

module _ (env : Environment) (types : List Ty) where
  -- what lines give of a part of a field fits it, and is one number
  found_one : (lines : List Line) → AreSingle env types lines → (n : ℕ) (key : KeyAt) (g : GivenNumber) → given_at lines n key ≡ Some g → (place_fits env (field_type types n) key g ≡ true) × IsOne g
  found_one [] h n key g e = cc
  found_one (l ∷ lines) h n key g e = by_test l lines h n key g (found_one lines h.2 n key g) (l.field == n) refl (is_key l.key key) refl e where
    by_test : (l : Line) (lines : List Line) → AreSingle env types (l ∷ lines) → (n : ℕ) (key : KeyAt) (g : GivenNumber)
        → (given_at lines n key ≡ Some g → (place_fits env (field_type types n) key g ≡ true) × IsOne g)
        → (b : Bool) → (l.field == n) ≡ b → (d : Bool) → is_key l.key key ≡ d → given_at (l ∷ lines) n key ≡ Some g → (place_fits env (field_type types n) key g ≡ true) × IsOne g
    by_test l lines h n key g ih false e d f s = ih (rw e at s)
    by_test l lines h n key g ih true e false f s = ih (rw (e, f) at s)
    by_test l lines h n key g ih true e true f s =
        let same : l.given ≡ g = let s' = rw (e, f) at s in cc in
        let field : l.field ≡ n = grind (arith, nat_tests, e) in
        let key' = key_is l.key key f in
        (subst (λ m. place_fits env (field_type types m) key g ≡ true) field (subst (λ k. place_fits env (field_type types l.field) k g ≡ true) key' (subst (λ x. place_fits env (field_type types l.field) l.key x ≡ true) same h.0)), subst IsOne same h.1)

  module _ (lines : List Line) (single : AreSingle env types lines) (n : ℕ) where
    word_one : (w : ℕ) → field_type types n ≡ Some (Word w) → IsOneOf (given_word lines n) w
    word_one w at = or_one (given_at lines n Whole) (One 0) w (λ g e. let f = found_one lines single n Whole g e in (f.1, rw at at f.0)) (refl, positive w)

    rest_one : (m : ℕ) (d : MapType) → field_type types n ≡ Some (MapOf m) → slice_get env.maps m ≡ Some d → nat_lt d.default (2 ^ d.width) ≡ true → IsOneOf (given_rest lines n d.default) d.width
    rest_one m d at there default = or_one (given_at lines n Rest) (One d.default) d.width (λ g e. let f = found_one lines single n Rest g e in (f.1, rw (at, there) at f.0)) (refl, default)

    cell_one : (m : ℕ) (d : MapType) → field_type types n ≡ Some (MapOf m) → slice_get env.maps m ≡ Some d → nat_lt d.default (2 ^ d.width) ≡ true → (k : ℕ) → IsOneOf (given_cell lines n d.default k) d.width
    cell_one m d at there default k = or_one (given_at lines n (At k)) (given_rest lines n d.default) d.width
        (λ g e. let f = found_one lines single n (At k) g e in let p : key_fits env (Some d) k g ≡ true = rw (at, there) at f.0 in (f.1, (both (nat_lt k (key_count env d.key)) (given_fits g d.width) p).1)) (rest_one m d at there default)

  named_listed : (lines : List Line) → AreSingle env types lines → (n m : ℕ) (d : MapType) → field_type types n ≡ Some (MapOf m) → slice_get env.maps m ≡ Some d
      → list_all (listed_fits (key_count env d.key) d.width) (named_cells lines n) ≡ true
  named_listed [] h n m d at there = refl
  named_listed (l ∷ lines) h n m d at there = by_field l lines h n m d at there (named_listed lines h.2 n m d at there) (l.field == n) refl l.key refl where
    by_field : (l : Line) (lines : List Line) → AreSingle env types (l ∷ lines) → (n m : ℕ) (d : MapType) → field_type types n ≡ Some (MapOf m) → slice_get env.maps m ≡ Some d
        → list_all (listed_fits (key_count env d.key) d.width) (named_cells lines n) ≡ true → (b : Bool) → (l.field == n) ≡ b → (key : KeyAt) → l.key ≡ key
        → list_all (listed_fits (key_count env d.key) d.width) (named_cells (l ∷ lines) n) ≡ true
    by_field l lines h n m d at there ih false e key k = rw e ih
    by_field l lines h n m d at there ih true e Whole k = rw (e, k) ih
    by_field l lines h n m d at there ih true e Rest k = rw (e, k) ih
    by_field l lines h n m d at there ih true e (At j) k =
        let field : l.field ≡ n = grind (arith, nat_tests, e) in
        let fits = subst (λ x. place_fits env (field_type types x) (At j) l.given ≡ true) field (subst (λ x. place_fits env (field_type types l.field) x l.given ≡ true) k h.0) in
        let p : key_fits env (Some d) j l.given ≡ true = rw (at, there) at fits in
        let parts = both (nat_lt j (key_count env d.key)) (given_fits l.given d.width) p in
        let small : one_number l.given < 2 ^ d.width = one_fits l.given d.width h.1 parts.1 in
        let test : nat_lt (one_number l.given) (2 ^ d.width) ≡ true = grind (arith, nat_tests, small) in
        rw (e, k) (put_keeps (listed_fits (key_count env d.key) d.width) j (entry_cell (one_number l.given)) (named_cells lines n) (and_true (nat_lt j (key_count env d.key)) (nat_lt (one_number l.given) (2 ^ d.width)) parts.0 test) ih)

  module _ (lines : List Line) (single : AreSingle env types lines) where
    abbrev IsGood : ℕ → Ty → Type 0
    IsGood n t = (has_type env (entry_field env lines n t) t ≡ true) × IsEntryField env lines n t (entry_field env lines n t)

    map_good : (n m : ℕ) (o : Option MapType) → slice_get env.maps m ≡ o → field_type types n ≡ Some (MapOf m) → has_default env o ≡ true → IsGood n (MapOf m)
    map_good n m None there at d = cc
    map_good n m (Some d) there at default =
        let rest = rest_one lines single n m d at there default in
        let rest_small : nat_lt (one_number (given_rest lines n d.default)) (2 ^ d.width) ≡ true = let s = one_fits (given_rest lines n d.default) d.width rest.0 rest.1 in grind (arith, nat_tests, s) in
        let fits = and_true (nat_lt (one_number (given_rest lines n d.default)) (2 ^ d.width)) (keys_ascend 0 (named_cells lines n) && list_all (listed_fits (key_count env d.key) d.width) (named_cells lines n)) rest_small
        (and_true (keys_ascend 0 (named_cells lines n)) (list_all (listed_fits (key_count env d.key) d.width) (named_cells lines n)) (named_ascend lines n) (named_listed lines single n m d at there)) in
        let same : (m == m) ≡ true = grind (arith, nat_tests) in
        let cells : IsEntryMap env lines n d (entry_cell (one_number (given_rest lines n d.default))) (named_cells lines n) = record {
          others = entry_cell_is (given_rest lines n d.default) d.width rest;
          each = λ k within. subst (IsEntryCell (given_cell lines n d.default k) d.width) (sym (cell_named lines n k (given_rest lines n d.default)))
              (entry_cell_is (given_cell lines n d.default k) d.width (cell_one lines single n m d at there default k));
        } in
        let rest_cell = entry_cell (one_number (given_rest lines n d.default)) in
        let listed = named_cells lines n in
        let entry_is : entry_field env lines n (MapOf m) ≡ map_of m rest_cell listed = ap (entry_map env lines n m) there in
        let typed : has_type env (map_of m rest_cell listed) (MapOf m) ≡ true = and_true (m == m) (map_fits env (slice_get env.maps m) rest_cell listed) same (subst (λ o. map_fits env o rest_cell listed ≡ true) (sym there) fits) in
        let described : IsEntryField env lines n (MapOf m) (map_of m rest_cell listed) = (refl, subst (λ o. IsEntryMapOf env lines n o rest_cell listed) (sym there) cells) in
        (subst (λ v. has_type env v (MapOf m) ≡ true) (sym entry_is) typed, subst (IsEntryField env lines n (MapOf m)) (sym entry_is) described)

    field_good : (n : ℕ) (t : Ty) → field_type types n ≡ Some t → is_cell env t ≡ true → IsGood n t
    field_good n Flag at c = cc
    field_good n (DataTy d) at c = cc
    field_good n (MapOf m) at c = map_good n m (slice_get env.maps m) refl at c
    field_good n (Word w) at c =
        let one = word_one lines single n w at in
        let small = one_fits (given_word lines n) w one.0 one.1 in
        let test : nat_lt (one_number (given_word lines n)) (2 ^ w) ≡ true = grind (arith, nat_tests, small) in
        let same : (w == w) ≡ true = grind (arith, nat_tests) in
        (and_true (w == w) (nat_lt (one_number (given_word lines n)) (2 ^ w)) same test, (refl, small, one_is_given (given_word lines n) one.0))

    fields_good : (i : ℕ) (ts : List Ty) → ((j : ℕ) → slice_get types (i + j) ≡ slice_get ts j) → list_all (is_cell env) ts ≡ true
        → (have_types env (vals (entry_fields env lines (suc i) ts)) ts ≡ true) × AreEntryFields env lines (suc i) ts (entry_fields env lines (suc i) ts)
    fields_good i [] here c = (refl, tt)
    fields_good i (t ∷ ts) here c =
        let parts = both (is_cell env t) (list_all (is_cell env) ts) c in
        let first : slice_get types i ≡ Some t = subst (λ n. slice_get types n ≡ Some t) (omega arith) (here 0) in
        let good = field_good (suc i) t first parts.0 in
        let rest = fields_good (suc i) ts (λ j. subst (λ n. slice_get types n ≡ slice_get ts j) (omega arith) (here (suc j))) parts.1 in
        (and_true (has_type env (entry_field env lines (suc i) t) t) (have_types env (vals (entry_fields env lines (suc (suc i)) ts)) ts) good.0 rest.0, (good.1, rest.1))

-- what the one state is where each line gives one number
only_is : (spec : Spec) (o : Option Line) (e : Entry) (s : State) → only_state spec o e ≡ Ok s → (o ≡ None) × (one_state_of (environment_of spec) (types_behind (state_fields spec)) e.pc e.lines ≡ s)
only_is spec None e s h = (refl, cc)
only_is spec (Some l) e s h = cc

pub one_states_are_described : OneStatesAreDescribed
one_states_are_described spec e s cells fits h =
    let env = environment_of spec in
    let types = types_behind (state_fields spec) in
    let only = only_is spec (first_open e.lines) e s h in
    let single = are_single env types e.lines fits.lines only.0 in
    let good = fields_good env types e.lines single 0 types (λ j. ap (slice_get types) (omega arith)) cells in
    subst (IsEntryState env types e.pc e.lines) only.1 (record { counter = refl; typed = good.0; fields = good.1 })
