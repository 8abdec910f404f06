-- The one state of an entry is a state that the entry describes.
use Rattle.std.proofs.Common.{◌≡◌, if◌then◌else◌, ◌+◌, ◌<◌, ◌≤◌, ◌^◌, ◌==◌, ◌&&◌, ℕ, zero, suc, Bool, true, false, List, [], ◌∷◌, ◌++◌, length, map, Option, Some, None, Result, Ok, Err, is_some, refl, sym, subst, ap, ◌∙◌, inl, inr, arith, nat_lt, nat_le, slice_get}
use Rattle.std.proofs.lemmas.Bool.{and_parts, cases_Bool, eqb-true as same_number}
use Rattle.std.proofs.lemmas.Bool.Decides.{nat_tests}
use Rattle.std.proofs.lemmas.Nat.{pow_pos}
use Rattle.std.proofs.lemmas.Option.{none-some, same_Some}
use Rattle.std.specs.List.{list_all}
use Rattle.spec_ir.specs.declared.ty.Ty.{Ty}
use Rattle.spec_ir.specs.declared.ty.Ty.TheVariants.{Bool as Flag, Word, Data as DataTy, Map as MapOf}
use Rattle.spec_ir.specs.declared.declared.MapType.{MapType}
use Rattle.spec_ir.specs.Specification.{Spec}
use Rattle.semantics_values.specs.declared.entry.GivenNumber.{GivenNumber}
use Rattle.semantics_values.specs.declared.entry.GivenNumber.TheVariants.{One, Any, Range}
use Rattle.semantics_values.specs.declared.entry.KeyAt.{KeyAt}
use Rattle.semantics_values.specs.declared.entry.KeyAt.TheVariants.{Whole, Rest, At}
use Rattle.semantics_values.specs.declared.entry.Line.{Line}
use Rattle.semantics_values.specs.declared.value.Cell.{Cell}
use Rattle.semantics_values.specs.States.{State}
use Rattle.semantics_values.specs.Types.{cell_fits, environment_of, has_type, have_types, key_count, keys_ascend, listed_fits, map_fits}
use Rattle.semantics_values.specs.Values.{Val, cell_at, put_cell, vals}
use Rattle.semantics.specs.Entries.{AreEntryFields, IsEntryCell, IsEntryField, IsEntryMap, IsEntryMapOf, IsEntryState, IsGiven, entry_cell, entry_field, entry_fields, entry_map, given_at, given_cell, given_or, given_rest, is_key, named_cells, one_number, one_state_of, with_line}
use Rattle.state_cell_text.specs.Places.{Field, state_fields}
use Rattle.state_text.specs.declared.entry_error.EntryError.{EntryError}
use Rattle.state_text.specs.Laws.{AreCellTypes, HasFields, IsCellType, IsMapType, OneIsDescribed}
use Rattle.state_text.specs.Lines.{lines}
use Rattle.state_text.specs.Meaning.{given_fits}
use Rattle.state_text.specs.OneState.{first_open, one_state, only_state, types_behind}
use Rattle.state_text.specs.Reading.{Entry, none_found, read, single_number}
use Rattle.state_text.proofs.Fitting.{AllFit, EntryFits, FieldTypes, FitsField, FitsMap, FitsType, KeyBelow, read_fits}

-- ---- what gives one number

-- one number, of at most w bits
abbrev IsOneOf : ℕ → GivenNumber → Type 0
IsOneOf w g = (one_number g < 2 ^ w) × IsGiven g (one_number g)

one_of : (w : ℕ) (g : GivenNumber) → is_some (single_number g) ≡ true → given_fits g w ≡ true → IsOneOf w g
one_of w (One v) one fits = (grind (arith, nat_tests, fits), refl)
one_of w Any one fits = absurd (let bad : false ≡ true = one in cc)
one_of w (Range lo hi) one fits = elim (cases_Bool (lo == hi)) [
  | inl e ↦
      let same : lo ≡ hi = grind (arith, nat_tests, e) in
      let below : hi < 2 ^ w = grind (arith, nat_tests, fits) in
      (omega (arith, same, below), (omega arith, omega (arith, same)))
  | inr e ↦ absurd (let bad : false ≡ true = rw e at one in cc)
]

-- each line gives one number
abbrev AllOne : List Line → Type 0
AllOne [] = Unit {0}
AllOne (l ∷ ls) = (is_some (single_number l.given) ≡ true) × AllOne ls

all_one : (ls : List Line) → first_open ls ≡ None → AllOne ls
all_one [] h = tt
all_one (l ∷ ls) h = elim (cases_Bool (is_some (single_number l.given))) [
  | inl e ↦ (e, all_one ls (rw e at h))
  | inr e ↦ absurd (none-some l (sym (rw e at h)))
]

-- what the lines of a field of w bits give
abbrev AllOneOf : ℕ → ℕ → List Line → Type 0
AllOneOf i w [] = Unit {0}
AllOneOf i w (l ∷ ls) = (l.field ≡ i → IsOneOf w l.given) × AllOneOf i w ls

-- the keys of a field in lines
abbrev AllKeys : ℕ → ℕ → List Line → Type 0
AllKeys i keys [] = Unit {0}
AllKeys i keys (l ∷ ls) = (l.field ≡ i → KeyBelow keys l.key) × AllKeys i keys ls

pub key_same : (j k : KeyAt) → is_key j k ≡ true → j ≡ k
key_same Whole Whole h = refl
key_same Whole Rest h = absurd (let bad : false ≡ true = h in cc)
key_same Whole (At k) h = absurd (let bad : false ≡ true = h in cc)
key_same Rest Whole h = absurd (let bad : false ≡ true = h in cc)
key_same Rest Rest h = refl
key_same Rest (At k) h = absurd (let bad : false ≡ true = h in cc)
key_same (At j) Whole h = absurd (let bad : false ≡ true = h in cc)
key_same (At j) Rest h = absurd (let bad : false ≡ true = h in cc)
key_same (At j) (At k) h = ap At (same_number j k h)

-- ---- what is given at a key

given_one : (i w : ℕ) (key : KeyAt) (ls : List Line) (other : GivenNumber) → AllOneOf i w ls → IsOneOf w other → IsOneOf w (given_or (given_at ls i key) other)
given_one i w key [] other all o = o
given_one i w key (l ∷ ls) other all o = elim (cases_Bool (l.field == i)) [
  | inr e ↦ rw e (given_one i w key ls other all.1 o)
  | inl e ↦ elim (cases_Bool (is_key l.key key)) [
    | inl f ↦ rw (e, f) (all.0 (same_number l.field i e))
    | inr f ↦ rw (e, f) (given_one i w key ls other all.1 o)
  ]
]

-- a cell that is put
put_same : (k : ℕ) (x : Cell) (r : Cell) (cs : List (ℕ × Cell)) → cell_at r (put_cell k x cs) k ≡ x
put_same k x r [] = let e : (k == k) ≡ true = grind (arith, nat_tests) in rw e refl
put_same k x r (c ∷ cs) =
    let here : (k == k) ≡ true = grind (arith, nat_tests) in
    elim (cases_Bool (c.0 == k)) [
      | inl e ↦ rw (e, here) refl
      | inr e ↦ elim (cases_Bool (nat_lt k c.0)) [
        | inl f ↦ rw (e, f, here) refl
        | inr f ↦ rw (e, f, e) (put_same k x r cs)
      ]
    ]

put_other : (k j : ℕ) (x : Cell) (r : Cell) (cs : List (ℕ × Cell)) → (k == j) ≡ false → cell_at r (put_cell k x cs) j ≡ cell_at r cs j
put_other k j x r [] ne = rw ne refl
put_other k j x r (c ∷ cs) ne = elim (cases_Bool (c.0 == k)) [
  | inl e ↦
      let there : (c.0 == j) ≡ false = (let same = same_number c.0 k e in rw same ne) in
      rw (e, ne, there) refl
  | inr e ↦ elim (cases_Bool (nat_lt k c.0)) [
    | inl f ↦ rw (e, f, ne) refl
    | inr f ↦ rw (e, f) (elim (cases_Bool (c.0 == j)) [
      | inl g ↦ rw g refl
      | inr g ↦ rw g (put_other k j x r cs ne)
    ])
  ]
]

-- the cell at a key of those that lines name
put_at : (i k : ℕ) (rest : GivenNumber) (key : KeyAt) (g : GivenNumber) (ls : List Line)
    → cell_at (entry_cell (one_number rest)) (named_cells ls i) k ≡ entry_cell (one_number (given_or (given_at ls i (At k)) rest))
    → cell_at (entry_cell (one_number rest)) (with_line key g (named_cells ls i)) k ≡ entry_cell (one_number (given_or (if is_key key (At k) then (Some g) else given_at ls i (At k)) rest))
put_at i k rest Whole g ls more = more
put_at i k rest Rest g ls more = more
put_at i k rest (At j) g ls more = elim (cases_Bool (j == k)) [
  | inl f ↦ rw (f, same_number j k f) (put_same k (entry_cell (one_number g)) (entry_cell (one_number rest)) (named_cells ls i))
  | inr f ↦ rw (f, put_other j k (entry_cell (one_number g)) (entry_cell (one_number rest)) (named_cells ls i) f) more
]

named_at : (i k : ℕ) (rest : GivenNumber) (ls : List Line) → cell_at (entry_cell (one_number rest)) (named_cells ls i) k ≡ entry_cell (one_number (given_or (given_at ls i (At k)) rest))
named_at i k rest [] = refl
named_at i k rest (l ∷ ls) = elim (cases_Bool (l.field == i)) [
  | inr e ↦ rw e (named_at i k rest ls)
  | inl e ↦ rw e (put_at i k rest l.key l.given ls (named_at i k rest ls))
]

-- ---- the cells of a map are sorted, and fit

put_ascends : (k least : ℕ) (x : Cell) (cs : List (ℕ × Cell)) → least ≤ k → keys_ascend least cs ≡ true → keys_ascend least (put_cell k x cs) ≡ true
put_ascends k least x [] le h = let t : nat_le least k ≡ true = grind (arith, nat_tests, le) in rw t refl
put_ascends k least x (c ∷ cs) le h =
    let both = and_parts (nat_le least c.0) (keys_ascend (suc c.0) cs) h in
    let t : nat_le least k ≡ true = grind (arith, nat_tests, le) in
    elim (cases_Bool (c.0 == k)) [
      | inl e ↦
          let same : c.0 ≡ k = same_number c.0 k e in
          rw (e, t) (subst (λ n. keys_ascend (suc n) cs ≡ true) same both.1)
      | inr e ↦ elim (cases_Bool (nat_lt k c.0)) [
        | inl f ↦
            let next : nat_le (suc k) c.0 ≡ true = grind (arith, nat_tests, f) in
            rw (e, f, t, next) both.1
        | inr f ↦
            let after : suc c.0 ≤ k = grind (arith, nat_tests, e, f) in
            rw (e, f, both.0) (put_ascends k (suc c.0) x cs after both.1)
      ]
    ]

with_ascends : (key : KeyAt) (g : GivenNumber) (cs : List (ℕ × Cell)) → keys_ascend 0 cs ≡ true → keys_ascend 0 (with_line key g cs) ≡ true
with_ascends Whole g cs h = h
with_ascends Rest g cs h = h
with_ascends (At k) g cs h = put_ascends k 0 (entry_cell (one_number g)) cs (omega arith) h

named_ascend : (i : ℕ) (ls : List Line) → keys_ascend 0 (named_cells ls i) ≡ true
named_ascend i [] = refl
named_ascend i (l ∷ ls) = elim (cases_Bool (l.field == i)) [
  | inl e ↦ rw e (with_ascends l.key l.given (named_cells ls i) (named_ascend i ls))
  | inr e ↦ rw e (named_ascend i ls)
]

put_fits : (keys w k : ℕ) (x : Cell) (cs : List (ℕ × Cell)) → listed_fits keys w (k, x) ≡ true → list_all (listed_fits keys w) cs ≡ true → list_all (listed_fits keys w) (put_cell k x cs) ≡ true
put_fits keys w k x [] one h = rw one refl
put_fits keys w k x (c ∷ cs) one h =
    let both = and_parts (listed_fits keys w c) (list_all (listed_fits keys w) cs) h in
    elim (cases_Bool (c.0 == k)) [
      | inl e ↦ rw (e, one) both.1
      | inr e ↦ elim (cases_Bool (nat_lt k c.0)) [
        | inl f ↦ rw (e, f, one) h
        | inr f ↦ rw (e, f, both.0) (put_fits keys w k x cs one both.1)
      ]
    ]

with_fits : (keys w : ℕ) (key : KeyAt) (g : GivenNumber) (cs : List (ℕ × Cell)) → IsOneOf w g → KeyBelow keys key → list_all (listed_fits keys w) cs ≡ true → list_all (listed_fits keys w) (with_line key g cs) ≡ true
with_fits keys w Whole g cs o b h = h
with_fits keys w Rest g cs o b h = h
with_fits keys w (At k) g cs o b h =
    let lt : nat_lt k keys ≡ true = grind (arith, nat_tests, b) in
    let fits : nat_lt (one_number g) (2 ^ w) ≡ true = grind (arith, nat_tests, o.0) in
    put_fits keys w k (entry_cell (one_number g)) cs (rw (lt, fits) refl) h

named_fit : (i w keys : ℕ) (ls : List Line) → AllOneOf i w ls → AllKeys i keys ls → list_all (listed_fits keys w) (named_cells ls i) ≡ true
named_fit i w keys [] o b = refl
named_fit i w keys (l ∷ ls) o b = elim (cases_Bool (l.field == i)) [
  | inl e ↦
      let same = same_number l.field i e in
      rw e (with_fits keys w l.key l.given (named_cells ls i) (o.0 same) (b.0 same) (named_fit i w keys ls o.1 b.1))
  | inr e ↦ rw e (named_fit i w keys ls o.1 b.1)
]

-- ---- fields

module _ (spec : Spec) (i : ℕ) where
  word_one : (w : ℕ) (ls : List Line) → slice_get (FieldTypes spec) i ≡ Some (Word w) → AllFit spec ls → AllOne ls → AllOneOf i w ls
  word_one w [] is fit one = tt
  word_one w (l ∷ ls) is fit one = (λ same. one_of w l.given one.0 (fit.0 (Word w) (ap (slice_get (FieldTypes spec)) same ∙ is)), word_one w ls is fit.1 one.1)

  map_one : (m : ℕ) (d : MapType) (ls : List Line) → slice_get (FieldTypes spec) i ≡ Some (MapOf m) → slice_get spec.maps m ≡ Some d → AllFit spec ls → AllOne ls → AllOneOf i d.width ls
  map_one m d [] is e fit one = tt
  map_one m d (l ∷ ls) is e fit one =
      (λ same. one_of d.width l.given one.0 (let h = fit.0 (MapOf m) (ap (slice_get (FieldTypes spec)) same ∙ is) in (rw e at h).0), map_one m d ls is e fit.1 one.1)

  map_keys : (m : ℕ) (d : MapType) (ls : List Line) → slice_get (FieldTypes spec) i ≡ Some (MapOf m) → slice_get spec.maps m ≡ Some d → AllFit spec ls → AllKeys i (key_count (environment_of spec) d.key) ls
  map_keys m d [] is e fit = tt
  map_keys m d (l ∷ ls) is e fit =
      (λ same. (let h = fit.0 (MapOf m) (ap (slice_get (FieldTypes spec)) same ∙ is) in (rw e at h).1), map_keys m d ls is e fit.1)

  -- a field is one that the entry gives, and has its type
  abbrev IsDescribed : List Line → Ty → Val → Type 0
  IsDescribed ls ty v = IsEntryField (environment_of spec) ls i ty v × (has_type (environment_of spec) v ty ≡ true)

  itself : (n : ℕ) → (n == n) ≡ true
  itself n = grind (arith, nat_tests)

  map_described : (m : ℕ) (o : Option MapType) (ls : List Line) → slice_get spec.maps m ≡ o → slice_get (FieldTypes spec) i ≡ Some (MapOf m) → IsMapType spec o → AllFit spec ls → AllOne ls
      → IsDescribed ls (MapOf m) (entry_map (environment_of spec) ls i m o)
  map_described m None ls e is types fit one = absurd types
  map_described m (Some d) ls e is types fit one =
      let keys = key_count (environment_of spec) d.key in
      let all = map_one m d ls is e fit one in
      let below = map_keys m d ls is e fit in
      let rest = given_rest ls i d.default in
      let rest_one : IsOneOf d.width rest = given_one i d.width Rest ls (One d.default) all (types.2, refl) in
      let rest_fits : nat_lt (one_number rest) (2 ^ d.width) ≡ true = grind (arith, nat_tests, rest_one.0) in
      let each : (k : ℕ) → k < keys → IsEntryCell (given_cell ls i d.default k) d.width (cell_at (entry_cell (one_number rest)) (named_cells ls i) k) =
      λ k lt. (let cell_one = given_one i d.width (At k) ls rest all rest_one in rw (named_at i k rest ls) (record { stamp = refl; word = cell_one.0; given = cell_one.1 })) in
      let cells : IsEntryMap (environment_of spec) ls i d (entry_cell (one_number rest)) (named_cells ls i) = record { others = record { stamp = refl; word = rest_one.0; given = rest_one.1 }; each = each } in
      let fits : map_fits (environment_of spec) (Some d) (entry_cell (one_number rest)) (named_cells ls i) ≡ true = rw (rest_fits, named_ascend i ls, named_fit i d.width keys ls all below) refl in
      rw e ((refl, cells), rw (itself m) fits)

  field_described : (ty : Ty) (ls : List Line) → slice_get (FieldTypes spec) i ≡ Some ty → IsCellType spec ty → AllFit spec ls → AllOne ls → IsDescribed ls ty (entry_field (environment_of spec) ls i ty)
  field_described (Word w) ls is types fit one =
      let o : IsOneOf w (given_or (given_at ls i Whole) (One 0)) = given_one i w Whole ls (One 0) (word_one w ls is fit one) (pow_pos w, refl) in
      let fits : nat_lt (one_number (given_or (given_at ls i Whole) (One 0))) (2 ^ w) ≡ true = grind (arith, nat_tests, o.0) in
      ((refl, o.0, o.1), rw (itself w, fits) refl)
  field_described (MapOf m) ls is types fit one = map_described m (slice_get spec.maps m) ls refl is types fit one
  field_described Flag ls is types fit one = absurd types
  field_described (DataTy t) ls is types fit one = absurd types

-- the types of fields from number i on
abbrev TypesAt : List Ty → ℕ → List Ty → Type 0
TypesAt all i types = (j : ℕ) → slice_get all (i + j) ≡ slice_get types j

types_behind_one : (all : List Ty) (i : ℕ) (t : Ty) (types : List Ty) → TypesAt all i (t ∷ types) → TypesAt all (suc i) types
types_behind_one all i t types at j = let e : suc i + j ≡ i + suc j = omega arith in rw e (at (suc j))

fields_described : (spec : Spec) (i : ℕ) (types : List Ty) (ls : List Line) → TypesAt (FieldTypes spec) i types → AreCellTypes spec types → AllFit spec ls → AllOne ls
    → AreEntryFields (environment_of spec) ls i types (entry_fields (environment_of spec) ls i types) × (have_types (environment_of spec) (vals (entry_fields (environment_of spec) ls i types)) types ≡ true)
fields_described spec i [] ls at are fit one = (tt, refl)
fields_described spec i (t ∷ types) ls at are fit one =
    let e : i + 0 ≡ i = omega arith in
    let here : slice_get (FieldTypes spec) i ≡ Some t = rw e at (at 0) in
    let first = field_described spec i t ls here are.0 fit one in
    let more = fields_described spec (suc i) types ls (types_behind_one (FieldTypes spec) i t types at) are.1 fit one in
    ((first.0, more.0), rw (first.1, more.1) refl)

types_of : (all : List Field) → 1 ≤ length all → TypesAt (map (λ f. f.1) all) 1 (types_behind all)
types_of [] some j = absurd (omega (arith, some))
types_of (f ∷ fields) some j = let e : 1 + j ≡ suc j = omega arith in rw e refl

-- ---- the state

abbrev state_or : State → Result State EntryError → State
state_or s (Ok t) = t
state_or s (Err e) = s

only_shown : (spec : Spec) (e : Entry) (s : State) (o : Option Line) → first_open e.lines ≡ o → only_state spec o e ≡ Ok s
    → (first_open e.lines ≡ None) × (one_state_of (environment_of spec) (types_behind (state_fields spec)) e.pc e.lines ≡ s)
only_shown spec e s (Some l) is h = cc
only_shown spec e s None is h = (is, ap (state_or s) h)

fits_of : (spec : Spec) (bytes : List ℕ) (e : Entry) (r : Result Entry EntryError) → EntryFits spec r → r ≡ Ok e → AllFit spec e.lines
fits_of spec bytes e r fits h = let f = rw h at fits in f

pub one_is_described : OneIsDescribed
one_is_described spec bytes e s has read_is one_is =
    let fit : AllFit spec e.lines = fits_of spec bytes e (read spec bytes) (read_fits spec 1 none_found (lines bytes) tt) read_is in
    let only = only_shown spec e s (first_open e.lines) refl one_is in
    let types = types_behind (state_fields spec) in
    let found = fields_described spec 1 types e.lines (types_of (state_fields spec) has.some) has.types fit (all_one e.lines only.0) in
    subst (IsEntryState (environment_of spec) types e.pc e.lines) only.1 (record { counter = refl; typed = found.1; fields = found.0 })
