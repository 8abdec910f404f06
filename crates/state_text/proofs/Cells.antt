-- The printed cells of a state of the machine: they are read, in their order.
use Rattle.std.proofs.Common.{◌≡◌, ◌+◌, ◌<◌, ◌≤◌, ◌^◌, ◌==◌, ◌&&◌, ℕ, suc, true, false, List, [], ◌∷◌, ◌++◌, length, map, Option, Some, None, refl, ◌∙◌, inl, inr, arith, nat_lt, nat_le, slice_get}
use Rattle.std.proofs.lemmas.Bool.{and_parts, cases_Bool, ltb-true as below_is}
use Rattle.std.proofs.lemmas.Bool.Decides.{nat_tests}
use Rattle.std.specs.List.{list_all}
use Rattle.spec_ir.specs.declared.ty.Ty.{Ty}
use Rattle.spec_ir.specs.declared.ty.Ty.TheVariants.{Bool as Flag, Word, Data as DataTy, Map as MapOf}
use Rattle.spec_ir.specs.declared.declared.MapType.{MapType}
use Rattle.spec_ir.specs.Specification.{Spec}
use Rattle.spec_ir.specs.WellFormed.{is_width}
use Rattle.semantics_values.specs.declared.entry.GivenNumber.TheVariants.{One}
use Rattle.semantics_values.specs.declared.entry.KeyAt.TheVariants.{Whole, At}
use Rattle.semantics_values.specs.declared.value.Cell.{Cell}
use Rattle.semantics_values.specs.Types.{cell_fits, environment_of, has_type, have_types, key_count, keys_ascend, listed_fits, map_fits}
use Rattle.semantics_values.specs.Values.{Val, flag, word, made, map as map_of, vals}
use Rattle.state_cell_text.specs.declared.places.Place.TheVariants as place
use Rattle.state_cell_text.specs.Places.{Field, place_at, place_of}
use Rattle.state_text.specs.Forms.{is_name}
use Rattle.state_text.specs.Laws.{AreCellTypes, IsCellType, IsKeyType, IsMapType}
use Rattle.state_text.specs.Meaning.{cells, single_says}
use Rattle.state_text.proofs.Names.{ArePlaced, key_read}
use Rattle.state_text.proofs.Printed.{AllReadable, AllReadable-append, Ascends, IsFrom, IsReadable, Printed, printed, printed_as, printed_listed, printed_map, printed_rest}

-- a width
width_parts : (w : ℕ) → is_width w ≡ true → (1 ≤ w) × (w ≤ 64)
width_parts w h =
    let both = and_parts (nat_le 1 w) (nat_le w 64) h in
    (grind (arith, nat_tests, both.0), grind (arith, nat_tests, both.1))

-- ---- the maps

-- what is known of a field that is a map
pub record IsMapAt (spec : Spec) (i : ℕ) (name : List ℕ) (d : MapType) : Type 0 where
  pub named : is_name name ≡ true
  pub placed : place_of spec name ≡ Some (place.Map i d.key d.width)
  pub some : 1 ≤ d.width
  pub narrow : d.width ≤ 64
  pub keys : IsKeyType spec d.key

module _ (spec : Spec) (i : ℕ) (name : List ℕ) (d : MapType) (at : IsMapAt spec i name d) where
  readable_rest : (v : ℕ) → nat_lt v (2 ^ d.width) ≡ true → AllReadable spec (printed_rest i name d.key d.width d.default v)
  readable_rest v fits = elim (cases_Bool (v == d.default)) [
    | inl e ↦ rw e tt
    | inr e ↦ rw e (record { named = at.named; part = tt; some = at.some; narrow = at.narrow; small = below_is v (2 ^ d.width) fits; says = rw (at.placed, fits) refl }, tt)
  ]

  readable_listed : (r : ℕ) (cs : List (ℕ × Cell)) → list_all (listed_fits (key_count (environment_of spec) d.key) d.width) cs ≡ true → AllReadable spec (printed_listed i name d.key d.width r cs)
  readable_listed r [] fits = tt
  readable_listed r (c ∷ cs) fits =
      let both = and_parts (listed_fits (key_count (environment_of spec) d.key) d.width c) (list_all (listed_fits (key_count (environment_of spec) d.key) d.width) cs) fits in
      let one = and_parts (nat_lt c.0 (key_count (environment_of spec) d.key)) (cell_fits d.width c.1) both.0 in
      let more = readable_listed r cs both.1 in
      elim (cases_Bool (c.1.v == r)) [
        | inl e ↦ rw e more
        | inr e ↦
            let key = key_read spec d.key c.0 at.keys (below_is c.0 (key_count (environment_of spec) d.key) one.0) in
            let says : single_says spec (place_of spec name) _ (One c.1.v) ≡ cells i ((At c.0, One c.1.v) ∷ []) = rw (at.placed, key.0, one.1) refl in
            rw e (record { named = at.named; part = key.1; some = at.some; narrow = at.narrow; small = below_is c.1.v (2 ^ d.width) one.1; says = says }, more)
      ]

-- ---- the fields

pub map_parts : (d : MapType) (keys : ℕ) (r : Cell) (cs : List (ℕ × Cell)) → (cell_fits d.width r && (keys_ascend 0 cs && list_all (listed_fits keys d.width) cs)) ≡ true
    → (cell_fits d.width r ≡ true) × (keys_ascend 0 cs ≡ true) × (list_all (listed_fits keys d.width) cs ≡ true)
map_parts d keys r cs h =
    let first = and_parts (cell_fits d.width r) (keys_ascend 0 cs && list_all (listed_fits keys d.width) cs) h in
    let more = and_parts (keys_ascend 0 cs) (list_all (listed_fits keys d.width) cs) first.1 in
    (first.0, more.0, more.1)

-- a field behind the program counter
pub record IsFieldAt (spec : Spec) (i : ℕ) (name : List ℕ) (ty : Ty) : Type 0 where
  pub named : is_name name ≡ true
  pub placed : place_of spec name ≡ place_at spec i ty
  pub first : 1 ≤ i
  pub last : i < 2 ^ 32

place_is : (i : ℕ) → 1 ≤ i → i < 2 ^ 32 → ((i == 0) ≡ false) × (nat_lt i (2 ^ 32) ≡ true)
place_is i some few = (grind (arith, nat_tests, some), grind (arith, nat_tests, few))

module _ (spec : Spec) (i : ℕ) (name : List ℕ) where
  map_at : (m : ℕ) (d : MapType) → slice_get spec.maps m ≡ Some d → IsFieldAt spec i name (MapOf m) → IsMapType spec (Some d) → IsMapAt spec i name d
  map_at m d is f types =
      let number = place_is i f.first f.last in
      let width = width_parts d.width types.0 in
      record { named = f.named; placed = f.placed ∙ rw (number.0, number.1, is) refl; some = width.0; narrow = width.1; keys = types.1 }

  readable_map : (m : ℕ) (o : Option MapType) (r : Cell) (cs : List (ℕ × Cell)) → slice_get spec.maps m ≡ o → IsFieldAt spec i name (MapOf m) → IsMapType spec o → map_fits (environment_of spec) o r cs ≡ true
      → AllReadable spec (printed_map i name o r cs)
  readable_map m None r cs is f types fits = tt
  readable_map m (Some d) r cs is f types fits =
      let parts = map_parts d (key_count (environment_of spec) d.key) r cs fits in
      let at = map_at m d is f types in
      AllReadable-append spec (printed_rest i name d.key d.width d.default r.v) (printed_listed i name d.key d.width r.v cs) (readable_rest spec i name d at r.v parts.0) (readable_listed spec i name d at r.v cs parts.2)

  readable_word : (w v : ℕ) → IsFieldAt spec i name (Word w) → is_width w ≡ true → nat_lt v (2 ^ w) ≡ true → IsReadable spec (record { field = i; name = name; keys = Word w; key = Whole; width = w; value = v })
  readable_word w v f is fits =
      let number = place_is i f.first f.last in
      let width = width_parts w is in
      record { named = f.named; part = tt; some = width.0; narrow = width.1; small = below_is v (2 ^ w) fits; says = rw (f.placed, number.0, number.1, fits) refl }

  readable_as : (ty : Ty) (v : Val) → IsFieldAt spec i name ty → IsCellType spec ty → has_type (environment_of spec) v ty ≡ true → AllReadable spec (printed_as spec i name ty v)
  readable_as (Word w) (word u v) f is typed = (readable_word w v f is (and_parts (u == w) (nat_lt v (2 ^ w)) typed).1, tt)
  readable_as (Word w) (flag b) f is typed = tt
  readable_as (Word w) (made t k vs) f is typed = tt
  readable_as (Word w) (map_of n r cs) f is typed = tt
  readable_as (MapOf m) (map_of n r cs) f is typed =
      readable_map m (slice_get spec.maps m) r cs refl f is (and_parts (n == m) (map_fits (environment_of spec) (slice_get spec.maps m) r cs) typed).1
  readable_as (MapOf m) (flag b) f is typed = tt
  readable_as (MapOf m) (word u v) f is typed = tt
  readable_as (MapOf m) (made t k vs) f is typed = tt
  readable_as Flag v f is typed = tt
  readable_as (DataTy t) v f is typed = tt

pub readable : (spec : Spec) (i : ℕ) (fields : List Field) (parts : List Val) → ArePlaced spec (place_of spec) i fields → list_all is_name (map (λ f. f.0) fields) ≡ true
    → AreCellTypes spec (map (λ f. f.1) fields) → have_types (environment_of spec) (vals parts) (map (λ f. f.1) fields) ≡ true → 1 ≤ i → i + length fields ≤ 2 ^ 32
    → AllReadable spec (printed spec i fields parts)
readable spec i [] parts placed named types typed some few = tt
readable spec i (f ∷ fields) [] placed named types typed some few = tt
readable spec i (f ∷ fields) (v ∷ parts) placed named types typed some few =
    let names = and_parts (is_name f.0) (list_all is_name (map (λ g. g.0) fields)) named in
    let values = and_parts (has_type (environment_of spec) v f.1) (have_types (environment_of spec) (vals parts) (map (λ g. g.1) fields)) typed in
    let at : IsFieldAt spec i f.0 f.1 = record { named = names.0; placed = placed.0; first = some; last = omega (arith, few) } in
    AllReadable-append spec (printed_as spec i f.0 f.1 v) (printed spec (suc i) fields parts)
    (readable_as spec i f.0 f.1 v at types.0 values.0)
    (readable spec (suc i) fields parts placed.1 names.1 types.1 values.1 (omega arith) (omega (arith, few)))

-- ---- their order

-- what ascends from each place of a field up to i
abbrev Follows : ℕ → List Printed → Type 0
Follows i ps = (f r : ℕ) → f ≤ i → Ascends f r ps

module _ (i : ℕ) (name : List ℕ) where
  ascends_listed : (keys : Ty) (w x : ℕ) (cs : List (ℕ × Cell)) (least f r : ℕ) (more : List Printed) → f ≤ i → ((k : ℕ) → least ≤ k → IsFrom f r i (At k)) → keys_ascend least cs ≡ true → Follows i more
      → Ascends f r (printed_listed i name keys w x cs ++ more)
  ascends_listed keys w x [] least f r more le start ascend follows = follows f r le
  ascends_listed keys w x (c ∷ cs) least f r more le start ascend follows =
      let both = and_parts (nat_le least c.0) (keys_ascend (suc c.0) cs) ascend in
      let here : least ≤ c.0 = grind (arith, nat_tests, both.0) in
      elim (cases_Bool (c.1.v == x)) [
        | inl e ↦ rw e (ascends_listed keys w x cs (suc c.0) f r more le (λ k h. start k (omega (arith, h, here))) both.1 follows)
        | inr e ↦ rw e (start c.0 here, ascends_listed keys w x cs (suc c.0) i (suc (suc c.0)) more (omega arith) (λ k h. inr (refl, omega (arith, h))) both.1 follows)
      ]

  ascends_map : (keys : ℕ) (d : MapType) (x : Cell) (cs : List (ℕ × Cell)) (f r : ℕ) (more : List Printed) → f < i → keys_ascend 0 cs ≡ true → Follows i more
      → Ascends f r ((printed_rest i name d.key d.width d.default x.v ++ printed_listed i name d.key d.width x.v cs) ++ more)
  ascends_map keys d x cs f r more lt ascend follows = elim (cases_Bool (x.v == d.default)) [
    | inl e ↦ rw e (ascends_listed d.key d.width x.v cs 0 f r more (omega arith) (λ k h. inl lt) ascend follows)
    | inr e ↦ rw e (inl lt, ascends_listed d.key d.width x.v cs 0 i 1 more (omega arith) (λ k h. inr (refl, omega arith)) ascend follows)
  ]

  ascends_option : (spec : Spec) (o : Option MapType) (x : Cell) (cs : List (ℕ × Cell)) (f r : ℕ) (more : List Printed) → f < i → map_fits (environment_of spec) o x cs ≡ true → Follows i more
      → Ascends f r (printed_map i name o x cs ++ more)
  ascends_option spec None x cs f r more lt fits follows = follows f r (omega arith)
  ascends_option spec (Some d) x cs f r more lt fits follows =
      ascends_map 0 d x cs f r more lt (map_parts d (key_count (environment_of spec) d.key) x cs fits).1 follows

  ascends_as : (spec : Spec) (ty : Ty) (v : Val) (f r : ℕ) (more : List Printed) → f < i → has_type (environment_of spec) v ty ≡ true → Follows i more → Ascends f r (printed_as spec i name ty v ++ more)
  ascends_as spec (Word w) (word u v) f r more lt typed follows = (inl lt, follows i 1 (omega arith))
  ascends_as spec (Word w) (flag b) f r more lt typed follows = follows f r (omega arith)
  ascends_as spec (Word w) (made t k vs) f r more lt typed follows = follows f r (omega arith)
  ascends_as spec (Word w) (map_of n x cs) f r more lt typed follows = follows f r (omega arith)
  ascends_as spec (MapOf m) (map_of n x cs) f r more lt typed follows =
      ascends_option spec (slice_get spec.maps m) x cs f r more lt (and_parts (n == m) (map_fits (environment_of spec) (slice_get spec.maps m) x cs) typed).1 follows
  ascends_as spec (MapOf m) (flag b) f r more lt typed follows = follows f r (omega arith)
  ascends_as spec (MapOf m) (word u v) f r more lt typed follows = follows f r (omega arith)
  ascends_as spec (MapOf m) (made t k vs) f r more lt typed follows = follows f r (omega arith)
  ascends_as spec Flag v f r more lt typed follows = follows f r (omega arith)
  ascends_as spec (DataTy t) v f r more lt typed follows = follows f r (omega arith)

pub ascends : (spec : Spec) (i f r : ℕ) (fields : List Field) (parts : List Val) → f < i → have_types (environment_of spec) (vals parts) (map (λ g. g.1) fields) ≡ true → Ascends f r (printed spec i fields parts)
ascends spec i f r [] parts lt typed = tt
ascends spec i f r (g ∷ fields) [] lt typed = tt
ascends spec i f r (g ∷ fields) (v ∷ parts) lt typed =
    let values = and_parts (has_type (environment_of spec) v g.1) (have_types (environment_of spec) (vals parts) (map (λ h. h.1) fields)) typed in
    ascends_as i g.0 spec g.1 v f r (printed spec (suc i) fields parts) lt values.0 (λ h s le. ascends spec (suc i) h s fields parts (omega (arith, le)) values.1)
