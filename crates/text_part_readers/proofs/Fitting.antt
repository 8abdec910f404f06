-- What is read fits.
use Rattle.std.proofs.Common.{◌≡◌, ℕ, zero, suc, get_or, ◌+◌, ◌<◌, ◌≤◌, ◌^◌, Bool, true, false, IsTrue, List, [], ◌∷◌, ◌++◌, length, map as map_of, option_map, take, drop, length-append, nat_lt, nat_le, bytes_eq, Option, Some, None, Result, Ok, Err, slice_get, refl, sym, ap, subst, ◌∙◌, inl, inr, arith}
use Rattle.std.proofs.Math.ListN.{drop_of_length-le}
use Rattle.std.proofs.lemmas.Bool.{and_parts, cases_Bool}
use Rattle.std.proofs.lemmas.Bool.Decides.{nat_tests}
use Rattle.std.proofs.lemmas.List.{take_all}
use Rattle.std.proofs.lemmas.Option.{none-some, same_Some}
use Rattle.std.specs.Prelude.{◌&&◌, codes, IfOk, IfSome}
use Rattle.std.specs.List.{list_all}
use Rattle.word_operations.specs.Width.{IsWidth}
use Rattle.base_trait.specs.Algebra.{Algebra}
use Rattle.base_trait.specs.Lists.{Each, IsAscendingFrom}
use Rattle.spec_ir.specs.declared.ty.Ty.{Ty}
use Rattle.spec_ir.specs.declared.ty.Ty.TheVariants.{Bool as Flag, Word, Data as DataTy, Map as MapOf}
use Rattle.spec_ir.specs.declared.declared.MapType.{MapType}
use Rattle.spec_ir.specs.Environment.{Case}
use Rattle.spec_ir.specs.Specification.{Spec}
use Rattle.spec_ir.specs.declared.spec.Machine.{Machine}
use Rattle.spec_ir.specs.Texts.{cases_of, fields_at}
use Rattle.spec_ir.specs.WellFormed.{is_width}
use Rattle.spec_ir.proofs.Checks.{width_is}
use Rattle.abstract_map_laws.specs.declared.cell.AbstractCell.{AbstractCell}
use Rattle.abstract_map_laws.specs.Calls.{folded}
use Rattle.abstract_map_laws.specs.Cells.{CellFits}
use Rattle.abstract_map_laws.specs.Maps.{Map, Fits as MapFits}
use Rattle.abstract_value_laws.specs.Abs.{Abs, Parts, map, no_part, part, word}
use Rattle.abstract_value_laws.specs.Fits.{Fits}
use Rattle.domain_laws.specs.declared.field.Field.TheVariants as field
use Rattle.domain_laws.specs.States as states
use Rattle.domain_laws.specs.States.{field_of, fields_of, has_states, is_field, is_state_data, map_field, state_cases, state_type, state_types, types_in}
use Rattle.domain_laws.specs.Values.{FieldsFit, IsOf}
use Rattle.abstract_map.specs.Unfolded.{FitsUnfolded}
use Rattle.semantics_values.specs.Types.{environment_of, key_count}
use Rattle.state_cell_text.specs.Places as place
use Rattle.state_cell_text.specs.Places.{Field, fields_in, state_fields}
use Rattle.state_cell_text.specs.Digits.{decimal_number}
use Rattle.state_cell_text.specs.Keys.{below, case_number, key_number, word_number}
use Rattle.text_words.specs.Reading.{behind, number_in}
use Rattle.text_words.specs.Readings.{Readings, TextsTell}
use Rattle.text_words.specs.Texts.{Texts}
use Rattle.text_words.specs.Digits.{number_tells}
use Rattle.text_words.specs.Options.{cond_then, followed, mapped, zipped}
use Rattle.text_lines.specs.Lines.{Lines}
use Rattle.text_lines.specs.Outcomes.{all_said, one, then_read}
use Rattle.text_lines.proofs.Steps.{all_keep, continued, one_taken, some_reading, what_is}
use Rattle.text_part_readers.specs.Cells.{behind_counter, behind_name, cell_in, cell_of, fields_read, key_part, keyed, keyed_text, listed_read, listed_said, map_read, next_said, rest_said, states_read, value_read, with_rest, word_read, word_said}
use Rattle.text_part_readers.specs.Keys.{key_behind, key_in, last_key}
use Rattle.text_part_readers.specs.Pieces.{len_before}

-- ---- maps without a cell too many

pub folded_is : {W N C : Type 0} (B : Algebra W N C) (c : C) (cap : ℕ) (m : Map W N) → length m.cells ≤ cap → folded B c cap m ≡ m
folded_is B c cap m few =
    let none = drop_of_length-le m.cells few in
    let all = take_all cap m.cells few in
    elim (cases_Bool B.joins) [ inl e ↦ rw (e, none, all) refl | inr e ↦ rw e refl ]

-- ---- keys

-- a key may stand behind the last one, where there is one, and else is no less than a bound
abbrev pub IsBehind : ℕ → Option ℕ → ℕ → Type 0
IsBehind low None k = low ≤ k
IsBehind low (Some j) k = j < k

behind_other : {A : Type 0} (low other k : ℕ) (e : ℕ × A) (es : List (ℕ × A)) → IsBehind low (last_key (e ∷ es)) k → IsBehind other (last_key (e ∷ es)) k
behind_other low other k e [] h = h
behind_other low other k e (d ∷ es) h = behind_other low other k d es h

-- one more key
pub ascends_more : {A : Type 0} (low : ℕ) (es : List (ℕ × A)) (e : ℕ × A) → IsAscendingFrom low (map_of (λ d. d.0) es) → IsBehind low (last_key es) e.0 → IsAscendingFrom low (map_of (λ d. d.0) (es ++ e ∷ []))
ascends_more low [] e ascending behind = (behind, tt)
ascends_more low (d ∷ []) e ascending behind = (ascending.0, (omega (arith, behind), tt))
ascends_more low (d ∷ f ∷ es) e ascending behind = (ascending.0, ascends_more (d.0 + 1) (f ∷ es) e ascending.1 (behind_other low (d.0 + 1) e.0 f es behind))

pub each_more : {A : Type 0} (P : A → Type 0) (xs : List A) (x : A) → Each P xs → P x → Each P (xs ++ x ∷ [])
each_more P [] x all here = (here, tt)
each_more P (y ∷ xs) x all here = (all.0, each_more P xs x all.1 here)

each_key_more : {A : Type 0} (P : ℕ → Type 0) (es : List (ℕ × A)) (e : ℕ × A) → Each P (map_of (λ d. d.0) es) → P e.0 → Each P (map_of (λ d. d.0) (es ++ e ∷ []))
each_key_more P [] e all here = (here, tt)
each_key_more P (d ∷ es) e all here = (all.0, each_key_more P es e all.1 here)

key_behind_is : (last : Option ℕ) (key : Option ℕ) (k : ℕ) → key_behind last key ≡ Some k → (key ≡ Some k) × IsBehind 0 last k
key_behind_is last None k h = absurd (none-some k h)
key_behind_is None (Some j) k h = (h, omega arith)
key_behind_is (Some i) (Some j) k h =
    let both = cond_then (nat_lt i j) (Some j) k h in
    let same : j ≡ k = same_Some j k both.1 in
    let less : i < j = grind (arith, nat_tests, both.0) in
    (both.1, omega (arith, same, less))

case_below : (n : ℕ) (cases : List Case) (name : List ℕ) (k : ℕ) → case_number n cases name ≡ Some k → k < n + length cases
case_below n [] name k h = absurd (none-some k h)
case_below n (x ∷ cases) name k h = elim (cases_Bool (bytes_eq x.name name)) [
  | inl e ↦ let same : n ≡ k = same_Some n k (rw e at h) in omega (arith, same)
  | inr e ↦ let more = case_below (n + 1) cases name k (rw e at h) in omega (arith, more)
]

below_is : (w : ℕ) (number : Option ℕ) (k : ℕ) → below w number ≡ Some k → k < 2 ^ w
below_is w None k h = absurd (none-some k h)
below_is w (Some j) k h =
    let both = cond_then (nat_lt j (2 ^ w)) (Some j) k h in
    let same : j ≡ k = same_Some j k both.1 in
    let less : j < 2 ^ w = grind (arith, nat_tests, both.0) in
    omega (arith, same, less)

-- what is read is a key of the type
pub key_in_type : (spec : Spec) (ty : Ty) (text : List ℕ) (k : ℕ) → key_in spec ty text ≡ Some k → k < key_count (environment_of spec) ty
key_in_type spec Flag text k h = absurd (none-some k h)
key_in_type spec (MapOf m) text k h = absurd (none-some k h)
key_in_type spec (DataTy t) text k h = omega (arith, case_below 0 (cases_of (slice_get spec.datas t)) text k h)
key_in_type spec (Word w) text k h = elim (cases_Bool (nat_le w 8)) [
  | inl e ↦ below_is w (decimal_number text) k (rw e at h)
  | inr e ↦ (number_tells w text k (rw e at h)).1
]

-- ---- cells

module _ {W N C : Type 0} (B : Algebra W N C) (c : C) {NoteFits : (ℕ → Bool) → N → Type 0} (texts : Texts W N) (readings : Readings W N) (tell : TextsTell B NoteFits texts readings) (code : ℕ → Bool) where
  made_fits : (w : ℕ) (text : List ℕ) (note : Option N) (x : AbstractCell W N) → IsWidth w → (found : Option W) → found ≡ readings.word w text → cell_of found note ≡ Some x → CellFits B c w x
  made_fits w text note x width None is h = absurd (none-some x h)
  made_fits w text None x width (Some y) is h = absurd (none-some x h)
  made_fits w text (Some n) x width (Some y) is h =
      let same : record { word = y; note = n } ≡ x = same_Some (record { word = y; note = n }) x h in
      subst (λ z. CellFits B c w z) same (tell.word_tells c w text y width (sym is)).1

  pub cell_fits : (w : ℕ) (text : List ℕ) (x : AbstractCell W N) → IsWidth w → cell_in readings code w text ≡ Some x → CellFits B c w x
  cell_fits w text x width h = made_fits w (take (len_before 32 text) text) (readings.note code (drop (len_before 32 text) text)) x width (readings.word w (take (len_before 32 text) text)) refl h

  -- ---- listed cells

  -- what holds of the listed cells of a map, so far
  pub record ListFits (cap w bound : ℕ) (given : List (ℕ × AbstractCell W N)) : Type 0 where
    pub cells : Each (λ e. CellFits B c w e.1) given
    pub order : IsAscendingFrom 0 (map_of (λ e. e.0) given)
    pub keys : Each (λ k. k < bound) (map_of (λ e. e.0) given)
    pub few : length given ≤ cap

  module _ (spec : Spec) (cap : ℕ) (name : List ℕ) (ty : Ty) (w : ℕ) (width : IsWidth w) where
    one_fits : (given : List (ℕ × AbstractCell W N)) (line : List ℕ) (x : ℕ × AbstractCell W N) → ListFits cap w (key_count (environment_of spec) ty) given → next_said readings code spec cap name ty w given line ≡ Some x
        → ListFits cap w (key_count (environment_of spec) ty) (given ++ x ∷ [])
    one_fits given line x so h =
        let some = cond_then (nat_lt (length given) cap) (listed_said readings code spec name ty w (last_key given) line) x h in
        let room : length given < cap = grind (arith, nat_tests, some.0) in
        let said = followed (λ p. option_map (λ y. (p.0, y)) (cell_in readings code w p.1)) (keyed_text spec name ty (last_key given) line) x some.1 in
        let cell = mapped (λ y. (said.from.0, y)) (cell_in readings code w said.from.1) x said.gives in
        let key = followed (keyed spec ty (last_key given)) (key_part name line) said.from said.is in
        let parts = zipped (key_behind (last_key given) (key_in spec ty key.from.0)) (behind (codes " ") key.from.1) said.from key.gives in
        let is_key = key_behind_is (last_key given) (key_in spec ty key.from.0) said.from.0 parts.0 in
        let e : said.from.0 ≡ x.0 = ap (λ y. y.0) cell.gives in
        let f : cell.from ≡ x.1 = ap (λ y. y.1) cell.gives in
        record {
          cells = each_more (λ d. CellFits B c w d.1) given x so.cells (subst (λ y. CellFits B c w y) f (cell_fits w said.from.1 cell.from width cell.is));
          order = ascends_more 0 given x so.order (subst (λ k. IsBehind 0 (last_key given) k) e is_key.1);
          keys = each_key_more (λ k. k < key_count (environment_of spec) ty) given x so.keys (subst (λ k. k < key_count (environment_of spec) ty) e (key_in_type spec ty key.from.0 said.from.0 is_key.0));
          few = omega (arith, room, length-append given (x ∷ []));
        }

    pub listed_fits : (ls : Lines) → ListFits cap w (key_count (environment_of spec) ty) (listed_read readings code spec cap name ty w ls).0
    listed_fits ls =
        all_keep (ListFits cap w (key_count (environment_of spec) ty)) (next_said readings code spec cap name ty w) one_fits [] ls (record { cells = tt; order = tt; keys = tt; few = omega arith })

  -- ---- maps

  pub rest_fits : (name : List ℕ) (w : ℕ) (line : List ℕ) (x : AbstractCell W N) → IsWidth w → rest_said readings code name w line ≡ Some x → CellFits B c w x
  rest_fits name w line x width h =
      let said = followed (cell_in readings code w) (behind_name name (codes "[*] ") line) x h in
      cell_fits w said.from x width said.gives

  each_below : (bound : ℕ) (keys : List ℕ) → bound ≤ 2 ^ 32 → Each (λ k. k < bound) keys → Each (λ k. k < 2 ^ 32) keys
  each_below bound [] few all = tt
  each_below bound (k ∷ keys) few all = (omega (arith, all.0, few), each_below bound keys few all.1)

  -- a map whose rest and listed cells were read fits, before and after it is folded
  pub map_fits : (cap w bound : ℕ) (rest : AbstractCell W N) (cells : List (ℕ × AbstractCell W N)) → IsWidth w → bound ≤ 2 ^ 32 → CellFits B c w rest → ListFits cap w bound cells
      → FitsUnfolded B c (record { width = w; rest = rest; cells = cells })
  map_fits cap w bound rest cells width few fits so = record { width = width; cells = (fits, so.cells); order = so.order; bound = each_below bound (map_of (λ e. e.0) cells) few so.keys }

  pub whole_map_fits : (cap w bound : ℕ) (rest : AbstractCell W N) (cells : List (ℕ × AbstractCell W N)) → IsWidth w → bound ≤ 2 ^ 32 → CellFits B c w rest → ListFits cap w bound cells
      → MapFits B c cap (record { width = w; rest = rest; cells = cells })
  whole_map_fits cap w bound rest cells width few fits so =
      record { width = width; cells = (fits, so.cells); order = so.order; bound = each_below bound (map_of (λ e. e.0) cells) few so.keys; few = so.few }

  -- ---- fields

  module _ (spec : Spec) (cap : ℕ) where
    word_value : (name : List ℕ) (w : ℕ) (ls others : Lines) (y : Abs W N) → is_width w ≡ true → word_read readings name w ls ≡ (Some y, others) → IsOf (field.Word w) y × Fits B c cap y
    word_value name w ls others y right h =
        let then_ = continued (one (word_said readings name w) ls) (λ x more. (Some (word w x), more)) y others h in
        let first = one_taken (word_said readings name w) ls then_.behind then_.found then_.is in
        let said = followed (readings.word w) (behind_name name (codes " ") first.0) then_.found first.2 in
        let same = what_is (word w then_.found) y then_.behind others then_.gives in
        let width = width_is w right in
        subst (λ z. IsOf (field.Word w) z × Fits B c cap z) same (refl, (width, (tell.word_tells c w said.from then_.found width said.gives).1))

    map_value : (name : List ℕ) (m : ℕ) (d : Option MapType) (ls others : Lines) (y : Abs W N) → is_field (map_field (environment_of spec) m d) ≡ true → map_read readings code spec cap name m d ls ≡ (Some y, others)
        → IsOf (map_field (environment_of spec) m d) y × Fits B c cap y
    map_value name m None ls others y right h = absurd (none-some y (ap (λ r. r.0) h))
    map_value name m (Some d) ls others y right h =
        let bound = key_count (environment_of spec) d.key in
        let parts = and_parts (is_width d.width) (nat_lt d.default (2 ^ d.width) && nat_le bound (2 ^ 32)) right in
        let width = width_is d.width parts.0 in
        let few : bound ≤ 2 ^ 32 = grind (arith, nat_tests, (and_parts (nat_lt d.default (2 ^ d.width)) (nat_le bound (2 ^ 32)) parts.1).1) in
        let then_ = continued (one (rest_said readings code name d.width) ls) (λ rest more. with_rest readings code spec cap m d.width rest (listed_read readings code spec cap name d.key d.width more)) y others h in
        let first = one_taken (rest_said readings code name d.width) ls then_.behind then_.found then_.is in
        let listed = listed_read readings code spec cap name d.key d.width then_.behind in
        let same = what_is (map m (record { width = d.width; rest = then_.found; cells = listed.0 })) y listed.1 others then_.gives in
        let so = listed_fits spec cap name d.key d.width width then_.behind in
        subst (λ z. IsOf (map_field (environment_of spec) m (Some d)) z × Fits B c cap z) same
        ((refl, refl, so.keys), whole_map_fits cap d.width bound then_.found listed.0 width few (rest_fits name d.width first.0 then_.found width first.2) so)

    -- so does what is read, before it is folded
    pub read_map_fits : (name : List ℕ) (m : ℕ) (d : MapType) (ls others left : Lines) (rest : AbstractCell W N) (cells : List (ℕ × AbstractCell W N)) → is_field (map_field (environment_of spec) m (Some d)) ≡ true
        → (Some rest, others) ≡ one (rest_said readings code name d.width) ls → (cells, left) ≡ listed_read readings code spec cap name d.key d.width others
        → FitsUnfolded B c (record { width = d.width; rest = rest; cells = cells }) × (length cells ≤ cap)
    read_map_fits name m d ls others left rest cells right is listed =
        let bound = key_count (environment_of spec) d.key in
        let parts = and_parts (is_width d.width) (nat_lt d.default (2 ^ d.width) && nat_le bound (2 ^ 32)) right in
        let width = width_is d.width parts.0 in
        let few : bound ≤ 2 ^ 32 = grind (arith, nat_tests, (and_parts (nat_lt d.default (2 ^ d.width)) (nat_le bound (2 ^ 32)) parts.1).1) in
        let first = one_taken (rest_said readings code name d.width) ls others rest (sym is) in
        let so : ListFits cap d.width bound cells = subst (λ (r : List (ℕ × AbstractCell W N) × Lines). ListFits cap d.width bound r.0) (sym listed) (listed_fits spec cap name d.key d.width width others) in
        (map_fits cap d.width bound rest cells width few (rest_fits name d.width first.0 rest width first.2) so, so.few)

    value_fits : (name : List ℕ) (ty : Ty) (ls others : Lines) (y : Abs W N) → is_field (field_of (environment_of spec) ty) ≡ true → value_read readings code spec cap name ty ls ≡ (Some y, others)
        → IsOf (field_of (environment_of spec) ty) y × Fits B c cap y
    value_fits name Flag ls others y right h = absurd (none-some y (ap (λ r. r.0) h))
    value_fits name (DataTy t) ls others y right h = absurd (none-some y (ap (λ r. r.0) h))
    value_fits name (Word w) ls others y right h = word_value name w ls others y right h
    value_fits name (MapOf m) ls others y right h = map_value name m (slice_get spec.maps m) ls others y right h

    pub fields_fit : (fields : List (List ℕ × Ty)) (ls others : Lines) (xs : Parts W N) → list_all is_field (fields_of (environment_of spec) (map_of (λ f. f.1) fields)) ≡ true
        → fields_read readings code spec cap fields ls ≡ (Some xs, others) → FieldsFit B c cap (fields_of (environment_of spec) (map_of (λ f. f.1) fields)) xs
    fields_fit [] ls others xs right h = let same : no_part ≡ xs = what_is no_part xs ls others h in subst (λ ys. FieldsFit B c cap [] ys) same (tt, tt)
    fields_fit (f ∷ fields) ls others xs right h =
        let env = environment_of spec in
        let parts = and_parts (is_field (field_of env f.1)) (list_all is_field (fields_of env (map_of (λ g. g.1) fields))) right in
        let first = continued (value_read readings code spec cap f.0 f.1 ls) (λ x more. then_read (fields_read readings code spec cap fields more) (λ ys left. (Some (part x ys), left))) xs others h in
        let second = continued (fields_read readings code spec cap fields first.behind) (λ ys left. (Some (part first.found ys), left)) xs others first.gives in
        let same = what_is (part first.found second.found) xs second.behind others second.gives in
        let here = value_fits f.0 f.1 ls first.behind first.found parts.0 first.is in
        let rest = fields_fit fields first.behind second.behind second.found parts.1 second.is in
        subst (λ ys. FieldsFit B c cap (fields_of env (map_of (λ g. g.1) (f ∷ fields))) ys) same ((here.0, rest.0), (here.1, rest.1))

-- ---- the fields of states

types_of_list : (fields : List (List ℕ × Ty)) → map_of (λ f. f.1) (behind_counter fields) ≡ states.behind (map_of (λ f. f.1) fields)
types_of_list [] = refl
types_of_list (f ∷ fields) = refl

types_of_case : (found : Option Case) → map_of (λ f. f.1) (behind_counter (place.fields_of found)) ≡ states.behind (fields_at found)
types_of_case None = refl
types_of_case (Some found) = types_of_list found.fields

types_of_machine : (spec : Spec) (machine : Option Machine) → map_of (λ f. f.1) (behind_counter (fields_in spec machine)) ≡ types_in spec machine
types_of_machine spec None = refl
types_of_machine spec (Some m) = types_of_case (slice_get (cases_of (slice_get spec.datas m.state)) 0)

-- the types of the fields that are read are those of states
pub types_are : (spec : Spec) → map_of (λ f. f.1) (behind_counter (state_fields spec)) ≡ state_types spec
types_are spec = types_of_machine spec spec.machine

pub states_right : (spec : Spec) → has_states spec ≡ true → list_all is_field (fields_of (environment_of spec) (map_of (λ f. f.1) (behind_counter (state_fields spec)))) ≡ true
states_right spec h =
    rw (types_are spec) (and_parts (is_state_data (state_cases spec spec.machine)) (list_all is_field (state_type spec).fields) h).1

-- each field of several is one of states
pub field_right : (spec : Spec) (fields : List (List ℕ × Ty)) (i : ℕ) (f : List ℕ × Ty) → i < length fields → f ≡ get_or fields i f
    → list_all is_field (fields_of (environment_of spec) (map_of (λ g. g.1) fields)) ≡ true → is_field (field_of (environment_of spec) f.1) ≡ true
field_right spec [] i f within is h = absurd (omega (arith, within))
field_right spec (g ∷ fields) zero f within is h =
    let env = environment_of spec in
    subst (λ (k : List ℕ × Ty). is_field (field_of env k.1) ≡ true) (sym is) (and_parts (is_field (field_of env g.1)) (list_all is_field (fields_of env (map_of (λ k. k.1) fields))) h).0
field_right spec (g ∷ fields) (suc i) f within is h =
    let env = environment_of spec in
    field_right spec fields i f (omega (arith, within)) is (and_parts (is_field (field_of env g.1)) (list_all is_field (fields_of env (map_of (λ k. k.1) fields))) h).1

module _ {W N C : Type 0} (B : Algebra W N C) (c : C) {NoteFits : (ℕ → Bool) → N → Type 0} (texts : Texts W N) (readings : Readings W N) (tell : TextsTell B NoteFits texts readings) (code : ℕ → Bool) where
  -- what is read of states fits
  pub states_fit : (spec : Spec) (cap : ℕ) (ls others : Lines) (xs : Parts W N) → has_states spec ≡ true → states_read readings code spec cap ls ≡ (Some xs, others) → FieldsFit B c cap (state_type spec).fields xs
  states_fit spec cap ls others xs is h =
      subst (λ types. FieldsFit B c cap (fields_of (environment_of spec) types) xs) (types_are spec)
      (fields_fit B c texts readings tell code spec cap (behind_counter (state_fields spec)) ls others xs (states_right spec is) h)

  -- the fields of states were read
  pub states_done : {V E : Type 0} (spec : Spec) (cap : ℕ) (result : Result (Option V) E) (view : V → Parts W N) (fields : List Field) (ls others : Lines) → fields ≡ behind_counter (state_fields spec) → has_states spec ≡ true
      → IfOk result (λ r. (option_map view r, others) ≡ fields_read readings code spec cap fields ls)
      → IfOk result (λ r. (option_map view r, others) ≡ states_read readings code spec cap ls) × IfOk result (λ r. IfSome r (λ xs. FieldsFit B c cap (state_type spec).fields (view xs)))
  states_done spec cap (Err e) view fields ls others same is h = (tt, tt)
  states_done spec cap (Ok None) view fields ls others same is h = (rw same at h, tt)
  states_done spec cap (Ok (Some xs)) view fields ls others same is h =
      let value : some_reading (view xs) others ≡ states_read readings code spec cap ls = rw same at h in
      (value, states_fit spec cap ls others (view xs) is (sym value))
