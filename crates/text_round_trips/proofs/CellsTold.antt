-- Elements of cells that were read are those that their lines are a text of, and they are printable.
use Rattle.std.proofs.Common.{◌≡◌, ℕ, Bool, true, List, [], ◌∷◌, ◌++◌, length, map as map_of, codes, Option, Some, None, option_map, slice_get, nat_le, nat_lt, ◌^◌, ◌&&◌, refl, sym, ap, subst, ◌∙◌}
use Rattle.std.proofs.lemmas.Bool.{and_parts}
use Rattle.std.proofs.lemmas.Option.{none-some}
use Rattle.std.specs.List.{list_all}
use Rattle.word_operations.specs.Width.{IsWidth}
use Rattle.base_trait.specs.Algebra.{Algebra}
use Rattle.base_trait.specs.Lists.{Each}
use Rattle.spec_ir.specs.declared.ty.Ty.{Ty}
use Rattle.spec_ir.specs.declared.ty.Ty.TheVariants.{Bool as Flag, Word, Data as DataTy, Map as MapOf}
use Rattle.spec_ir.specs.declared.declared.MapType.{MapType}
use Rattle.spec_ir.specs.Environment.{key_of}
use Rattle.spec_ir.specs.Specification.{Spec}
use Rattle.spec_ir.specs.WellFormed.{is_width}
use Rattle.spec_ir.proofs.Checks.{width_is}
use Rattle.semantics_values.specs.Types.{environment_of, key_count}
use Rattle.semantics_values.specs.declared.entry.KeyAt.TheVariants.{Rest, At}
use Rattle.abstract_map_laws.specs.declared.cell.AbstractCell.{AbstractCell}
use Rattle.abstract_value_laws.specs.Abs.{Abs, Parts, map, no_part, part, word}
use Rattle.domain_laws.specs.States.{field_of, fields_of, has_states, is_field, map_field}
use Rattle.state_cell_text.specs.Keys.{key_text, keys_of}
use Rattle.state_cell_text.specs.Places.{Field, state_fields}
use Rattle.text_words.specs.Options.{cond_then, followed, mapped, zipped}
use Rattle.text_words.specs.Pieces.{is_behind}
use Rattle.text_words.specs.Reading.{behind}
use Rattle.text_words.specs.Fronts.{behind_tells}
use Rattle.text_words.specs.Readings.{Readings, TextsTell}
use Rattle.text_words.specs.Texts.{Texts, noted}
use Rattle.text_lines.specs.Lines.{Lines}
use Rattle.text_lines.specs.Outcomes.{Reading, one, then_read}
use Rattle.text_lines.proofs.Steps.{all_keep, continued, one_taken, some_reading, what_is}
use Rattle.text_elements.specs.Cells.{cell_line, cell_lines, field_lines, listed_lines, value_lines, word_line}
use Rattle.text_elements.specs.Parts.{CellsText, part_line}
use Rattle.text_part_readers.specs.Cells.{behind_counter, behind_name, cell_in, fields_read, key_part, keyed, keyed_text, listed_read, listed_said, map_read, next_said, rest_said, states_read, value_read, with_rest, word_read, word_said}
use Rattle.text_part_readers.specs.Pieces.{cut}
use Rattle.text_part_readers.specs.Keys.{key_behind, key_in, last_key}
use Rattle.text_part_readers.proofs.Fitting.{each_more, states_right}
use Rattle.analysis_table_laws.specs.Values.{HasNotes, PartsHaveNotes}
use Rattle.text_element_readers.specs.Reading.{CellsRead}
use Rattle.text_round_trips.specs.RoundTrips.{AreInFront}
use Rattle.text_round_trips.proofs.CellTexts.{cell_told, keyed_line, marked_line, name_told}
use Rattle.text_round_trips.proofs.Fronts.{line_in_front, nothing_in_front, otherwise, texts_in_front}
use Rattle.text_round_trips.proofs.Keys.{cut_told, key_told}
use Rattle.text_round_trips.proofs.PartLines.{part_begun}
use Rattle.text_round_trips.proofs.SaidLines.{all_told, texts_of}

-- ---- keys

key_behind_told : (last key : Option ℕ) (k : ℕ) → key_behind last key ≡ Some k → key ≡ Some k
key_behind_told last None k h = absurd (none-some k h)
key_behind_told last (Some j) k h = (cond_then (is_behind nat_lt last j) (Some j) k h).1

-- What a line with a key says: the key, and the text behind it.
pub record KeyTold (spec : Spec) (name : List ℕ) (ty : Ty) (line : List ℕ) (p : ℕ × List ℕ) : Type 0 where
  pub key : List ℕ
  pub is : key_in spec ty key ≡ Some p.0
  pub line_is : name ++ (codes "[" ++ (key ++ 93 ∷ (codes " " ++ p.1))) ≡ line

pub line_told : (spec : Spec) (name : List ℕ) (ty : Ty) (last : Option ℕ) (line : List ℕ) (p : ℕ × List ℕ) → keyed_text spec name ty last line ≡ Some p → KeyTold spec name ty line p
line_told spec name ty last line p h =
    let parts = followed (keyed spec ty last) (key_part name line) p h in
    let both = zipped (key_behind last (key_in spec ty parts.from.0)) (behind (codes " ") parts.from.1) p parts.gives in
    let bracket = followed (cut 93) (behind_name name (codes "[") line) parts.from parts.is in
    record {
      key = parts.from.0;
      is = key_behind_told last (key_in spec ty parts.from.0) p.0 both.0;
      line_is =
          ap (λ (t : List ℕ). name ++ (codes "[" ++ (parts.from.0 ++ 93 ∷ t))) (behind_tells (codes " ") parts.from.1 p.1 both.1)
          ∙ ap (λ (t : List ℕ). name ++ (codes "[" ++ t)) (cut_told 93 bracket.from parts.from bracket.gives)
          ∙ name_told name (codes "[") line bracket.from bracket.is;
    }

module _ {W N C : Type 0} (B : Algebra W N C) (c : C) {NoteFits : (ℕ → Bool) → N → Type 0} (texts : Texts W N) (readings : Readings W N) (tell : TextsTell B NoteFits texts readings) (code : ℕ → Bool) (spec : Spec) where
  -- ---- listed cells

  -- the line of a listed cell of keys of a type
  abbrev pub listed_text : List ℕ → Ty → ℕ → ℕ × AbstractCell W N → List ℕ
  listed_text name ty w e = (name ++ (91 ∷ (key_text spec ty e.0 ++ 93 ∷ []))) ++ (codes " " ++ (noted texts w e.1.word e.1.note ++ codes "\n"))

  -- what a listed cell shows
  pub record ListedTold (name : List ℕ) (ty : Ty) (w : ℕ) (line : List ℕ) (e : ℕ × AbstractCell W N) : Type 0 where
    pub line_is : listed_text name ty w e ≡ line ++ 10 ∷ []
    pub note : NoteFits code e.1.note

  listed_told : (cap : ℕ) (name : List ℕ) (ty : Ty) (w : ℕ) → IsWidth w → (given : List (ℕ × AbstractCell W N)) (line : List ℕ) (e : ℕ × AbstractCell W N) → next_said readings code spec cap name ty w given line ≡ Some e → ListedTold name ty w line e
  listed_told cap name ty w width given line e h =
      let some = cond_then (nat_lt (length given) cap) (listed_said readings code spec name ty w (last_key given) line) e h in
      let said = followed (λ p. option_map (λ y. (p.0, y)) (cell_in readings code w p.1)) (keyed_text spec name ty (last_key given) line) e some.1 in
      let cell = mapped (λ y. (said.from.0, y)) (cell_in readings code w said.from.1) e said.gives in
      let key = line_told spec name ty (last_key given) line said.from said.is in
      let told = cell_told B c texts readings tell code w said.from.1 cell.from width cell.is in
      let line_of : listed_text name ty w (said.from.0, cell.from) ≡ line ++ 10 ∷ [] =
      keyed_line name (key_text spec ty said.from.0) key.key (noted texts w cell.from.word cell.from.note) said.from.1 line (key_told spec ty key.key said.from.0 key.is) told.text_is key.line_is in
      subst (λ d. ListedTold name ty w line d) cell.gives (record { line_is = line_of; note = told.note })

  pub lines_of_cells : (f : Field) (w : ℕ) (es : List (ℕ × AbstractCell W N)) → texts_of (listed_text f.0 (keys_of spec f.1) w) es ≡ listed_lines texts spec f w es
  lines_of_cells f w [] = refl
  lines_of_cells f w (e ∷ es) = ap (λ (t : List ℕ). cell_line texts spec f (At e.0) w e.1 ++ t) (lines_of_cells f w es)

  -- ---- fields

  -- what a field shows that was read
  pub record ValueTold (f : Field) (y : Abs W N) (ls others : Lines) : Type 0 where
    pub in_front : AreInFront (λ t. t ≡ value_lines texts spec f y) ls others
    pub notes : HasNotes (NoteFits code) y

  moved : (f : Field) (x y : Abs W N) (ls rest others : Lines) → some_reading x rest ≡ some_reading y others → ValueTold f x ls rest → ValueTold f y ls others
  moved f x y ls rest others e told = subst (λ z. ValueTold f z ls others) (what_is x y rest others e) (subst (λ (r : Lines). ValueTold f x ls r) (ap (λ (q : Reading (Abs W N)). q.1) e) told)

  word_told : (name : List ℕ) (w : ℕ) (ls others : Lines) (y : Abs W N) → is_width w ≡ true → word_read readings name w ls ≡ (Some y, others) → ValueTold (name, Word w) y ls others
  word_told name w ls others y right h =
      let then_ = continued (one (word_said readings name w) ls) (λ x more. (Some (word w x), more)) y others h in
      let first = one_taken (word_said readings name w) ls then_.behind then_.found then_.is in
      let said = followed (readings.word w) (behind_name name (codes " ") first.0) then_.found first.2 in
      let told = (tell.word_tells c w said.from then_.found (width_is w right) said.gives).0 in
      let line_of : first.0 ++ 10 ∷ [] ≡ word_line texts spec (name, Word w) w then_.found =
      sym (marked_line name [] (texts.word w then_.found) said.from first.0 told (name_told name (codes " ") first.0 said.from said.is)) in
      moved (name, Word w) (word w then_.found) y ls then_.behind others then_.gives
      (record { in_front = line_in_front (λ t. t ≡ word_line texts spec (name, Word w) w then_.found) first.0 ls then_.behind first.1 line_of; notes = tt })

  -- the cells of a map that were read
  cells_told : (cap : ℕ) (name : List ℕ) (m : ℕ) (d : MapType) (ls : Lines) → IsWidth d.width → slice_get spec.maps m ≡ Some d
      → AreInFront (λ t. t ≡ listed_lines texts spec (name, MapOf m) d.width (listed_read readings code spec cap name d.key d.width ls).0) ls (listed_read readings code spec cap name d.key d.width ls).1
      × Each (λ e. NoteFits code e.1.note) (listed_read readings code spec cap name d.key d.width ls).0
  cells_told cap name m d ls width there =
      let said = next_said readings code spec cap name d.key d.width in
      let write = listed_text name d.key d.width in
      let step = listed_told cap name d.key d.width width in
      let so = all_told write said (λ given line e h. (step given line e h).line_is) [] ls in
      let key : d.key ≡ keys_of spec (MapOf m) = sym (ap key_of there) in
      let read = listed_read readings code spec cap name d.key d.width ls in
      let spelled : texts_of write so.more ≡ listed_lines texts spec (name, MapOf m) d.width read.0 =
      ap (λ (es : List (ℕ × AbstractCell W N)). texts_of write es) (sym so.items) ∙ ap (λ (ty : Ty). texts_of (listed_text name ty d.width) read.0) key ∙ lines_of_cells (name, MapOf m) d.width read.0 in (
        otherwise (λ t. t ≡ texts_of write so.more) (λ t. t ≡ listed_lines texts spec (name, MapOf m) d.width read.0) ls read.1 (λ t is. is ∙ spelled) so.in_front,
        all_keep (λ es. Each (λ e. NoteFits code e.1.note) es) said (λ given line e fair h. each_more (λ d. NoteFits code d.1.note) given e fair (step given line e h).note) [] ls tt,
      )

  map_told : (cap : ℕ) (name : List ℕ) (m : ℕ) (d : Option MapType) (ls others : Lines) (y : Abs W N) → slice_get spec.maps m ≡ d → is_field (map_field (environment_of spec) m d) ≡ true
      → map_read readings code spec cap name m d ls ≡ (Some y, others) → ValueTold (name, MapOf m) y ls others
  map_told cap name m None ls others y there right h = absurd (none-some y (ap (λ r. r.0) h))
  map_told cap name m (Some d) ls others y there right h =
      let width = width_is d.width (and_parts (is_width d.width) (nat_lt d.default (2 ^ d.width) && nat_le (key_count (environment_of spec) d.key) (2 ^ 32)) right).0 in
      let then_ = continued (one (rest_said readings code name d.width) ls) (λ rest more. with_rest readings code spec cap m d.width rest (listed_read readings code spec cap name d.key d.width more)) y others h in
      let first = one_taken (rest_said readings code name d.width) ls then_.behind then_.found then_.is in
      let said = followed (cell_in readings code d.width) (behind_name name (codes "[*] ") first.0) then_.found first.2 in
      let rest = cell_told B c texts readings tell code d.width said.from then_.found width said.gives in
      let f : Field = (name, MapOf m) in
      let line_of : first.0 ++ 10 ∷ [] ≡ cell_line texts spec f Rest d.width then_.found =
      sym (marked_line name (codes "[*]") (noted texts d.width then_.found.word then_.found.note) said.from first.0 rest.text_is (name_told name (codes "[*] ") first.0 said.from said.is)) in
      let read = listed_read readings code spec cap name d.key d.width then_.behind in
      let listed = cells_told cap name m d then_.behind width there in
      let begun : AreInFront (λ t. t ≡ cell_line texts spec f Rest d.width then_.found) ls then_.behind =
      line_in_front (λ t. t ≡ cell_line texts spec f Rest d.width then_.found) first.0 ls then_.behind first.1 line_of in
      moved f (map m (record { width = d.width; rest = then_.found; cells = read.0 })) y ls read.1 others then_.gives (record {
        in_front = texts_in_front (cell_line texts spec f Rest d.width then_.found) (listed_lines texts spec f d.width read.0) ls then_.behind read.1 begun listed.0;
        notes = (rest.note, listed.1);
      })

  value_told : (cap : ℕ) (name : List ℕ) (ty : Ty) (ls others : Lines) (y : Abs W N) → is_field (field_of (environment_of spec) ty) ≡ true → value_read readings code spec cap name ty ls ≡ (Some y, others)
      → ValueTold (name, ty) y ls others
  value_told cap name Flag ls others y right h = absurd (none-some y (ap (λ r. r.0) h))
  value_told cap name (DataTy t) ls others y right h = absurd (none-some y (ap (λ r. r.0) h))
  value_told cap name (Word w) ls others y right h = word_told name w ls others y right h
  value_told cap name (MapOf m) ls others y right h = map_told cap name m (slice_get spec.maps m) ls others y refl right h

  -- what fields show that were read
  pub record FieldsTold (fields : List Field) (xs : Parts W N) (ls others : Lines) : Type 0 where
    pub in_front : AreInFront (λ t. t ≡ field_lines texts spec fields xs) ls others
    pub notes : PartsHaveNotes (NoteFits code) xs

  all_moved : (fields : List Field) (xs ys : Parts W N) (ls rest others : Lines) → some_reading xs rest ≡ some_reading ys others → FieldsTold fields xs ls rest → FieldsTold fields ys ls others
  all_moved fields xs ys ls rest others e told =
      subst (λ z. FieldsTold fields z ls others) (what_is xs ys rest others e) (subst (λ (r : Lines). FieldsTold fields xs ls r) (ap (λ (q : Reading (Parts W N)). q.1) e) told)

  pub fields_told : (cap : ℕ) (fields : List Field) (ls others : Lines) (xs : Parts W N) → list_all is_field (fields_of (environment_of spec) (map_of (λ f. f.1) fields)) ≡ true
      → fields_read readings code spec cap fields ls ≡ (Some xs, others) → FieldsTold fields xs ls others
  fields_told cap [] ls others xs right h = all_moved [] no_part xs ls ls others h (record { in_front = nothing_in_front ls; notes = tt })
  fields_told cap (f ∷ fields) ls others xs right h =
      let env = environment_of spec in
      let parts = and_parts (is_field (field_of env f.1)) (list_all is_field (fields_of env (map_of (λ g. g.1) fields))) right in
      let first = continued (value_read readings code spec cap f.0 f.1 ls) (λ x more. then_read (fields_read readings code spec cap fields more) (λ ys left. (Some (part x ys), left))) xs others h in
      let second = continued (fields_read readings code spec cap fields first.behind) (λ ys left. (Some (part first.found ys), left)) xs others first.gives in
      let here = value_told cap f.0 f.1 ls first.behind first.found parts.0 first.is in
      let rest = fields_told cap fields first.behind second.behind second.found parts.1 second.is in
      all_moved (f ∷ fields) (part first.found second.found) xs ls second.behind others second.gives (record {
        in_front = texts_in_front (value_lines texts spec f first.found) (field_lines texts spec fields second.found) ls first.behind second.behind here.in_front rest.in_front;
        notes = (here.notes, rest.notes);
      })

  -- ---- the states

  pub cell_lines_are : (fields : List Field) (xs : Parts W N) → field_lines texts spec (behind_counter fields) xs ≡ cell_lines texts spec fields xs
  cell_lines_are [] xs = refl
  cell_lines_are (counter ∷ fields) xs = refl

  pub states_told : (cap : ℕ) (name : List ℕ) (ls rest : Lines) (x : Parts W N) → has_states spec ≡ true → CellsRead readings cap name spec code ls (Some x) rest → AreInFront (CellsText name texts spec x) ls rest × PartsHaveNotes (NoteFits code) x
  states_told cap name ls rest x is h =
      let begun = part_begun name (states_read readings code spec cap) ls x rest (sym h) in
      let fields = behind_counter (state_fields spec) in
      let told = fields_told cap fields begun.others rest x (states_right spec is) begun.gives in (
        otherwise (λ t. t ≡ part_line name ++ field_lines texts spec fields x) (CellsText name texts spec x) ls rest (λ t e. e ∙ ap (λ (u : List ℕ). part_line name ++ u) (cell_lines_are (state_fields spec) x))
            (texts_in_front (part_line name) (field_lines texts spec fields x) ls begun.others rest begun.in_front told.in_front),
        told.notes,
      )
