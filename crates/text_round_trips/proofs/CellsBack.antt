-- Elements of cells that were written are read back.
use Rattle.std.proofs.Common.{◌≡◌, ℕ, ◌+◌, ◌<◌, ◌≤◌, Bool, true, IsTrue, List, [], ◌∷◌, ◌++◌, length, map as map_of, codes, Option, Some, None, slice_get, nat_lt, refl, sym, ap, subst, ◌∙◌, arith, append_assoc, append-nil, length-append}
use Rattle.std.proofs.lemmas.Bool.{and_parts, lt-ltb}
use Rattle.std.specs.List.{list_all}
use Rattle.word_operations.specs.Width.{IsWidth}
use Rattle.base_trait.specs.Algebra.{Algebra}
use Rattle.base_trait.specs.Lists.{Each, IsAscendingFrom}
use Rattle.spec_ir.specs.declared.ty.Ty.{Ty}
use Rattle.spec_ir.specs.declared.ty.Ty.TheVariants.{Bool as Flag, Word, Data as DataTy, Map as MapOf}
use Rattle.spec_ir.specs.declared.declared.MapType.{MapType}
use Rattle.spec_ir.specs.Environment.{key_of}
use Rattle.spec_ir.specs.Specification.{Spec}
use Rattle.semantics_values.specs.Types.{environment_of, key_count}
use Rattle.semantics_values.specs.declared.entry.KeyAt.TheVariants.{Rest}
use Rattle.abstract_map_laws.specs.declared.cell.AbstractCell.{AbstractCell}
use Rattle.abstract_map_laws.specs.Cells.{CellFits}
use Rattle.abstract_value_laws.specs.Abs.{Abs, Parts, flag, made, map, no_part, part, word}
use Rattle.abstract_value_laws.specs.Fits.{Fits, PartsFit}
use Rattle.domain_laws.specs.declared.field.Field.{Field as StateField}
use Rattle.domain_laws.specs.declared.field.Field.TheVariants as field
use Rattle.domain_laws.specs.States.{field_of, fields_of, map_field, state_type}
use Rattle.domain_laws.specs.Values.{AreOf, FieldsFit, IsOf}
use Rattle.state_cell_text.specs.Keys.{key_text, keys_of}
use Rattle.state_cell_text.specs.Places.{Field, state_fields}
use Rattle.state_text.specs.Forms.{is_name}
use Rattle.state_text.specs.Laws.{AreCellTypes, HasFields, IsCellType, IsKeyType, IsMapType, all_differ}
use Rattle.state_text.specs.OneState.{types_behind}
use Rattle.state_text.proofs.Computed.{key_word, name_parts}
use Rattle.text_words.specs.Inside.{both_all}
use Rattle.text_words.specs.Readings.{Readings, TextsTell}
use Rattle.text_words.specs.Texts.{Texts, noted}
use Rattle.text_lines.specs.Lines.{is_inside, lines}
use Rattle.text_lines.specs.Outcomes.{all_said}
use Rattle.text_lines.proofs.Steps.{some_reading}
use Rattle.text_lines.proofs.TextOfLines.{line_of_text}
use Rattle.text_elements.specs.Cells.{cell_line, field_lines, listed_lines, value_lines, word_line}
use Rattle.text_elements.specs.Parts.{CellsText, part_line}
use Rattle.text_part_readers.specs.Cells.{behind_counter, fields_read, keyed_text, listed_read, map_read, next_said, rest_said, states_read, value_read, word_read, word_said}
use Rattle.text_part_readers.specs.Parts.{part_read}
use Rattle.text_part_readers.specs.Keys.{key_behind, key_in, last_key}
use Rattle.text_part_readers.proofs.Fitting.{types_are}
use Rattle.text_part_readers.proofs.ListedSteps.{last_of_more}
use Rattle.analysis_table_laws.specs.Values.{HasNotes, PartsHaveNotes}
use Rattle.text_element_readers.specs.Reading.{CellsRead}
use Rattle.text_round_trips.specs.RoundTrips.{IsBehindElement}
use Rattle.text_round_trips.proofs.CellTexts.{cell_back, name_back, named_line, note_inside, word_inside}
use Rattle.text_round_trips.proofs.CellsTold.{cell_lines_are, lines_of_cells, listed_text}
use Rattle.text_round_trips.proofs.Keys.{cut_back, key_back}
use Rattle.text_round_trips.proofs.NoKey.{IsBehindMap, IsWord, behind_map, list_ends, spaced, starred, word_inside as name_inside, word_other}
use Rattle.text_round_trips.proofs.PartLines.{part_lines}
use Rattle.text_round_trips.proofs.SaidLines.{texts_of}

-- the line of a cell is the first
first_line : (name mark text more : List ℕ) → IsTrue (list_all is_inside name) → IsTrue (list_all is_inside mark) → IsTrue (list_all is_inside text)
    → lines (((name ++ mark) ++ (codes " " ++ (text ++ codes "\n"))) ++ more) ≡ Some (name ++ (mark ++ (codes " " ++ text))) ∷ lines more
first_line name mark text more in_name in_mark in_text =
    let line = name ++ (mark ++ (codes " " ++ text)) in
    ap lines (ap (λ (t : List ℕ). t ++ more) (named_line name mark text) ∙ append_assoc line (10 ∷ []) more)
    ∙ line_of_text line more (both_all is_inside name (mark ++ (codes " " ++ text)) in_name (both_all is_inside mark (codes " " ++ text) in_mark in_text))

-- ---- keys that ascend

-- the least key that may come behind the last one
abbrev least : Option ℕ → ℕ
least None = 0
least (Some j) = j + 1

behind_last : (last : Option ℕ) (k : ℕ) → least last ≤ k → key_behind last (Some k) ≡ Some k
behind_last None k h = refl
behind_last (Some j) k h = let less : nat_lt j k ≡ true = lt-ltb j k (omega (arith, h)) in rw less refl

module _ {W N C : Type 0} (B : Algebra W N C) (c : C) {NoteFits : (ℕ → Bool) → N → Type 0} (texts : Texts W N) (readings : Readings W N) (tell : TextsTell B NoteFits texts readings) (code : ℕ → Bool) (spec : Spec) (cap : ℕ) where
  noted_inside : (w : ℕ) (x : AbstractCell W N) → IsTrue (list_all is_inside (noted texts w x.word x.note))
  noted_inside w x = both_all is_inside (texts.word w x.word) (texts.note x.note) (word_inside B c texts readings tell code w x.word) (note_inside B c texts readings tell code x.note)

  -- ---- listed cells

  keyed_back : (name key text : List ℕ) (ty : Ty) (last : Option ℕ) (k : ℕ) → key_in spec ty key ≡ Some k → IsWord key → least last ≤ k
      → keyed_text spec name ty last (name ++ (91 ∷ (key ++ 93 ∷ 32 ∷ text))) ≡ Some (k, text)
  keyed_back name key text ty last k read is low =
      rw (name_back name (codes "[") (key ++ 93 ∷ 32 ∷ text), cut_back 93 key (32 ∷ text) (word_other key is), read, behind_last last k low) refl

  module _ (name : List ℕ) (ty : Ty) (w : ℕ) (is_name : IsWord name) (keys : IsKeyType spec ty) (width : IsWidth w) where
    next_back : (given : List (ℕ × AbstractCell W N)) (e : ℕ × AbstractCell W N) → length given < cap → least (last_key given) ≤ e.0 → e.0 < key_count (environment_of spec) ty → CellFits B c w e.1 → NoteFits code e.1.note
        → next_said readings code spec cap name ty w given (name ++ (91 ∷ (key_text spec ty e.0 ++ 93 ∷ 32 ∷ noted texts w e.1.word e.1.note))) ≡ Some e
    next_back given e few low within fits fair =
        let room : nat_lt (length given) cap ≡ true = lt-ltb (length given) cap few in
        let key = key_back spec ty e.0 keys within in
        let text = noted texts w e.1.word e.1.note in
        rw (room, keyed_back name (key_text spec ty e.0) text ty (last_key given) e.0 key.0 (key_word (key_text spec ty e.0) key.1) low, cell_back B c texts readings tell code w e.1 width fits fair) refl

    listed_line : (e : ℕ × AbstractCell W N) (more : List ℕ) → e.0 < key_count (environment_of spec) ty
        → lines (listed_text B c texts readings tell code spec name ty w e ++ more) ≡ Some (name ++ (91 ∷ (key_text spec ty e.0 ++ 93 ∷ 32 ∷ noted texts w e.1.word e.1.note))) ∷ lines more
    listed_line e more within =
        let key = key_text spec ty e.0 in
        let text = noted texts w e.1.word e.1.note in
        let of_key = key_word key (key_back spec ty e.0 keys within).1 in
        first_line name (91 ∷ (key ++ 93 ∷ [])) text more (name_inside name is_name) (both_all is_inside key (93 ∷ []) (name_inside key of_key) refl) (noted_inside w e.1)
        ∙ ap (λ (t : List ℕ). Some (name ++ (91 ∷ t)) ∷ lines more) (append_assoc key (93 ∷ []) (32 ∷ text))

    listed_back : (given es : List (ℕ × AbstractCell W N)) (more : List ℕ) → IsAscendingFrom (least (last_key given)) (map_of (λ e. e.0) es) → Each (λ k. k < key_count (environment_of spec) ty) (map_of (λ e. e.0) es)
        → Each (λ e. CellFits B c w e.1) es → Each (λ e. NoteFits code e.1.note) es → length given + length es ≤ cap → IsBehindMap more
        → all_said (next_said readings code spec cap name ty w) given (lines (texts_of (listed_text B c texts readings tell code spec name ty w) es ++ more)) ≡ (given ++ es, lines more)
    listed_back given [] more ascend within fits fair few behind =
        list_ends readings code spec cap name ty w is_name keys given more behind ∙ ap (λ (es : List (ℕ × AbstractCell W N)). (es, lines more)) (sym (append-nil given))
    listed_back given (e ∷ es) more ascend within fits fair few behind =
        let write = listed_text B c texts readings tell code spec name ty w in
        let others = texts_of write es ++ more in
        let first = ap lines (append_assoc (write e) (texts_of write es) more) ∙ listed_line e others within.0 in
        let said = next_back given e (omega (arith, few)) ascend.0 within.0 fits.0 fair.0 in
        let last : least (last_key (given ++ e ∷ [])) ≡ e.0 + 1 = ap least (last_of_more given e) in
        let count : length (given ++ e ∷ []) + length es ≤ cap = omega (arith, few, length-append given (e ∷ [])) in
        rw (first, said)
        (listed_back (given ++ e ∷ []) es more (subst (λ low. IsAscendingFrom low (map_of (λ d. d.0) es)) (sym last) ascend.1) within.1 fits.1 fair.1 count behind
        ∙ ap (λ (ds : List (ℕ × AbstractCell W N)). (ds, lines more)) (append_assoc given (e ∷ []) es))

  -- ---- fields

  word_back : (name : List ℕ) (w : ℕ) (x : W) (more : List ℕ) → IsWord name → IsWidth w → B.words.fits c w x
      → word_read readings name w (lines (word_line texts spec (name, Word w) w x ++ more)) ≡ (Some (word w x), lines more)
  word_back name w x more is width fits =
      let text = texts.word w x in
      let first : lines (word_line texts spec (name, Word w) w x ++ more) ≡ Some (name ++ (codes " " ++ text)) ∷ lines more =
      first_line name [] text more (name_inside name is) refl (word_inside B c texts readings tell code w x) in
      let said : word_said readings name w (name ++ (codes " " ++ text)) ≡ Some x = rw (name_back name (codes " ") text) (tell.word_back c w x width fits) in
      rw (first, said) refl

  -- a map, whose fields are given one by one
  map_back : (name : List ℕ) (m : ℕ) (d : MapType) (rest : AbstractCell W N) (es : List (ℕ × AbstractCell W N)) (more : List ℕ) → slice_get spec.maps m ≡ Some d → IsWord name → IsKeyType spec d.key → IsWidth d.width
      → CellFits B c d.width rest → NoteFits code rest.note → IsAscendingFrom 0 (map_of (λ e. e.0) es) → Each (λ k. k < key_count (environment_of spec) d.key) (map_of (λ e. e.0) es)
      → Each (λ e. CellFits B c d.width e.1) es → Each (λ e. NoteFits code e.1.note) es → length es ≤ cap → IsBehindMap more
      → map_read readings code spec cap name m (Some d) (lines ((cell_line texts spec (name, MapOf m) Rest d.width rest ++ listed_lines texts spec (name, MapOf m) d.width es) ++ more))
      ≡ (Some (map m (record { width = d.width; rest = rest; cells = es })), lines more)
  map_back name m d rest es more there is keys width fits fair ascend within each notes few behind =
      let f : Field = (name, MapOf m) in
      let text = noted texts d.width rest.word rest.note in
      let write = listed_text B c texts readings tell code spec name d.key d.width in
      let key : d.key ≡ keys_of spec (MapOf m) = sym (ap key_of there) in
      let spelled : listed_lines texts spec f d.width es ≡ texts_of write es =
      sym (ap (λ (ty : Ty). texts_of (listed_text B c texts readings tell code spec name ty d.width) es) key ∙ lines_of_cells B c texts readings tell code spec f d.width es) in
      let others = texts_of write es ++ more in
      let first : lines ((cell_line texts spec f Rest d.width rest ++ listed_lines texts spec f d.width es) ++ more) ≡ Some (name ++ (codes "[*] " ++ text)) ∷ lines others =
      ap lines (ap (λ (t : List ℕ). (cell_line texts spec f Rest d.width rest ++ t) ++ more) spelled ∙ append_assoc (cell_line texts spec f Rest d.width rest) (texts_of write es) more)
      ∙ first_line name (codes "[*]") text others (name_inside name is) refl (noted_inside d.width rest) in
      let said : rest_said readings code name d.width (name ++ (codes "[*] " ++ text)) ≡ Some rest = rw (name_back name (codes "[*] ") text) (cell_back B c texts readings tell code d.width rest width fits fair) in
      let listed : listed_read readings code spec cap name d.key d.width (lines others) ≡ (es, lines more) = listed_back name d.key d.width is keys width [] es more ascend within each notes (omega (arith, few)) behind in
      rw (first, said, listed) refl

  -- where a field is a map
  map_value : (name : List ℕ) (m : ℕ) (d : Option MapType) (x : Abs W N) (more : List ℕ) → slice_get spec.maps m ≡ d → IsWord name → IsMapType spec d → IsOf (map_field (environment_of spec) m d) x
      → Fits B c cap x → HasNotes (NoteFits code) x → IsBehindMap more → map_read readings code spec cap name m d (lines (value_lines texts spec (name, MapOf m) x ++ more)) ≡ (Some x, lines more)
  map_value name m None x more there is right of fits fair behind = absurd right
  map_value name m (Some d) (flag t) more there is right of fits fair behind = absurd of
  map_value name m (Some d) (word u x) more there is right of fits fair behind = absurd of
  map_value name m (Some d) (made t cs) more there is right of fits fair behind = absurd of
  map_value name m (Some d) (map n x) more there is right of fits fair behind =
      let f : Field = (name, MapOf m) in
      let wide : x.width ≡ d.width = of.1 in
      let cells = subst (λ w. CellFits B c w x.rest × Each (λ e. CellFits B c w e.1) x.cells) wide fits.cells in
      let width = subst IsWidth wide fits.width in
      let read = map_back name m d x.rest x.cells more there is right.1 width cells.0 fair.0 fits.order of.2 cells.1 fair.1 fits.few behind in
      let all : value_lines texts spec f (map n x) ≡ cell_line texts spec f Rest d.width x.rest ++ listed_lines texts spec f d.width x.cells =
      ap (λ (w : ℕ). cell_line texts spec f Rest w x.rest ++ listed_lines texts spec f w x.cells) wide in
      ap (λ (t : List ℕ). map_read readings code spec cap name m (Some d) (lines (t ++ more))) all ∙ read
      ∙ ap (λ (w : ℕ). some_reading (map m (record { width = w; rest = x.rest; cells = x.cells })) (lines more)) (sym wide)
      ∙ ap (λ (k : ℕ). some_reading (map k x) (lines more)) (sym of.0)

  value_back : (name : List ℕ) (ty : Ty) (x : Abs W N) (more : List ℕ) → IsWord name → IsCellType spec ty → IsOf (field_of (environment_of spec) ty) x → Fits B c cap x → HasNotes (NoteFits code) x → IsBehindMap more
      → value_read readings code spec cap name ty (lines (value_lines texts spec (name, ty) x ++ more)) ≡ (Some x, lines more)
  value_back name Flag x more is right of fits fair behind = absurd right
  value_back name (DataTy t) x more is right of fits fair behind = absurd right
  value_back name (Word w) (word u x) more is right of fits fair behind =
      let width = subst IsWidth of fits.0 in
      let own = subst (λ n. B.words.fits c n x) of fits.1 in
      ap (λ (n : ℕ). word_read readings name w (lines (word_line texts spec (name, Word w) n x ++ more))) of ∙ word_back name w x more is width own ∙ ap (λ (n : ℕ). some_reading (word n x) (lines more)) (sym of)
  value_back name (Word w) (flag t) more is right of fits fair behind = absurd of
  value_back name (Word w) (made t cs) more is right of fits fair behind = absurd of
  value_back name (Word w) (map n x) more is right of fits fair behind = absurd of
  value_back name (MapOf m) x more is right of fits fair behind = map_value name m (slice_get spec.maps m) x more refl is right of fits fair behind

  -- ---- the fields of states

  -- each field has a name
  abbrev pub AreNamed : List Field → Type 0
  AreNamed [] = Unit {0}
  AreNamed (f ∷ fields) = IsWord f.0 × AreNamed fields

  -- a field of states begins with its name
  value_begins : (f : Field) (t : StateField) (x : Abs W N) (more : List ℕ) → IsWord f.0 → IsOf t x → IsBehindMap (value_lines texts spec f x ++ more)
  value_begins f (field.Word w) (word u x) more is of =
      spaced f.0 ((texts.word u x ++ codes "\n") ++ more) is (ap (λ (t : List ℕ). t ++ more) (ap (λ (n : List ℕ). n ++ (codes " " ++ (texts.word u x ++ codes "\n"))) (append-nil f.0)) ∙ append_assoc f.0 (codes " " ++ (texts.word u x ++ codes "\n")) more)
  value_begins f (field.Map m bound width default) (map n x) more is of =
      let tail = codes " " ++ (noted texts x.width x.rest.word x.rest.note ++ codes "\n") in
      let listed = listed_lines texts spec f x.width x.cells in
      starred f.0 ((tail ++ listed) ++ more) is
      (ap (λ (t : List ℕ). t ++ more) (ap (λ (t : List ℕ). t ++ listed) (append_assoc f.0 (codes "[*]") tail) ∙ append_assoc f.0 (codes "[*]" ++ tail) listed) ∙ append_assoc f.0 ((codes "[*]" ++ tail) ++ listed) more)
  value_begins f (field.Word w) (flag t) more is of = absurd of
  value_begins f (field.Word w) (made t cs) more is of = absurd of
  value_begins f (field.Word w) (map n x) more is of = absurd of
  value_begins f (field.Map m bound width default) (flag t) more is of = absurd of
  value_begins f (field.Map m bound width default) (made t cs) more is of = absurd of
  value_begins f (field.Map m bound width default) (word u x) more is of = absurd of

  -- so do fields, and where there are none, what comes behind them
  fields_begin : (fields : List Field) (xs : Parts W N) (more : List ℕ) → AreNamed fields → AreOf (fields_of (environment_of spec) (map_of (λ f. f.1) fields)) xs → IsBehindMap more → IsBehindMap (field_lines texts spec fields xs ++ more)
  fields_begin [] xs more named of behind = behind
  fields_begin (f ∷ fields) no_part more named of behind = absurd of
  fields_begin (f ∷ fields) (part x xs) more named of behind =
      let rest = field_lines texts spec fields xs in
      subst IsBehindMap (sym (append_assoc (value_lines texts spec f x) rest more)) (value_begins f (field_of (environment_of spec) f.1) x (rest ++ more) named.0 of.0)

  fields_back : (fields : List Field) (xs : Parts W N) (more : List ℕ) → AreNamed fields → AreCellTypes spec (map_of (λ f. f.1) fields) → AreOf (fields_of (environment_of spec) (map_of (λ f. f.1) fields)) xs
      → PartsFit B c cap xs → PartsHaveNotes (NoteFits code) xs → IsBehindMap more → fields_read readings code spec cap fields (lines (field_lines texts spec fields xs ++ more)) ≡ (Some xs, lines more)
  fields_back [] no_part more named right of fits fair behind = refl
  fields_back [] (part x xs) more named right of fits fair behind = absurd of
  fields_back (f ∷ fields) no_part more named right of fits fair behind = absurd of
  fields_back (f ∷ fields) (part x xs) more named right of fits fair behind =
      let rest = field_lines texts spec fields xs in
      let all : lines (field_lines texts spec (f ∷ fields) (part x xs) ++ more) ≡ lines (value_lines texts spec f x ++ (rest ++ more)) = ap lines (append_assoc (value_lines texts spec f x) rest more) in
      let first = value_back f.0 f.1 x (rest ++ more) named.0 right.0 of.0 fits.0 fair.0 (fields_begin fields xs more named.1 of.1 behind) in
      let second = fields_back fields xs more named.1 right.1 of.1 fits.1 fair.1 behind in
      rw (all, first, second) refl

  -- ---- the states

  named_of : (fields : List Field) → list_all is_name (map_of (λ f. f.0) fields) ≡ true → AreNamed fields
  named_of [] h = tt
  named_of (f ∷ fields) h = let parts = and_parts (is_name f.0) (list_all is_name (map_of (λ g. g.0) fields)) h in ((name_parts f.0 parts.0).word, named_of fields parts.1)

  named_behind : (fields : List Field) → AreNamed fields → AreNamed (behind_counter fields)
  named_behind [] h = tt
  named_behind (f ∷ fields) h = h.1

  types_of : (fields : List Field) → types_behind fields ≡ map_of (λ f. f.1) (behind_counter fields)
  types_of [] = refl
  types_of (f ∷ fields) = refl

  pub states_back : (name : List ℕ) (x : Parts W N) (text more : List ℕ) → list_all is_inside name ≡ true → HasFields spec → FieldsFit B c cap (state_type spec).fields x → PartsHaveNotes (NoteFits code) x
      → CellsText name texts spec x text → IsBehindElement more → CellsRead readings cap name spec code (lines (text ++ more)) (Some x) (lines more)
  states_back name x text more inside has fits fair is behind =
      let all = state_fields spec in
      let fields = behind_counter all in
      let names = and_parts (list_all is_name (map_of (λ f. f.0) all)) (all_differ (map_of (λ f. f.0) all)) has.names in
      let named = named_behind all (named_of all names.0) in
      let right = subst (AreCellTypes spec) (types_of all) has.types in
      let of = subst (λ types. AreOf (fields_of (environment_of spec) types) x) (sym (types_are spec)) fits.0 in
      let body = field_lines texts spec fields x in
      let whole : text ++ more ≡ (part_line name ++ body) ++ more = ap (λ (t : List ℕ). t ++ more) (is ∙ ap (λ (u : List ℕ). part_line name ++ u) (sym (cell_lines_are B c texts readings tell code spec all x))) in
      sym (ap (λ (t : List ℕ). part_read name (states_read readings code spec cap) (lines t)) whole ∙ part_lines name (states_read readings code spec cap) body more inside
      ∙ fields_back fields x more named right of fits.1 fair (behind_map more behind))
