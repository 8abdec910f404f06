-- A line of a use is told by its text, and read as it is written.
use Rattle.std.proofs.Common.{◌≡◌, ◌∙◌, ℕ, Bool, List, [], ◌∷◌, ◌++◌, Option, Some, None, IsTrue, option_map, refl, sym, ap, subst, append_assoc}
use Rattle.std.specs.Prelude.{codes}
use Rattle.std.specs.List.{list_all}
use Rattle.std.specs.Option.{option_and_then, option_zip}
use Rattle.base_trait.specs.Lists.{Each, IsAmong}
use Rattle.base_trait.specs.Stamps.{AreAscending}
use Rattle.base_trait.specs.Uses.{Seen}
use Rattle.base_trait.specs.declared.uses.Stamp.{Stamp}
use Rattle.spec_ir.specs.declared.ty.Ty.TheVariants.{Map as MapOf}
use Rattle.spec_ir.specs.Specification.{Spec}
use Rattle.state_cell_text.specs.Keys.{cell_text, key_part, keys_of}
use Rattle.state_cell_text.specs.Places.{Field, state_fields}
use Rattle.domain_laws.specs.States.{state_types}
use Rattle.text_words.specs.Fronts.{behind_tells}
use Rattle.text_words.specs.Inside.{both_all, stamps_inside}
use Rattle.text_words.specs.Notes.{stamps_text}
use Rattle.text_words.specs.Options.{followed, mapped, zipped}
use Rattle.text_words.specs.Reading.{behind, stamps_in}
use Rattle.text_words.specs.Readings.{IsNoteText, StampFits, StampsFit}
use Rattle.text_words.specs.Told.{stamps_back, stamps_tell}
use Rattle.analysis_table_laws.specs.Notes.{HasItems, HasStamps}
use Rattle.analysis_table_laws.specs.Tables.{IsUseOf}
use Rattle.state_text.specs.Forms.{is_word_byte}
use Rattle.state_text.proofs.Computed.{name_parts}
use Rattle.text_lines.specs.Lines.{is_inside}
use Rattle.text_part_readers.specs.Pieces.{cut}
use Rattle.text_round_trips.proofs.Keys.{cut_back, cut_told}
use Rattle.text_tables.specs.Blocks.{field_of_map, part_read, use_line, use_of}
use Rattle.text_table_reader.specs.Ends.{field_named, map_of, name_said, use_behind, use_key, use_of_map, use_said}
use Rattle.text_round_trips.specs.Fields.{HasUseTexts}
use Rattle.text_round_trips.proofs.UseFields.{field_told, field_written, map_of_is}
use Rattle.text_round_trips.proofs.UseKeys.{IsKeyOfMap, all_others, use_key_back, use_key_tells, use_key_text}

-- ---- the text of a use

module _ (spec : Spec) where
  -- what is written of a key in brackets
  key_part_is : (m : ℕ) (key : Option ℕ) → key_part spec (keys_of spec (MapOf m)) (part_read key) ≡ 91 ∷ (use_key_text spec m key ++ 93 ∷ [])
  key_part_is m None = refl
  key_part_is m (Some k) = refl

  -- the line of a use without its end
  abbrev pub use_words : List ℕ → ℕ → Option ℕ → List Stamp → List ℕ
  use_words name m key stamps = name ++ 91 ∷ (use_key_text spec m key ++ 93 ∷ stamps_text stamps)

  pieces_joined : (name key stamps : List ℕ) → (name ++ 91 ∷ (key ++ 93 ∷ [])) ++ (stamps ++ codes "\n") ≡ (name ++ 91 ∷ (key ++ 93 ∷ stamps)) ++ codes "\n"
  pieces_joined name key stamps =
      append_assoc name (91 ∷ (key ++ 93 ∷ [])) (stamps ++ codes "\n")
      ∙ ap (λ t. name ++ 91 ∷ t) (append_assoc key (93 ∷ []) (stamps ++ codes "\n") ∙ sym (append_assoc key (93 ∷ stamps) (codes "\n")))
      ∙ sym (append_assoc name (91 ∷ (key ++ 93 ∷ stamps)) (codes "\n"))

  -- the cell and the stamps, where the field is of the map
  written_as : (f : Field) (u : Seen) → f.1 ≡ MapOf u.of_map → cell_text spec f (part_read u.key) ++ (stamps_text u.stamps ++ codes "\n") ≡ use_words f.0 u.of_map u.key u.stamps ++ codes "\n"
  written_as f u e =
      ap (λ t. (f.0 ++ key_part spec (keys_of spec t) (part_read u.key)) ++ (stamps_text u.stamps ++ codes "\n")) e
      ∙ ap (λ t. (f.0 ++ t) ++ (stamps_text u.stamps ++ codes "\n")) (key_part_is u.of_map u.key)
      ∙ pieces_joined f.0 (use_key_text spec u.of_map u.key) (stamps_text u.stamps)

  -- the line of a use of the map of this field
  pub use_line_is : (f : Field) (u : Seen) → field_of_map u.of_map (state_fields spec) ≡ Some f → f.1 ≡ MapOf u.of_map → use_line spec u ≡ (codes "use " ++ use_words f.0 u.of_map u.key u.stamps) ++ codes "\n"
  use_line_is f u first e = ap (λ o. use_of spec o u.key u.stamps) first ∙ ap (λ t. codes "use " ++ t) (written_as f u e)

-- ---- stamps that were read

stamps_have : (code : ℕ → Bool) (u : Seen) (stamps : List Stamp) → u.stamps ≡ stamps → StampsFit code stamps → HasStamps u × AreAscending u.stamps × Each (StampFits code) u.stamps
stamps_have code u [] e fit = absurd fit
stamps_have code u (s ∷ stamps) e fit = (stamped u.stamps e, subst AreAscending (sym e) fit.0, subst (Each (StampFits code)) (sym e) fit.1)
  where
    stamped : (list : List Stamp) → list ≡ s ∷ stamps → HasItems list
    stamped [] e = absurd (cc)
    stamped (t ∷ list) e = tt

stamps_fit : (code : ℕ → Bool) (stamps : List Stamp) → HasItems stamps → AreAscending stamps → Each (StampFits code) stamps → StampsFit code stamps
stamps_fit code [] some ascend each = absurd some
stamps_fit code (s ∷ stamps) some ascend each = (ascend, each)

note_inside : (text : List ℕ) → IsNoteText text → IsTrue (list_all is_inside text)
note_inside [] h = refl
note_inside (b ∷ text) h = rw h.0 h.1

-- ---- both ways

-- the use of a map that a key and stamps make
abbrev seen_of : ℕ → Option ℕ × List Stamp → Seen
seen_of m p = record { of_map = m; key = p.0; stamps = p.1 }

module _ (spec : Spec) (has : HasUseTexts spec) (code : ℕ → Bool) where
  -- What is told of a use by its line.
  pub record UseTold (line : List ℕ) (u : Seen) : Type 0 where
    pub text : use_line spec u ≡ line ++ codes "\n"
    pub is_use : IsUseOf spec u
    pub ascending : AreAscending u.stamps
    pub stamps : Each (StampFits code) u.stamps

  told_by : (line text : List ℕ) (m : ℕ) (f : Field) (parts : List ℕ × List ℕ) (p : Option ℕ × List Stamp)
      → codes "use " ++ text ≡ line → f.0 ++ 91 ∷ (parts.0 ++ 93 ∷ parts.1) ≡ text → f.1 ≡ MapOf m → field_of_map m (state_fields spec) ≡ Some f → IsAmong (MapOf m) (state_types spec)
      → (use_key_text spec m p.0 ≡ parts.0) × IsKeyOfMap spec m p.0 → (stamps_text p.1 ≡ parts.1) × StampsFit code p.1 → UseTold line (record { of_map = m; key = p.0; stamps = p.1 })
  told_by line text m f parts p begins is type_is first among key stamps =
      let u : Seen = record { of_map = m; key = p.0; stamps = p.1 } in
      let fit = stamps_have code u p.1 refl stamps.1 in
      let words : use_words spec f.0 m p.0 p.1 ≡ text = ap (λ t. f.0 ++ 91 ∷ (t ++ 93 ∷ stamps_text p.1)) key.0 ∙ ap (λ t. f.0 ++ 91 ∷ (parts.0 ++ 93 ∷ t)) stamps.0 ∙ is in
      record {
        text = use_line_is spec f u first type_is ∙ ap (λ t. (codes "use " ++ t) ++ codes "\n") words ∙ ap (λ t. t ++ codes "\n") begins;
        is_use = record { field = among; key = key.1; stamps = fit.0 };
        ascending = fit.1;
        stamps = fit.2;
      }

  pub use_told : (line : List ℕ) (u : Seen) → use_said spec code line ≡ Some u → UseTold line u
  use_told line u h =
      let named = followed (use_behind spec code) (name_said line) u h in
      let begun = followed (cut 91) (behind (codes "use ") line) named.from named.is in
      let of_map = followed (λ m. option_and_then (λ p. use_of_map spec code p m) (cut 93 named.from.1)) (option_and_then map_of (field_named named.from.0 (state_fields spec))) u named.gives in
      let closed = followed (λ p. use_of_map spec code p of_map.from) (cut 93 named.from.1) u of_map.gives in
      let made = mapped (seen_of of_map.from) (option_zip (use_key spec of_map.from closed.from.0) (stamps_in code closed.from.1)) u closed.gives in
      let parts = zipped (use_key spec of_map.from closed.from.0) (stamps_in code closed.from.1) made.from made.is in
      let field = field_told spec has named.from.0 of_map.from of_map.is in
      let text : field.0.0 ++ 91 ∷ (closed.from.0 ++ 93 ∷ closed.from.1) ≡ begun.from =
      ap (λ n. n ++ 91 ∷ (closed.from.0 ++ 93 ∷ closed.from.1)) field.1.same_name ∙ ap (λ t. named.from.0 ++ 91 ∷ t) (cut_told 93 named.from.1 closed.from closed.is) ∙ cut_told 91 begun.from named.from begun.gives in
      subst (UseTold line) made.gives
      (told_by line begun.from of_map.from field.0 closed.from made.from (behind_tells (codes "use ") line begun.from begun.is) text field.1.type_is field.1.first field.1.among
      (use_key_tells spec of_map.from closed.from.0 made.from.0 parts.0) (stamps_tell code closed.from.1 made.from.1 parts.1))

  -- What is read of the line of a use.
  pub record UseRead (u : Seen) : Type 0 where
    pub words : List ℕ
    pub text : use_line spec u ≡ (codes "use " ++ words) ++ codes "\n"
    pub inside : IsTrue (list_all is_inside words)
    pub said : use_said spec code (codes "use " ++ words) ≡ Some u

  pub use_back : (u : Seen) → IsUseOf spec u → AreAscending u.stamps → Each (StampFits code) u.stamps → UseRead u
  use_back u is ascending each =
      let written = field_written spec has u.of_map is.field in
      let f = written.field in
      let name = name_parts f.0 written.name in
      let key = use_key_back spec u.of_map u.key written.keys is.key in
      let stamps = stamps_fit code u.stamps is.stamps ascending each in
      let key_words = use_key_text spec u.of_map u.key in
      let behind_name = key_words ++ 93 ∷ stamps_text u.stamps in
      record {
        words = use_words spec f.0 u.of_map u.key u.stamps;
        text = use_line_is spec f u written.first written.type_is;
        inside = both_all is_inside f.0 (91 ∷ behind_name) (all_others is_word_byte 10 f.0 refl name.word)
            (both_all is_inside key_words (93 ∷ stamps_text u.stamps) key.inside (note_inside (stamps_text u.stamps) (stamps_inside u.stamps)));
        said =
            ap (option_and_then (use_behind spec code)) (cut_back 91 f.0 behind_name (all_others is_word_byte 91 f.0 refl name.word))
            ∙ ap (λ o. option_and_then (λ m. option_and_then (λ p. use_of_map spec code p m) (cut 93 behind_name)) (option_and_then map_of o)) written.named
            ∙ ap (λ o. option_and_then (λ m. option_and_then (λ p. use_of_map spec code p m) (cut 93 behind_name)) o) (map_of_is f u.of_map written.type_is)
            ∙ ap (option_and_then (λ p. use_of_map spec code p u.of_map)) (cut_back 93 key_words (stamps_text u.stamps) key.closed)
            ∙ ap (λ o. option_map (seen_of u.of_map) (option_zip o (stamps_in code (stamps_text u.stamps)))) key.read
            ∙ ap (λ o. option_map (seen_of u.of_map) (option_zip (Some u.key) o)) (stamps_back code u.stamps stamps);
      }
