-- Cells with their names are read as they are written.
use Rattle.std.proofs.Common.{◌≡◌, ◌==◌, ℕ, Bool, true, false, not, IsTrue, List, [], ◌∷◌, ◌++◌, length, take, drop, codes, Option, Some, None, refl, sym, ap, subst, ◌∙◌, arith, append-nil, append_assoc}
use Rattle.std.proofs.lemmas.Bool.{and_parts, not-true}
use Rattle.std.proofs.lemmas.List.{drop_at, take-append-drop, take_at}
use Rattle.std.proofs.lemmas.Option.{none-some, same_Some}
use Rattle.std.specs.List.{list_all}
use Rattle.word_operations.specs.Width.{IsWidth}
use Rattle.base_trait.specs.Algebra.{Algebra}
use Rattle.abstract_map_laws.specs.declared.cell.AbstractCell.{AbstractCell}
use Rattle.state_text.proofs.Bytes.{run_of}
use Rattle.text_words.specs.Fronts.{behind_back, behind_tells}
use Rattle.text_words.specs.Options.{followed}
use Rattle.text_words.specs.Reading.{behind}
use Rattle.text_words.specs.Readings.{IsNoteText, Readings, TextsTell, is_inside, is_solid}
use Rattle.text_words.specs.Texts.{Texts, noted}
use Rattle.text_part_readers.specs.Cells.{behind_name, cell_in, cell_of}
use Rattle.text_part_readers.specs.Pieces.{len_before}
use Rattle.text_round_trips.proofs.Keys.{is_other}

-- ---- names

pub name_told : (name mark line rest : List ℕ) → behind_name name mark line ≡ Some rest → name ++ (mark ++ rest) ≡ line
name_told name mark line rest e =
    let said = followed (behind mark) (behind name line) rest e in
    ap (λ (t : List ℕ). name ++ t) (behind_tells mark said.from rest said.gives) ∙ behind_tells name line said.from said.is

pub name_back : (name mark rest : List ℕ) → behind_name name mark (name ++ (mark ++ rest)) ≡ Some rest
name_back name mark rest = rw (behind_back name (mark ++ rest), behind_back mark rest) refl

-- what a cell says is one line: a name, a mark, a space and a text
pub named_line : (name mark text : List ℕ) → (name ++ mark) ++ (codes " " ++ (text ++ codes "\n")) ≡ (name ++ (mark ++ (codes " " ++ text))) ++ 10 ∷ []
named_line name mark text =
    append_assoc name mark (codes " " ++ (text ++ codes "\n")) ∙ ap (λ (t : List ℕ). name ++ t) (sym (append_assoc mark (codes " " ++ text) (codes "\n")))
    ∙ sym (append_assoc name (mark ++ (codes " " ++ text)) (codes "\n"))

-- the line that was read
pub marked_line : (name mark text rest line : List ℕ) → text ≡ rest → name ++ (mark ++ (codes " " ++ rest)) ≡ line → (name ++ mark) ++ (codes " " ++ (text ++ codes "\n")) ≡ line ++ 10 ∷ []
marked_line name mark text rest line e is =
    named_line name mark text ∙ ap (λ (t : List ℕ). (name ++ (mark ++ (codes " " ++ t))) ++ 10 ∷ []) e ∙ ap (λ (t : List ℕ). t ++ 10 ∷ []) is

-- and with a key in brackets
pub keyed_line : (name spelled key text rest line : List ℕ) → spelled ≡ key → text ≡ rest → name ++ (codes "[" ++ (key ++ 93 ∷ (codes " " ++ rest))) ≡ line
    → (name ++ (91 ∷ (spelled ++ 93 ∷ []))) ++ (codes " " ++ (text ++ codes "\n")) ≡ line ++ 10 ∷ []
keyed_line name spelled key text rest line e f is =
    marked_line name (91 ∷ (spelled ++ 93 ∷ [])) text rest line f
    (ap (λ (t : List ℕ). name ++ (91 ∷ t)) (append_assoc spelled (93 ∷ []) (32 ∷ rest)) ∙ ap (λ (t : List ℕ). name ++ (91 ∷ (t ++ 93 ∷ 32 ∷ rest))) e ∙ is)

-- ---- tests of bytes

pub all_of : (test other : ℕ → Bool) → ((b : ℕ) → test b ≡ true → other b ≡ true) → (text : List ℕ) → list_all test text ≡ true → list_all other text ≡ true
all_of test other so [] h = refl
all_of test other so (b ∷ text) h = let parts = and_parts (test b) (list_all test text) h in rw (so b parts.0) (all_of test other so text parts.1)

solid_inside : (b : ℕ) → is_solid b ≡ true → is_inside b ≡ true
solid_inside b h = (and_parts (not (b == 10)) (not (b == 32)) h).0

solid_other : (b : ℕ) → is_solid b ≡ true → is_other 32 b ≡ true
solid_other b h = (and_parts (not (b == 10)) (not (b == 32)) h).1

note_text_inside : (text : List ℕ) → IsNoteText text → IsTrue (list_all is_inside text)
note_text_inside [] h = refl
note_text_inside (b ∷ text) h = subst (λ n. IsTrue (list_all is_inside (n ∷ text))) (sym h.0) h.1

-- ---- a word and its note

all_run : (b : ℕ) (text : List ℕ) → list_all (is_other b) text ≡ true → len_before b text ≡ length text
all_run b [] h = refl
all_run b (c ∷ text) h =
    let parts = and_parts (is_other b c) (list_all (is_other b) text) h in
    let apart : (c == b) ≡ false = not-true (c == b) parts.0 in
    rw (apart, all_run b text parts.1) (omega arith)

-- up to the first space
word_len : (word note : List ℕ) → list_all (is_other 32) word ≡ true → IsNoteText note → len_before 32 (word ++ note) ≡ length word
word_len word [] h is = ap (len_before 32) (append-nil word) ∙ all_run 32 word h
word_len word (b ∷ note) h is = ap (λ (c : ℕ). len_before 32 (word ++ c ∷ note)) is.0 ∙ run_of (is_other 32) word 32 note h refl

module _ {W N C : Type 0} (B : Algebra W N C) (c : C) {NoteFits : (ℕ → Bool) → N → Type 0} (texts : Texts W N) (readings : Readings W N) (tell : TextsTell B NoteFits texts readings) (code : ℕ → Bool) where
  -- What is so of a cell that was read: its text, and its note.
  pub record CellTold (text : List ℕ) (w : ℕ) (x : AbstractCell W N) : Type 0 where
    pub text_is : noted texts w x.word x.note ≡ text
    pub note : NoteFits code x.note

  made_told : (w : ℕ) (word note : List ℕ) (x : AbstractCell W N) → IsWidth w → (found : Option W) (with_note : Option N) → readings.word w word ≡ found → readings.note code note ≡ with_note → cell_of found with_note ≡ Some x
      → CellTold (word ++ note) w x
  made_told w word note x width None with_note e f h = absurd (none-some x h)
  made_told w word note x width (Some y) None e f h = absurd (none-some x h)
  made_told w word note x width (Some y) (Some n) e f h =
      let first = (tell.word_tells c w word y width e).0 in
      let second = tell.note_tells code note n f in
      subst (λ z. CellTold (word ++ note) w z) (same_Some (record { word = y; note = n }) x h)
      (record { text_is = ap (λ (t : List ℕ). t ++ texts.note n) first ∙ ap (λ (t : List ℕ). word ++ t) second.0; note = second.1 })

  pub cell_told : (w : ℕ) (text : List ℕ) (x : AbstractCell W N) → IsWidth w → cell_in readings code w text ≡ Some x → CellTold text w x
  cell_told w text x width h =
      let word = take (len_before 32 text) text in
      let note = drop (len_before 32 text) text in
      subst (λ (t : List ℕ). CellTold t w x) (take-append-drop (len_before 32 text) text) (made_told w word note x width (readings.word w word) (readings.note code note) refl refl h)

  pub cell_back : (w : ℕ) (x : AbstractCell W N) → IsWidth w → B.words.fits c w x.word → NoteFits code x.note → cell_in readings code w (noted texts w x.word x.note) ≡ Some x
  cell_back w x width fits fair =
      let word = texts.word w x.word in
      let note = texts.note x.note in
      let len : len_before 32 (word ++ note) ≡ length word = word_len word note (all_of is_solid (is_other 32) solid_other word (tell.word_solid w x.word)) (tell.note_inside x.note) in
      rw (len, take_at word note (length word) refl, drop_at word note (length word) refl, tell.word_back c w x.word width fits, tell.note_back code x.note fair) refl

  pub word_inside : (w : ℕ) (x : W) → IsTrue (list_all is_inside (texts.word w x))
  word_inside w x = all_of is_solid is_inside solid_inside (texts.word w x) (tell.word_solid w x)

  pub note_inside : (note : N) → IsTrue (list_all is_inside (texts.note note))
  note_inside note = note_text_inside (texts.note note) (tell.note_inside note)
