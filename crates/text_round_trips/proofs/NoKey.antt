-- Lines that are no listed cell.
use Rattle.std.proofs.Common.{◌≡◌, ◌==◌, ℕ, Bool, true, false, IsTrue, List, [], ◌∷◌, ◌++◌, length, codes, Option, Some, None, option_map, refl, sym, ap, subst, ◌∙◌, inl, inr, arith, nat_lt, append_assoc}
use Rattle.std.proofs.lemmas.Bool.{and_parts, both_ways}
use Rattle.std.specs.List.{list_all}
use Rattle.spec_ir.specs.declared.ty.Ty.{Ty}
use Rattle.spec_ir.specs.Specification.{Spec}
use Rattle.abstract_map_laws.specs.declared.cell.AbstractCell.{AbstractCell}
use Rattle.state_cell_text.specs.Keys.{key_text}
use Rattle.state_text.specs.Forms.{is_word_byte}
use Rattle.state_text.specs.Laws.{IsKeyType}
use Rattle.state_text.proofs.Bytes.{apart}
use Rattle.state_text.proofs.Computed.{key_word}
use Rattle.text_words.specs.Inside.{both_all}
use Rattle.text_words.specs.Options.{cond_then, followed}
use Rattle.text_words.specs.Readings.{Readings}
use Rattle.text_lines.specs.Lines.{is_inside, lines}
use Rattle.text_lines.specs.Outcomes.{all_said}
use Rattle.text_part_readers.specs.Cells.{cell_in, keyed_text, listed_said, next_said}
use Rattle.text_part_readers.specs.Keys.{last_key}
use Rattle.text_part_readers.proofs.Fitting.{key_in_type}
use Rattle.text_round_trips.specs.RoundTrips.{IsBehindElement}
use Rattle.text_round_trips.proofs.Begin.{begins_with}
use Rattle.text_round_trips.proofs.CellTexts.{all_of}
use Rattle.text_round_trips.proofs.CellsTold.{line_told}
use Rattle.text_round_trips.proofs.Keys.{is_other, key_back, key_told}
use Rattle.text_round_trips.proofs.SaidLines.{Begins, begins, stops}

-- letters, digits and `_`
abbrev pub IsWord : List ℕ → Type 0
IsWord text = list_all is_word_byte text ≡ true

-- What two texts show that begin with words, behind which other bytes stand, and are one.
pub record SameFronts (n g : List ℕ) (x y : ℕ) (r t : List ℕ) : Type 0 where
  pub word : n ≡ g
  pub byte : x ≡ y
  pub rest : r ≡ t

same_head : (x y : ℕ) (r t : List ℕ) → x ∷ r ≡ y ∷ t → (x ≡ y) × (r ≡ t)
same_head x y r t e = (cc, cc)

no_byte : (x y : ℕ) → is_word_byte x ≡ true → is_word_byte y ≡ false → x ≡ y → ⊥
no_byte x y p q e = both_ways (is_word_byte y) q (subst (λ z. is_word_byte z ≡ true) e p)

pub same_fronts : (n g : List ℕ) (x y : ℕ) (r t : List ℕ) → IsWord n → IsWord g → is_word_byte x ≡ false → is_word_byte y ≡ false → n ++ x ∷ r ≡ g ++ y ∷ t → SameFronts n g x y r t
same_fronts [] [] x y r t p q u v e = let h = same_head x y r t e in record { word = refl; byte = h.0; rest = h.1 }
same_fronts [] (b ∷ g) x y r t p q u v e =
    let parts = and_parts (is_word_byte b) (list_all is_word_byte g) q in absurd (no_byte b x parts.0 u (sym (same_head x b r (g ++ y ∷ t) e).0))
same_fronts (a ∷ n) [] x y r t p q u v e =
    let parts = and_parts (is_word_byte a) (list_all is_word_byte n) p in absurd (no_byte a y parts.0 v (same_head a y (n ++ x ∷ r) t e).0)
same_fronts (a ∷ n) (b ∷ g) x y r t p q u v e =
    let h = same_head a b (n ++ x ∷ r) (g ++ y ∷ t) e in
    let more = same_fronts n g x y r t (and_parts (is_word_byte a) (list_all is_word_byte n) p).1 (and_parts (is_word_byte b) (list_all is_word_byte g) q).1 u v h.1 in
    record { word = ap (λ (b : ℕ). b ∷ n) h.0 ∙ ap (λ (m : List ℕ). b ∷ m) more.word; byte = more.byte; rest = more.rest }

word_inside_byte : (b : ℕ) → is_word_byte b ≡ true → is_inside b ≡ true
word_inside_byte b h = let e : (b == 10) ≡ false = apart is_word_byte b 10 h refl in rw e refl

pub word_inside : (text : List ℕ) → IsWord text → IsTrue (list_all is_inside text)
word_inside text h = all_of is_word_byte is_inside word_inside_byte text h

word_other_byte : (b : ℕ) → is_word_byte b ≡ true → is_other 93 b ≡ true
word_other_byte b h = let e : (b == 93) ≡ false = apart is_word_byte b 93 h refl in rw e refl

pub word_other : (text : List ℕ) → IsWord text → list_all (is_other 93) text ≡ true
word_other text h = all_of is_word_byte (is_other 93) word_other_byte text h

-- ---- texts behind the cells of a map

-- It is empty; or it begins with a word, and behind that a space or `[*]`.
pub data IsBehindMap (text : List ℕ) : Type 0 where
  empty : text ≡ [] → IsBehindMap text
  spaced : (word rest : List ℕ) → IsWord word → text ≡ word ++ (codes " " ++ rest) → IsBehindMap text
  starred : (word rest : List ℕ) → IsWord word → text ≡ word ++ (codes "[*]" ++ rest) → IsBehindMap text

-- a word with a space behind it
abbrev IsSpaced : List ℕ → Type 0
IsSpaced text = (word : List ℕ) × IsWord word × (text ≡ word ++ codes " ")

pub behind_map : (text : List ℕ) → IsBehindElement text → IsBehindMap text
behind_map text (inl e) = empty e
behind_map text (inr h) =
    let front = begins_with IsSpaced text ((codes "part", refl, refl), ((codes "use", refl, refl), ((codes "next", refl, refl), ((codes "exit", refl, refl), ((codes "open", refl, refl), ((codes "undecodable", refl, refl), ((codes "at", refl, refl), tt))))))) h in
    spaced front.has.0 front.rest front.has.1 (front.is ∙ ap (λ (t : List ℕ). t ++ front.rest) front.has.2 ∙ append_assoc front.has.0 (codes " ") front.rest)

none_is : {A : Type 0} (o : Option A) → ((x : A) → o ≡ Some x → ⊥) → o ≡ None
none_is None never = refl
none_is (Some x) never = absurd (never x refl)

module _ {W N : Type 0} (readings : Readings W N) (code : ℕ → Bool) (spec : Spec) (cap : ℕ) (name : List ℕ) (ty : Ty) (w : ℕ) (is_name : IsWord name) (keys : IsKeyType spec ty) where
  -- what a line shows that is a listed cell: behind the name, a bracket and a key
  record HasKey (line : List ℕ) : Type 0 where
    key : List ℕ
    is_word : IsWord key
    rest : List ℕ
    line_is : name ++ 91 ∷ (key ++ 93 ∷ rest) ≡ line

  has_key : (given : List (ℕ × AbstractCell W N)) (line : List ℕ) (e : ℕ × AbstractCell W N) → next_said readings code spec cap name ty w given line ≡ Some e → HasKey line
  has_key given line e h =
      let some = cond_then (nat_lt (length given) cap) (listed_said readings code spec name ty w (last_key given) line) e h in
      let said = followed (λ p. option_map (λ y. (p.0, y)) (cell_in readings code w p.1)) (keyed_text spec name ty (last_key given) line) e some.1 in
      let told = line_told spec name ty (last_key given) line said.from said.is in
      let within = key_in_type spec ty told.key said.from.0 told.is in
      let word = subst (λ t. IsWord t) (key_told spec ty told.key said.from.0 told.is) (key_word (key_text spec ty said.from.0) (key_back spec ty said.from.0 keys within).1) in
      record { key = told.key; is_word = word; rest = codes " " ++ said.from.1; line_is = told.line_is }

  -- no listed cell has a space behind a word
  no_space : (given : List (ℕ × AbstractCell W N)) (word tail : List ℕ) → IsWord word → next_said readings code spec cap name ty w given ((word ++ codes " ") ++ tail) ≡ None
  no_space given word tail is =
      none_is (next_said readings code spec cap name ty w given ((word ++ codes " ") ++ tail))
      (λ e h.
      let has = has_key given ((word ++ codes " ") ++ tail) e h in
      let same = same_fronts name word 91 32 (has.key ++ 93 ∷ has.rest) tail is_name is refl refl (has.line_is ∙ append_assoc word (codes " ") tail) in
      let bad : 91 ≡ 32 = same.byte in
      omega (arith, bad))

  -- and `*` is no key
  no_star : (given : List (ℕ × AbstractCell W N)) (word tail : List ℕ) → IsWord word → next_said readings code spec cap name ty w given ((word ++ codes "[*]") ++ tail) ≡ None
  no_star given word tail is =
      none_is (next_said readings code spec cap name ty w given ((word ++ codes "[*]") ++ tail))
      (λ e h.
      let has = has_key given ((word ++ codes "[*]") ++ tail) e h in
      let same = same_fronts name word 91 91 (has.key ++ 93 ∷ has.rest) (42 ∷ 93 ∷ tail) is_name is refl refl (has.line_is ∙ append_assoc word (codes "[*]") tail) in
      let other = same_fronts has.key [] 93 42 has.rest (93 ∷ tail) has.is_word refl refl refl same.rest in
      let bad : 93 ≡ 42 = other.byte in
      omega (arith, bad))

  front_inside : (word mark : List ℕ) → IsWord word → IsTrue (list_all is_inside mark) → IsTrue (list_all is_inside (word ++ mark))
  front_inside word mark is h = both_all is_inside word mark (word_inside word is) h

  ends_at : (given : List (ℕ × AbstractCell W N)) (text word mark rest : List ℕ) → IsWord word → IsTrue (list_all is_inside mark) → text ≡ word ++ (mark ++ rest)
      → ((tail : List ℕ) → next_said readings code spec cap name ty w given ((word ++ mark) ++ tail) ≡ None)
      → all_said (next_said readings code spec cap name ty w) given (lines text) ≡ (given, lines text)
  ends_at given text word mark rest is inside e none =
      let front : Begins (word ++ mark) (lines text) = subst (λ (t : List ℕ). Begins (word ++ mark) (lines t)) (append_assoc word mark rest ∙ sym e) (begins (word ++ mark) rest (front_inside word mark is inside)) in
      stops (next_said readings code spec cap name ty w) given (word ++ mark) (lines text) none front

  -- the listed cells of a map end before such a text
  pub list_ends : (given : List (ℕ × AbstractCell W N)) (text : List ℕ) → IsBehindMap text → all_said (next_said readings code spec cap name ty w) given (lines text) ≡ (given, lines text)
  list_ends given text (empty e) = rw e refl
  list_ends given text (spaced word rest is e) = ends_at given text word (codes " ") rest is refl e (λ tail. no_space given word tail is)
  list_ends given text (starred word rest is e) = ends_at given text word (codes "[*]") rest is refl e (λ tail. no_star given word tail is)
