-- A head is read as it is written.
use Rattle.std.proofs.Common.{◌≡◌, ◌∙◌, ◌*◌, ◌%◌, ◌+◌, ◌<◌, ◌≤◌, ◌^◌, ℕ, Bool, true, false, cond, List, [], ◌∷◌, ◌++◌, Some, IsTrue, refl, sym, ap, append_assoc, arith}
use Rattle.std.specs.Prelude.{Result, Ok, Err, bytes_eq, codes}
use Rattle.std.specs.Fmt.{decimal}
use Rattle.std.specs.List.{list_all}
use Rattle.std.proofs.lemmas.Bool.Decides.{nat_tests}
use Rattle.std.proofs.lemmas.Fmt.{decimal_by_steps}
use Rattle.base_trait.specs.Lists.{Each}
use Rattle.support_command_line.specs.declared.bases.BaseName.TheVariants as b
use Rattle.code_image.specs.declared.order.Order.{Order}
use Rattle.code_image.specs.declared.order.Order.TheVariants.{Big, Little}
use Rattle.code_image.specs.Faults.{bytes_sum}
use Rattle.code_image.specs.Image.{Image, Segment, words_of}
use Rattle.text_words.specs.Fronts.{same_bytes}
use Rattle.text_words.specs.Inside.{both_all, number_inner}
use Rattle.text_words.specs.Words.{number}
use Rattle.text_lines.specs.Lines.{Lines, is_inside, lines}
use Rattle.text_tables.specs.Blocks.{at_line}
use Rattle.text_tables.specs.Heads.{code_line, code_lines, first_lines, head, order_line}
use Rattle.text_table_reader.specs.Heads.{Faulty, no_code, read_base, read_codes, read_head, read_image, read_one, read_one_of, then_lines}
use Rattle.text_round_trips.specs.FirstTexts.{first_head}
use Rattle.text_round_trips.proofs.Added.{first_line_of, line_in_front}

-- ---- lines without LF

pub number_inside : (n : ℕ) → IsTrue (list_all is_inside (number 32 n))
number_inside n = number_inner 10 (omega arith) 32 n

digit_inside : (d : ℕ) → d < 10 → IsTrue (is_inside (48 + d))
digit_inside d h = grind (arith, nat_tests, h)

one_digit : (n : ℕ) → n < 10 → IsTrue (list_all is_inside ((48 + n) ∷ []))
one_digit n h = rw (digit_inside n h) refl

decimal_inside : (n : ℕ) → n < 2 ^ 64 → IsTrue (list_all is_inside (decimal n))
decimal_inside n h =
    decimal_by_steps (λ m digits. IsTrue (list_all is_inside digits)) one_digit
    (λ m digits some rest. both_all is_inside digits ((48 + m % 10) ∷ []) rest (one_digit (m % 10) (omega arith))) n h

-- ---- lines that are determined

-- what is chosen, where the test holds
chosen : (fault : Faulty) (b : Bool) (ls : Lines) → b ≡ true → ◌≡◌ {A = Result Lines Faulty} (cond b (Ok ls) (Err fault)) (Ok ls)
chosen fault true ls e = refl
chosen fault false ls e = absurd (let bad : false ≡ true = e in cc)

chosen_behind : (fault : Faulty) (b : Bool) (ls : Lines) (next : Lines → Result Lines Faulty) → b ≡ true → then_lines (cond b (Ok ls) (Err fault)) next ≡ next ls
chosen_behind fault true ls next e = refl
chosen_behind fault false ls next e = absurd (let bad : false ≡ true = e in cc)

-- a line and its end are the text
line_is : (text line : List ℕ) → text ≡ line ++ codes "\n" → bytes_eq (line ++ codes "\n") text ≡ true
line_is text line e = ap (bytes_eq (line ++ codes "\n")) e ∙ same_bytes (line ++ codes "\n")

base_back : (name more : List ℕ) → IsTrue (list_all is_inside name) → read_base name (lines ((codes "base " ++ (name ++ codes "\n")) ++ more)) ≡ Ok (lines more)
base_back name more inside =
    let wanted = codes "base " ++ (name ++ codes "\n") in
    let line = codes "base " ++ name in
    ap (read_base name) (first_line_of wanted line more refl inside) ∙ chosen _ (bytes_eq (line ++ codes "\n") wanted) (lines more) (line_is wanted line refl)

-- the line of an order without its end
abbrev order_words : Order → List ℕ
order_words Big = codes "order big"
order_words Little = codes "order little"

order_is : (order : Order) → order_line order ≡ order_words order ++ codes "\n"
order_is Big = refl
order_is Little = refl

order_inside : (order : Order) → IsTrue (list_all is_inside (order_words order))
order_inside Big = refl
order_inside Little = refl

-- a segment of fewer than 2^64 bytes
abbrev pub IsShort : Segment → Type 0
IsShort s = 4 * words_of s < 2 ^ 64

-- the line of a segment, and this without its end
abbrev code_of : Segment → List ℕ
code_of s = code_line s.base (words_of s)

abbrev code_words : Segment → List ℕ
code_words s = codes "code " ++ (number 32 s.base ++ (codes " " ++ decimal (4 * words_of s)))

code_is : (s : Segment) → code_of s ≡ code_words s ++ codes "\n"
code_is s = ap (λ t. codes "code " ++ t) (sym (append_assoc (number 32 s.base) (codes " " ++ decimal (4 * words_of s)) (codes "\n")))

code_first : (s : Segment) (more : List ℕ) → IsShort s → lines (code_of s ++ more) ≡ Some (code_words s) ∷ lines more
code_first s more short =
    first_line_of (code_of s) (code_words s) more (code_is s)
    (both_all is_inside (number 32 s.base) (codes " " ++ decimal (4 * words_of s)) (number_inside s.base) (decimal_inside (4 * words_of s) short))

codes_back : (segments : List Segment) (more : List ℕ) → Each IsShort segments → read_codes segments (lines (code_lines segments ++ more)) ≡ Ok (lines more)
codes_back [] more short = refl
codes_back (s ∷ segments) more short =
    let others = code_lines segments ++ more in
    ap (λ t. read_codes (s ∷ segments) (lines t)) (append_assoc (code_of s) (code_lines segments) more)
    ∙ ap (read_codes (s ∷ segments)) (code_first s others short.0)
    ∙ chosen_behind _ (bytes_eq (code_words s ++ codes "\n") (code_of s)) (lines others) (read_codes segments) (line_is (code_of s) (code_words s) (code_is s))
    ∙ codes_back segments more short.1

pub short_from : (segments : List Segment) (n : ℕ) → bytes_sum segments ≤ n → n ≤ 1048576 → Each IsShort segments
short_from [] n h few = tt
short_from (s ∷ segments) n h few = (omega (arith, h, few), short_from segments n (omega (arith, h)) few)

-- ---- what stands behind the head

-- Blocks: none, or lines that begin with that of an address.
pub data AreBlockLines : List ℕ → Type 0 where
  none : AreBlockLines []
  begun : (at : ℕ) (more : List ℕ) → AreBlockLines (at_line at ++ more)

-- the first line is that of the address
pub at_first : (at : ℕ) (more : List ℕ) → lines (at_line at ++ more) ≡ Some (codes "at " ++ number 32 at) ∷ lines more
at_first at more = first_line_of (at_line at) (codes "at " ++ number 32 at) more refl (number_inside at)

no_code_back : (more : List ℕ) → AreBlockLines more → no_code (lines more) ≡ Ok (lines more)
no_code_back more none = refl
no_code_back more (begun at others) = ap no_code (at_first at others) ∙ ap Ok (sym (at_first at others))

image_back : (image : Image) (more : List ℕ) → Each IsShort image.segments → AreBlockLines more → read_image image (lines ((order_line image.order ++ code_lines image.segments) ++ more)) ≡ Ok (lines more)
image_back image more short blocks =
    let order = order_line image.order in
    let words = order_words image.order in
    let others = code_lines image.segments ++ more in
    ap (λ t. read_image image (lines t)) (append_assoc order (code_lines image.segments) more)
    ∙ ap (read_image image) (first_line_of order words others (order_is image.order) (order_inside image.order))
    ∙ chosen_behind _ (bytes_eq (words ++ codes "\n") order) (lines others) (λ later. then_lines (read_codes image.segments later) no_code) (line_is order words (order_is image.order))
    ∙ ap (λ r. then_lines r no_code) (codes_back image.segments more short)
    ∙ no_code_back more blocks

-- ---- both formats

module _ (name : List ℕ) (image : Image) (inside : IsTrue (list_all is_inside name)) (more : List ℕ) where
  pub head_back : Each IsShort image.segments → AreBlockLines more → read_head name image (lines (head name image ++ more)) ≡ Ok (lines more)
  unfolding first_lines
  head_back short blocks =
      let all = order_line image.order ++ code_lines image.segments in
      let others = (codes "base " ++ (name ++ codes "\n")) ++ (all ++ more) in
      ap (λ t. read_head name image (lines t)) (ap (λ t. codes "tsl-table 2\nbase " ++ t) (append_assoc (name ++ codes "\n") all more))
      ∙ ap (read_head name image) (line_in_front (codes "tsl-table 2") others refl)
      ∙ ap (λ r. then_lines r (read_image image)) (base_back name (all ++ more) inside)
      ∙ image_back image more short blocks

  one_back : (order : Order) (segments : List Segment) (s : Segment) → order ≡ Big → segments ≡ s ∷ [] → IsShort s → read_one_of order segments (lines (code_line s.base (words_of s) ++ more)) ≡ Ok (lines more)
  one_back order segments s big only short =
      ap (λ o. read_one_of o segments (lines (code_line s.base (words_of s) ++ more))) big
      ∙ ap (λ list. read_one_of Big list (lines (code_line s.base (words_of s) ++ more))) only
      ∙ ap (read_one_of Big (s ∷ [])) (code_first s more short)
      ∙ chosen _ (bytes_eq (code_words s ++ codes "\n") (code_of s)) (lines more) (line_is (code_of s) (code_words s) (code_is s))

  pub first_back : (s : Segment) → image.order ≡ Big → image.segments ≡ s ∷ [] → IsShort s → read_head name image (lines (first_head name s ++ more)) ≡ Ok (lines more)
  first_back s big only short =
      let code = code_line s.base (words_of s) in
      let others = (codes "base " ++ (name ++ codes "\n")) ++ (code ++ more) in
      let one : (name ++ (codes "\n" ++ code)) ++ more ≡ (name ++ codes "\n") ++ (code ++ more) =
      ap (λ t. t ++ more) (sym (append_assoc name (codes "\n") code)) ∙ append_assoc (name ++ codes "\n") code more in
      ap (λ t. read_head name image (lines t)) (ap (λ t. codes "tsl-table 1\nbase " ++ t) one)
      ∙ ap (read_head name image) (line_in_front (codes "tsl-table 1") others refl)
      ∙ ap (λ r. then_lines r (read_one image)) (base_back name (code ++ more) inside)
      ∙ one_back image.order image.segments s big only short
