-- The head that is read is the head of a text.
use Rattle.std.proofs.Common.{◌≡◌, ◌⊎◌, ℕ, Bool, true, false, cond, List, [], ◌∷◌, ◌++◌, None, Some, refl, ap, subst, inl, inr, append_assoc}
use Rattle.std.specs.Prelude.{Result, Ok, Err, bytes_eq, codes}
use Rattle.std.proofs.lemmas.Slice.Eq.{bytes_eq-Decides}
use Rattle.code_image.specs.declared.order.Order.{Order}
use Rattle.code_image.specs.declared.order.Order.TheVariants.{Big, Little}
use Rattle.code_image.specs.Image.{Image, Segment, words_of}
use Rattle.text_lines.specs.Lines.{Lines}
use Rattle.text_tables.specs.Heads.{code_line, code_lines, first_lines, head, order_line}
use Rattle.text_table_reader.specs.Heads.{Faulty, has_code_form, no_code, read_base, read_codes, read_head, read_image, read_one, read_one_of, then_lines}
use Rattle.text_round_trips.specs.FirstTexts.{first_head}
use Rattle.text_round_trips.proofs.Added.{Adds, adds_as, adds_both, adds_line, adds_nothing}

-- ---- what results tell

same_ok : (ls others : Lines) → ◌≡◌ {A = Result Lines Faulty} (Ok ls) (Ok others) → ls ≡ others
same_ok ls others h = cc

no_fault : {fault : Faulty} (others : Lines) → ◌≡◌ {A = Result Lines Faulty} (Err fault) (Ok others) → ⊥
no_fault others h = cc

-- what was read first, and what is read behind it
record ReadBehind (r : Result Lines Faulty) (next : Lines → Result Lines Faulty) (others : Lines) : Type 0 where
  between : Lines
  first : r ≡ Ok between
  second : next between ≡ Ok others

read_behind : (r : Result Lines Faulty) (next : Lines → Result Lines Faulty) (others : Lines) → then_lines r next ≡ Ok others → ReadBehind r next others
read_behind (Err fault) next others h = absurd (no_fault others h)
read_behind (Ok ls) next others h = record { between = ls; first = refl; second = h }

-- a choice between lines and a fault
chosen : (fault : Faulty) (b : Bool) (ls others : Lines) → ◌≡◌ {A = Result Lines Faulty} (cond b (Ok ls) (Err fault)) (Ok others) → (b ≡ true) × (ls ≡ others)
chosen fault true ls others h = (refl, same_ok ls others h)
chosen fault false ls others h = absurd (no_fault others h)

chosen_behind : (fault : Faulty) (b : Bool) (ls : Lines) (next : Lines → Result Lines Faulty) (others : Lines) → then_lines (cond b (Ok ls) (Err fault)) next ≡ Ok others → (b ≡ true) × (next ls ≡ Ok others)
chosen_behind fault true ls next others h = (refl, h)
chosen_behind fault false ls next others h = absurd (no_fault others h)

-- ---- lines that are determined

-- the line is the wanted one
wanted_line : (wanted line : List ℕ) (ls : Lines) → bytes_eq (line ++ codes "\n") wanted ≡ true → Adds wanted (Some line ∷ ls) ls
wanted_line wanted line ls same = adds_as (line ++ codes "\n") wanted (Some line ∷ ls) ls ((bytes_eq-Decides (line ++ codes "\n") wanted).0 same) (adds_line line ls)

base_tells : (name : List ℕ) (ls others : Lines) → read_base name ls ≡ Ok others → Adds (codes "base " ++ (name ++ codes "\n")) ls others
base_tells name [] others h = absurd (no_fault others h)
base_tells name (None ∷ ls) others h = absurd (no_fault others h)
base_tells name (Some line ∷ ls) others h =
    let wanted = codes "base " ++ (name ++ codes "\n") in
    let is = chosen _ (bytes_eq (line ++ codes "\n") wanted) ls others h in
    subst (λ l. Adds wanted (Some line ∷ ls) l) is.1 (wanted_line wanted line ls is.0)

codes_tell : (segments : List Segment) (ls others : Lines) → read_codes segments ls ≡ Ok others → Adds (code_lines segments) ls others
codes_tell [] ls others h = subst (λ l. Adds [] ls l) (same_ok ls others h) (adds_nothing ls)
codes_tell (s ∷ segments) [] others h = absurd (no_fault others h)
codes_tell (s ∷ segments) (None ∷ ls) others h = absurd (no_fault others h)
codes_tell (s ∷ segments) (Some line ∷ ls) others h =
    let wanted = code_line s.base (words_of s) in
    let is = chosen_behind _ (bytes_eq (line ++ codes "\n") wanted) ls (read_codes segments) others h in
    adds_both wanted (code_lines segments) (Some line ∷ ls) ls others (wanted_line wanted line ls is.0) (codes_tell segments ls others is.1)

no_code_if : (fault : Faulty) (ls others : Lines) (b : Bool) → ◌≡◌ {A = Result Lines Faulty} (cond b (Err fault) (Ok ls)) (Ok others) → ls ≡ others
no_code_if fault ls others true h = absurd (no_fault others h)
no_code_if fault ls others false h = same_ok ls others h

no_code_tells : (ls others : Lines) → no_code ls ≡ Ok others → ls ≡ others
no_code_tells [] others h = same_ok [] others h
no_code_tells (None ∷ ls) others h = same_ok (None ∷ ls) others h
no_code_tells (Some line ∷ ls) others h = no_code_if _ (Some line ∷ ls) others (has_code_form line) h

image_tells : (image : Image) (ls others : Lines) → read_image image ls ≡ Ok others → Adds (order_line image.order ++ code_lines image.segments) ls others
image_tells image [] others h = absurd (no_fault others h)
image_tells image (None ∷ ls) others h = absurd (no_fault others h)
image_tells image (Some line ∷ ls) others h =
    let wanted = order_line image.order in
    let is = chosen_behind _ (bytes_eq (line ++ codes "\n") wanted) ls (λ later. then_lines (read_codes image.segments later) no_code) others h in
    let code = read_behind (read_codes image.segments ls) no_code others is.1 in
    adds_both wanted (code_lines image.segments) (Some line ∷ ls) ls others (wanted_line wanted line ls is.0)
    (subst (λ l. Adds (code_lines image.segments) ls l) (no_code_tells code.between others code.second) (codes_tell image.segments ls code.between code.first))

-- ---- format 1

-- The image has one segment in big order, and the lines begin with this text of it.
pub record IsOne (front : Segment → List ℕ) (order : Order) (segments : List Segment) (ls others : Lines) : Type 0 where
  pub segment : Segment
  pub only : segments ≡ segment ∷ []
  pub order_is : order ≡ Big
  pub adds : Adds (front segment) ls others

abbrev code_of : Segment → List ℕ
code_of s = code_line s.base (words_of s)

little_never : (segments : List Segment) (ls others : Lines) → read_one_of Little segments ls ≡ Ok others → ⊥
little_never segments [] others h = no_fault others h
little_never segments (None ∷ ls) others h = no_fault others h
little_never segments (Some line ∷ ls) others h = no_fault others h

none_never : (ls others : Lines) → read_one_of Big [] ls ≡ Ok others → ⊥
none_never [] others h = no_fault others h
none_never (None ∷ ls) others h = no_fault others h
none_never (Some line ∷ ls) others h = no_fault others h

more_never : (s t : Segment) (segments : List Segment) (ls others : Lines) → read_one_of Big (s ∷ t ∷ segments) ls ≡ Ok others → ⊥
more_never s t segments [] others h = no_fault others h
more_never s t segments (None ∷ ls) others h = no_fault others h
more_never s t segments (Some line ∷ ls) others h = no_fault others h

segment_tells : (s : Segment) (ls others : Lines) → read_one_of Big (s ∷ []) ls ≡ Ok others → Adds (code_of s) ls others
segment_tells s [] others h = absurd (no_fault others h)
segment_tells s (None ∷ ls) others h = absurd (no_fault others h)
segment_tells s (Some line ∷ ls) others h =
    let is = chosen _ (bytes_eq (line ++ codes "\n") (code_of s)) ls others h in
    subst (λ l. Adds (code_of s) (Some line ∷ ls) l) is.1 (wanted_line (code_of s) line ls is.0)

one_tells : (order : Order) (segments : List Segment) (ls others : Lines) → read_one_of order segments ls ≡ Ok others → IsOne code_of order segments ls others
one_tells Little segments ls others h = absurd (little_never segments ls others h)
one_tells Big [] ls others h = absurd (none_never ls others h)
one_tells Big (s ∷ []) ls others h = record { segment = s; only = refl; order_is = refl; adds = segment_tells s ls others h }
one_tells Big (s ∷ t ∷ segments) ls others h = absurd (more_never s t segments ls others h)

-- ---- both formats

module _ (name : List ℕ) (image : Image) where
  -- the lines begin with the head of a format
  abbrev pub IsHead : Lines → Lines → Type 0
  IsHead ls others = Adds (head name image) ls others ⊎ IsOne (first_head name) image.order image.segments ls others

  -- the first line says the format
  format_line : (line format : List ℕ) (ls : Lines) → bytes_eq line format ≡ true → Adds (format ++ codes "\n") (Some line ∷ ls) ls
  format_line line format ls same = subst (λ l. Adds (l ++ codes "\n") (Some line ∷ ls) ls) ((bytes_eq-Decides line format).0 same) (adds_line line ls)

  second_tells : (line : List ℕ) (ls others : Lines) → bytes_eq line (codes "tsl-table 2") ≡ true → then_lines (read_base name ls) (read_image image) ≡ Ok others → Adds (head name image) (Some line ∷ ls) others
  unfolding first_lines
  second_tells line ls others same h =
      let both = read_behind (read_base name ls) (read_image image) others h in
      let base = codes "base " ++ (name ++ codes "\n") in
      let all = order_line image.order ++ code_lines image.segments in
      adds_both (codes "tsl-table 2\n") (base ++ all) (Some line ∷ ls) ls others (format_line line (codes "tsl-table 2") ls same)
      (adds_both base all ls both.between others (base_tells name ls both.between both.first) (image_tells image both.between others both.second))

  first_tells : (line : List ℕ) (ls others : Lines) → bytes_eq line (codes "tsl-table 1") ≡ true → then_lines (read_base name ls) (read_one image) ≡ Ok others
      → IsOne (first_head name) image.order image.segments (Some line ∷ ls) others
  first_tells line ls others same h =
      let both = read_behind (read_base name ls) (read_one image) others h in
      let one = one_tells image.order image.segments both.between others both.second in
      let base = codes "base " ++ (name ++ codes "\n") in
      let code = code_of one.segment in
      let told = adds_both (codes "tsl-table 1\n") (base ++ code) (Some line ∷ ls) ls others (format_line line (codes "tsl-table 1") ls same)
      (adds_both base code ls both.between others (base_tells name ls both.between both.first) one.adds) in
      record {
        segment = one.segment;
        only = one.only;
        order_is = one.order_is;
        adds = adds_as (codes "tsl-table 1\n" ++ (base ++ code)) (first_head name one.segment) (Some line ∷ ls) others (ap (λ t. codes "tsl-table 1\nbase " ++ t) (append_assoc name (codes "\n") code)) told;
      }

  first_if : (fault : Faulty) (line : List ℕ) (ls others : Lines) (b : Bool) → bytes_eq line (codes "tsl-table 1") ≡ b
      → ◌≡◌ {A = Result Lines Faulty} (cond b (then_lines (read_base name ls) (read_one image)) (Err fault)) (Ok others) → IsHead (Some line ∷ ls) others
  first_if fault line ls others true same h = inr (first_tells line ls others same h)
  first_if fault line ls others false same h = absurd (no_fault others h)

  second_if : (fault : Faulty) (line : List ℕ) (ls others : Lines) (b : Bool) → bytes_eq line (codes "tsl-table 2") ≡ b
      → ◌≡◌ {A = Result Lines Faulty} (cond b (then_lines (read_base name ls) (read_image image)) (cond (bytes_eq line (codes "tsl-table 1")) (then_lines (read_base name ls) (read_one image)) (Err fault))) (Ok others)
      → IsHead (Some line ∷ ls) others
  second_if fault line ls others true same h = inl (second_tells line ls others same h)
  second_if fault line ls others false same h = first_if fault line ls others (bytes_eq line (codes "tsl-table 1")) refl h

  pub head_tells : (ls others : Lines) → read_head name image ls ≡ Ok others → IsHead ls others
  head_tells [] others h = absurd (no_fault others h)
  head_tells (None ∷ ls) others h = absurd (no_fault others h)
  head_tells (Some line ∷ ls) others h = second_if _ line ls others (bytes_eq line (codes "tsl-table 2")) refl h
