-- The head of a table, read.
use Rattle.std.specs.Prelude.{ℕ, Bool, false, ◌&&◌, ◌||◌, ◌==◌, not, nat_lt, List, [], ◌∷◌, ◌++◌, Option, Some, None, Result, Ok, Err, bytes_eq, codes, drop, is_some, length, take, if◌then◌else◌}
use Rattle.std.specs.List.{list_all, list_any}
use Rattle.code_image.specs.declared.order.Order.{Order}
use Rattle.code_image.specs.declared.order.Order.TheVariants.{Big}
use Rattle.code_image.specs.Image.{Image, Segment, words_of}
use Rattle.support_command_line.specs.Bases.{all_bases, base_text}
use Rattle.text_words.specs.Reading.{behind, number_in}
use Rattle.text_lines.specs.Lines.{Lines, first_line}
use Rattle.text_tables.specs.Heads.{code_line, order_line}
use Rattle.text_table_reader.specs.declared.head.Rule.{Rule}
use Rattle.text_table_reader.specs.declared.head.Rule.TheVariants as rule
use Rattle.text_table_reader.specs.declared.head.Place.{Place}
use Rattle.text_table_reader.specs.declared.head.Place.TheVariants as place

-- ---- faults

-- the first faulty line and those behind it, or none; and its rule
pub record Faulty : Type 0 where
  pub rule : Rule
  pub left : Lines

abbrev pub faulty : {A : Type 0} → Rule → Lines → Result A Faulty
faulty rule ls = Err (record { rule = rule; left = ls })

-- where nothing is faulty, what comes of the lines that are left
abbrev pub then_lines : Result Lines Faulty → (Lines → Result Lines Faulty) → Result Lines Faulty
then_lines (Err fault) next = Err fault
then_lines (Ok ls) next = next ls

-- ---- the forms of lines

-- a test of what there is; false, where there is none
abbrev pub option_any : {A : Type 0} → (A → Bool) → Option A → Bool
option_any test None = false
option_any test (Some x) = test x

-- whether a name is that of a base
abbrev pub is_base : List ℕ → Bool
is_base name = list_any (λ b. bytes_eq (base_text b) name) all_bases

-- `base NAME`
abbrev pub has_base_form : List ℕ → Bool
has_base_form line = option_any is_base (behind (codes "base ") line)

-- a decimal digit
abbrev pub is_decimal : ℕ → Bool
is_decimal b = nat_lt 47 b && nat_lt b 58

-- a number in decimal digits without leading zeros, of any size
abbrev pub is_length : List ℕ → Bool
is_length [] = false
is_length (b ∷ digits) = list_all is_decimal (b ∷ digits) && not (b == 48 && nat_lt 0 (length digits))

-- a space, and such a number
abbrev pub is_length_part : List ℕ → Bool
is_length_part [] = false
is_length_part (b ∷ digits) = b == 32 && is_length digits

-- an address in 8 digits, a space and such a number
abbrev pub is_code_part : List ℕ → Bool
is_code_part text = is_some (number_in 32 (take 8 text)) && is_length_part (drop 8 text)

-- `code `, an address in 8 digits, a space and a length
abbrev pub has_code_form : List ℕ → Bool
has_code_form line = option_any is_code_part (behind (codes "code ") line)

-- `order big` or `order little`
abbrev pub has_order_form : List ℕ → Bool
has_order_form line = bytes_eq line (codes "order big") || bytes_eq line (codes "order little")

-- ---- lines that are determined

-- Which rule a line breaks that is not the one that is wanted: X2 or X3, where it has the form of its place, else X1.
abbrev pub rule_at : Place → List ℕ → Rule
rule_at place.Base line = if has_base_form line then rule.Base else rule.Form
rule_at place.Order line = if has_order_form line then rule.Code else rule.Form
rule_at place.Code line = if has_code_form line then rule.Code else rule.Form

-- The next line is this one, which ends with LF, or it is faulty.
abbrev pub exact_at : List ℕ → Place → Lines → Option (List ℕ × Lines) → Result Lines Faulty
exact_at wanted at ls None = faulty rule.Form ls
exact_at wanted at ls (Some cut) = if bytes_eq (cut.0 ++ codes "\n") wanted then Ok cut.1 else faulty (rule_at at cut.0) ls

abbrev pub exact : List ℕ → Place → Lines → Result Lines Faulty
exact wanted at ls = exact_at wanted at ls (first_line ls)

abbrev pub read_base : List ℕ → Lines → Result Lines Faulty
read_base name ls = exact (codes "base " ++ (name ++ codes "\n")) place.Base ls

-- ---- format 2: the order, and a line for each segment

abbrev pub read_codes : List Segment → Lines → Result Lines Faulty
read_codes [] ls = Ok ls
read_codes (s ∷ segments) ls = then_lines (exact (code_line s.base (words_of s)) place.Code ls) (read_codes segments)

-- behind the last segment's there is no line of code
abbrev pub no_code_at : Lines → Option (List ℕ × Lines) → Result Lines Faulty
no_code_at ls None = Ok ls
no_code_at ls (Some cut) = if has_code_form cut.0 then faulty rule.Code ls else Ok ls

abbrev pub no_code : Lines → Result Lines Faulty
no_code ls = no_code_at ls (first_line ls)

abbrev pub read_image : Image → Lines → Result Lines Faulty
read_image image ls = then_lines (exact (order_line image.order) place.Order ls) (λ later. then_lines (read_codes image.segments later) no_code)

-- ---- format 1: the code of one segment in big order

abbrev pub other_code : Lines → Option (List ℕ × Lines) → Result Lines Faulty
other_code ls None = faulty rule.Form ls
other_code ls (Some cut) = faulty (rule_at place.Code cut.0) ls

-- The format tells of an image of one segment in big order alone.
abbrev pub read_one_of : Order → List Segment → Lines → Result Lines Faulty
read_one_of Big (s ∷ []) ls = exact (code_line s.base (words_of s)) place.Code ls
read_one_of order segments ls = other_code ls (first_line ls)

abbrev pub read_one : Image → Lines → Result Lines Faulty
read_one image ls = read_one_of image.order image.segments ls

-- ---- the format that the first line says

module _ (name : List ℕ) (image : Image) where
  abbrev pub read_head_at : Lines → Option (List ℕ × Lines) → Result Lines Faulty
  read_head_at ls None = faulty rule.Form ls
  read_head_at ls (Some cut) =
      if bytes_eq cut.0 (codes "tsl-table 2") then then_lines (read_base name cut.1) (read_image image)
      else (if bytes_eq cut.0 (codes "tsl-table 1") then then_lines (read_base name cut.1) (read_one image) else faulty rule.Form ls)

  -- the lines behind the head, or the first faulty line of it
  abbrev pub read_head : Lines → Result Lines Faulty
  read_head ls = read_head_at ls (first_line ls)
