-- The head of a table.
use Rattle.std.specs.Prelude.{ℕ, ◌*◌, List, [], ◌∷◌, ◌++◌, codes}
use Rattle.std.specs.Fmt.{decimal}
use Rattle.code_image.specs.declared.order.Order.{Order}
use Rattle.code_image.specs.declared.order.Order.TheVariants.{Big, Little}
use Rattle.code_image.specs.Image.{Image, Segment, words_of}
use Rattle.text_words.specs.Words.{number}

-- the order of the bytes of a word
abbrev pub order_line : Order → List ℕ
order_line Big = codes "order big\n"
order_line Little = codes "order little\n"

-- the base of a segment of so many words, and its length in bytes: four a word
abbrev pub code_line : ℕ → ℕ → List ℕ
code_line base words = codes "code " ++ (number 32 base ++ (codes " " ++ (decimal (4 * words) ++ codes "\n")))

abbrev pub code_lines : List Segment → List ℕ
code_lines [] = []
code_lines (s ∷ segments) = code_line s.base (words_of s) ++ code_lines segments

-- the format and the base
unfoldable pub first_lines : List ℕ → List ℕ
first_lines base = codes "tsl-table 2\nbase " ++ (base ++ codes "\n")

-- these, the order and the code
abbrev pub head : List ℕ → Image → List ℕ
head base image = first_lines base ++ (order_line image.order ++ code_lines image.segments)
