-- Lexemes, and what each of them spells.
use Rattle.std.specs.Prelude.{◌≡◌, ℕ, ◌+◌, ◌*◌, ◌^◌, ◌<◌, ◌≤◌, Bool, false, List, [], ◌∷◌, ◌++◌, length, IsTrue, IsFalse, nat_lt, codes}
use Rattle.std.specs.Char.{is_ascii_digit, is_ascii_uppercase, digit_value}
use Rattle.syntax_lexer.specs.declared.token.Keyword.{Keyword}
use Rattle.syntax_lexer.specs.declared.token.Keyword.TheVariants.{KwType, KwMap, KwDefault, KwFun, KwLet, KwIn, KwIf, KwThen, KwElse, KwMatch, KwWith, KwTrue, KwFalse, KwDecode, KwWhen, KwShl, KwShru, KwShrs, KwRotl, KwDivu, KwDivs, KwRemu, KwRems, KwMulhu, KwMulhs, KwLtu, KwLeu, KwLts, KwLes, KwZext, KwSext, KwTrunc}
use Rattle.syntax_lexer.specs.declared.token.Mark.{Mark}
use Rattle.syntax_lexer.specs.declared.token.Mark.TheVariants.{LParen, RParen, LBrace, RBrace, LBracket, RBracket, Comma, Semi, Colon, Assign, Equals, EqEq, NotEq, FatArrow, Arrow, Bar, BarBar, AndAnd, And, Caret, Plus, Minus, Star, Bang, Tilde, Less, Underscore}
use Rattle.syntax_lexer.specs.declared.token.Kind.{Kind}
use Rattle.syntax_lexer.specs.declared.token.Kind.TheVariants as kind
use Rattle.syntax_lexer.specs.Bytes.{begins_name, is_word_byte, IsRun}

-- the text of each mark
abbrev pub mark_text : Mark → List ℕ
mark_text LParen = codes "("
mark_text RParen = codes ")"
mark_text LBrace = codes "{"
mark_text RBrace = codes "}"
mark_text LBracket = codes "["
mark_text RBracket = codes "]"
mark_text Comma = codes ","
mark_text Semi = codes ";"
mark_text Colon = codes ":"
mark_text Assign = codes ":="
mark_text Equals = codes "="
mark_text EqEq = codes "=="
mark_text NotEq = codes "!="
mark_text FatArrow = codes "=>"
mark_text Arrow = codes "->"
mark_text Bar = codes "|"
mark_text BarBar = codes "||"
mark_text AndAnd = codes "&&"
mark_text And = codes "&"
mark_text Caret = codes "^"
mark_text Plus = codes "+"
mark_text Minus = codes "-"
mark_text Star = codes "*"
mark_text Bang = codes "!"
mark_text Tilde = codes "~"
mark_text Less = codes "<"
mark_text Underscore = codes "_"

-- the text of each keyword
abbrev pub keyword_text : Keyword → List ℕ
keyword_text KwType = codes "type"
keyword_text KwMap = codes "map"
keyword_text KwDefault = codes "default"
keyword_text KwFun = codes "fun"
keyword_text KwLet = codes "let"
keyword_text KwIn = codes "in"
keyword_text KwIf = codes "if"
keyword_text KwThen = codes "then"
keyword_text KwElse = codes "else"
keyword_text KwMatch = codes "match"
keyword_text KwWith = codes "with"
keyword_text KwTrue = codes "true"
keyword_text KwFalse = codes "false"
keyword_text KwDecode = codes "decode"
keyword_text KwWhen = codes "when"
keyword_text KwShl = codes "shl"
keyword_text KwShru = codes "shru"
keyword_text KwShrs = codes "shrs"
keyword_text KwRotl = codes "rotl"
keyword_text KwDivu = codes "divu"
keyword_text KwDivs = codes "divs"
keyword_text KwRemu = codes "remu"
keyword_text KwRems = codes "rems"
keyword_text KwMulhu = codes "mulhu"
keyword_text KwMulhs = codes "mulhs"
keyword_text KwLtu = codes "ltu"
keyword_text KwLeu = codes "leu"
keyword_text KwLts = codes "lts"
keyword_text KwLes = codes "les"
keyword_text KwZext = codes "zext"
keyword_text KwSext = codes "sext"
keyword_text KwTrunc = codes "trunc"

-- a run of letters, digits and `_` that begins with a letter or `_`
abbrev pub IsNameRun : List ℕ → Type 0
IsNameRun text = IsRun begins_name is_word_byte text

-- a run of letters, digits and `_` that begins with a digit
abbrev pub IsNumberRun : List ℕ → Type 0
IsNumberRun text = IsRun is_ascii_digit is_word_byte text

-- What is cut off as one piece: a run that begins as a name or as a number does, be it one or not, or a mark.
pub data IsLexeme : List ℕ → Type 0 where
  name : {text : List ℕ} → IsNameRun text → IsLexeme text
  number : {text : List ℕ} → IsNumberRun text → IsLexeme text
  mark : (m : Mark) → IsLexeme (mark_text m)

-- `text` is the longest lexeme that begins at its place, and `rest` follows it
pub record IsLongest (text rest : List ℕ) : Type 0 where
  pub lexeme : IsLexeme text
  pub longest : (other after : List ℕ) → text ++ rest ≡ other ++ after → IsLexeme other → length other ≤ length text

-- whether the byte is a digit of the base, letters of both cases being digits from ten on
abbrev pub is_digit_of : ℕ → ℕ → Bool
is_digit_of base b = nat_lt (digit_value b) base

-- the number that digits write in a base behind the number `high`
abbrev pub value_from : ℕ → ℕ → List ℕ → ℕ
value_from base high [] = high
value_from base high (b ∷ bytes) = value_from base (high * base + digit_value b) bytes

-- one or more digits of the base, which write this number, which is below 2^64
pub record IsNumeral (base : ℕ) (digits : List ℕ) (n : ℕ) : Type 0 where
  pub run : IsRun (is_digit_of base) (is_digit_of base) digits
  pub value : value_from base 0 digits ≡ n
  pub small : n < 2 ^ 64

-- decimal digits, or hexadecimal digits behind `0x`
pub data IsNumber : List ℕ → ℕ → Type 0 where
  decimal : {digits : List ℕ} {n : ℕ} → IsNumeral 10 digits n → IsNumber digits n
  hexadecimal : {digits : List ℕ} {n : ℕ} → IsNumeral 16 digits n → IsNumber (codes "0x" ++ digits) n

-- the text of a mark or of a keyword
pub data IsReserved : List ℕ → Type 0 where
  mark : (m : Mark) → IsReserved (mark_text m)
  keyword : (w : Keyword) → IsReserved (keyword_text w)

-- how many bytes a name has at most
abbrev pub longest_name : ℕ
longest_name = 64

-- a name that is not too long, and is neither `_` alone nor a keyword
pub record IsName (text : List ℕ) : Type 0 where
  pub run : IsNameRun text
  pub short : length text ≤ longest_name
  pub free : ¬ IsReserved text

-- whether the text begins with a capital letter
abbrev pub is_capitalized : List ℕ → Bool
is_capitalized [] = false
is_capitalized (b ∷ bytes) = is_ascii_uppercase b

-- the text is a token of this kind: a mark, a keyword, a name by the case of its first letter, or a number with its value
pub data Spells : List ℕ → Kind → Type 0 where
  mark : (m : Mark) → Spells (mark_text m) (kind.Mark m)
  keyword : (w : Keyword) → Spells (keyword_text w) (kind.Word w)
  upper : {text : List ℕ} → IsName text → IsTrue (is_capitalized text) → Spells text (kind.Upper text)
  lower : {text : List ℕ} → IsName text → IsFalse (is_capitalized text) → Spells text (kind.Lower text)
  number : {text : List ℕ} {n : ℕ} → IsNumber text n → Spells text (kind.Number n)
