-- Tokens: where they begin, which stand for operations, casts and prefix operators, and how deep they may stand.
use Rattle.std.specs.Prelude.{ℕ, Bool, true, false, List, [], ◌∷◌, Option, Some}
use Rattle.syntax_lexer.specs.declared.token.Token.{Token}
use Rattle.syntax_lexer.specs.declared.token.Keyword.{Keyword}
use Rattle.syntax_lexer.specs.declared.token.Keyword.TheVariants as w
use Rattle.syntax_lexer.specs.declared.token.Mark.TheVariants as m
use Rattle.syntax_lexer.specs.declared.token.Kind.{Kind}
use Rattle.syntax_lexer.specs.declared.token.Kind.TheVariants as k

-- where the first token begins, or the end
abbrev pub place : ℕ → List Token → ℕ
place end [] = end
place end (t ∷ ts) = t.from

-- the operations that are named by a keyword
abbrev pub is_operation : Keyword → Bool
is_operation w.KwShl = true
is_operation w.KwShru = true
is_operation w.KwShrs = true
is_operation w.KwRotl = true
is_operation w.KwDivu = true
is_operation w.KwDivs = true
is_operation w.KwRemu = true
is_operation w.KwRems = true
is_operation w.KwMulhu = true
is_operation w.KwMulhs = true
is_operation w.KwLtu = true
is_operation w.KwLeu = true
is_operation w.KwLts = true
is_operation w.KwLes = true
is_operation _ = false

abbrev pub is_cast : Keyword → Bool
is_cast w.KwZext = true
is_cast w.KwSext = true
is_cast w.KwTrunc = true
is_cast _ = false

abbrev pub is_prefix : Option Kind → Bool
is_prefix (Some (k.Mark m.Bang)) = true
is_prefix (Some (k.Mark m.Tilde)) = true
is_prefix (Some (k.Mark m.Minus)) = true
is_prefix _ = false

abbrev pub max_level : ℕ
max_level = 256
