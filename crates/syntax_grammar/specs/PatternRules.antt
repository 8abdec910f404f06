-- The parser of patterns, rule by rule.
use Rattle.std.specs.Prelude.{if◌then◌else◌, ℕ, zero, suc, Bool, true, false, Option, Some}
use Rattle.syntax_lexer.specs.declared.token.Kind.{Kind}
use Rattle.syntax_lexer.specs.declared.token.Kind.TheVariants as k
use Rattle.syntax_lexer.specs.declared.token.Keyword.{Keyword}
use Rattle.syntax_lexer.specs.declared.token.Mark.TheVariants as m
use Rattle.syntax_lexer.specs.declared.token.Keyword.TheVariants as w
use Rattle.syntax_grammar.specs.declared.tree.Name.{Name}
use Rattle.syntax_grammar.specs.declared.rules.RuleFault.TheVariants.{Syntax, TooDeep}
use Rattle.syntax_grammar.specs.Tree.{Pattern}
use Rattle.syntax_grammar.specs.Tree as t
use Rattle.syntax_grammar.specs.Parsing.{Parser, ◌>>=◌, ◌>>◌, pure, stop, by_next, expect, expect_word, literal, lower, upper, eat, enter, leave, begins_pattern}
use Rattle.syntax_grammar.specs.Lists.{separated}
use Rattle.syntax_grammar.specs.Nodes.{pattern_make_of}

unfoldable pub pattern_any : Parser Pattern
pattern_any = do
  span ← expect m.Underscore
  pure (t.any span)

unfoldable pub pattern_variable : Parser Pattern
pattern_variable = do
  name ← lower
  pure (t.bind name)

unfoldable pub pattern_word : Parser Pattern
pattern_word = do
  found ← literal
  pure (t.Pattern.word found.v found.w found.span)

unfoldable pub pattern_flag : Keyword → Bool → Parser Pattern
pattern_flag word v = do
  span ← expect_word word
  pure (t.Pattern.flag v span)

module _ (pattern : Parser Pattern) where
  -- the parts of a constructor, after the opening mark
  unfoldable pub pattern_parts : Name → Parser Pattern
  pattern_parts name = do
    parts ← separated pattern m.Comma
    end ← expect m.RParen
    pure (pattern_make_of name parts end)

  unfoldable pub pattern_make : Parser Pattern
  pattern_make = do
    name ← upper
    has_parts ← eat m.LParen
    if has_parts then pattern_parts name else pure (t.Pattern.make name t.Patterns.none name.span)

  abbrev pub pattern_body_by : Option Kind → Parser Pattern
  pattern_body_by (Some (k.Mark m.Underscore)) = pattern_any
  pattern_body_by (Some (k.Lower text)) = pattern_variable
  pattern_body_by (Some (k.Number v)) = pattern_word
  pattern_body_by (Some (k.Word w.KwTrue)) = pattern_flag w.KwTrue true
  pattern_body_by (Some (k.Word w.KwFalse)) = pattern_flag w.KwFalse false
  pattern_body_by (Some (k.Upper text)) = pattern_make
  pattern_body_by _ = stop Syntax

  unfoldable pub pattern_body : Parser Pattern
  pattern_body = by_next pattern_body_by

-- with patterns nested no deeper than the number
unfoldable pub pattern : ℕ → Parser Pattern
pattern zero = enter begins_pattern >> stop TooDeep
pattern (suc depth) = do
  outer ← enter begins_pattern
  found ← pattern_body (pattern depth)
  leave outer
  pure found
