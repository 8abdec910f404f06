-- The parser of terms, rule by rule.
use Rattle.std.specs.Prelude.{if◌then◌else◌, ◌==◌, ℕ, zero, suc, Bool, true, false, List, [], Option, Some}
use Rattle.syntax_lexer.specs.declared.token.Kind.{Kind}
use Rattle.syntax_lexer.specs.declared.token.Kind.TheVariants as k
use Rattle.syntax_lexer.specs.declared.token.Keyword.{Keyword}
use Rattle.syntax_lexer.specs.declared.token.Mark.TheVariants as m
use Rattle.syntax_lexer.specs.declared.token.Keyword.TheVariants as w
use Rattle.syntax_grammar.specs.declared.tree.Name.{Name}
use Rattle.syntax_grammar.specs.declared.rules.RuleFault.TheVariants.{Syntax, TooDeep}
use Rattle.syntax_grammar.specs.Tree.{Term as Expr, Pattern, Arm}
use Rattle.syntax_grammar.specs.Tree as e
use Rattle.syntax_grammar.specs.Parsing.{Parser, ◌>>=◌, ◌>>◌, pure, stop, by_next, skip, expect, expect_word, literal, number, lower, upper, eat, is_mark, rise, enter, leave, begins_term}
use Rattle.syntax_grammar.specs.Lists.{separated, many}
use Rattle.syntax_grammar.specs.PatternRules.{pattern}
use Rattle.syntax_grammar.specs.Nodes.{let_of, if_of, binary_of, prefix_of, get_of, put_of, call_of, make_of, operation_of, cast_of, arm_of, match_of, paren_of}
use Rattle.syntax_grammar.specs.Tokens.{is_prefix, is_operation, is_cast}
use Rattle.syntax_grammar.specs.Operators.{binds, loosest, groups, operator, prefix_operator}

-- ---- operators

-- a turn for each level, and one turn more
abbrev pub max_turns : ℕ
max_turns = 257

-- more operators of one precedence: the number bounds the turns, and each turn takes a level
unfoldable pub chain_from : Parser Expr → ℕ → ℕ → Expr → Parser Expr
chain_from operand prec zero left = stop TooDeep
chain_from operand prec (suc n) left = by_next (λ next. if binds next == prec then (do
  rise
  skip
  right ← operand
  if groups prec then chain_from operand prec n (binary_of (operator next) left right) else pure (binary_of (operator next) left right)) else pure left)

-- ---- atoms of one kind

unfoldable pub word : Parser Expr
word = do
  found ← literal
  pure (e.Term.word found.v found.w found.span)

unfoldable pub flag : Keyword → Bool → Parser Expr
flag word v = do
  span ← expect_word word
  pure (e.Term.flag v span)

module _ (term : Parser Expr) where
  unfoldable pub paren : Parser Expr
  paren = do
    start ← expect m.LParen
    x ← term
    end ← expect m.RParen
    pure (paren_of start x end)

  -- the arguments of a call, after its opening mark
  unfoldable pub arguments : Parser (List Expr)
  arguments = by_next (λ next. if is_mark m.RParen next then pure [] else separated term m.Comma)

  unfoldable pub call : Name → Parser Expr
  call name = do
    args ← arguments
    end ← expect m.RParen
    pure (call_of name args end)

  unfoldable pub named : Parser Expr
  named = do
    name ← lower
    is_call ← eat m.LParen
    if is_call then call name else pure (e.var name)

  -- the parts of a constructor, after the opening mark
  unfoldable pub parts : Name → Parser Expr
  parts name = do
    args ← separated term m.Comma
    end ← expect m.RParen
    pure (make_of name args end)

  unfoldable pub made : Parser Expr
  made = do
    name ← upper
    has_parts ← eat m.LParen
    if has_parts then parts name else pure (e.Term.make name e.Terms.none name.span)

  unfoldable pub operation : Keyword → Parser Expr
  operation op = do
    start ← expect_word op
    expect m.LParen
    x ← term
    expect m.Comma
    y ← term
    end ← expect m.RParen
    pure (operation_of op start x y end)

  unfoldable pub cast : Keyword → Parser Expr
  cast op = do
    start ← expect_word op
    expect m.LParen
    x ← term
    expect m.Comma
    to ← number
    end ← expect m.RParen
    pure (cast_of op start x to end)

  -- a map read or changed at a key, after the mark `[`
  unfoldable pub index : Expr → Parser Expr
  index x = do
    key ← term
    changes ← eat m.Assign
    if changes then (do
      v ← term
      end ← expect m.RBracket
      pure (put_of x key v end)) else (do
        end ← expect m.RBracket
        pure (get_of x key end))

  -- more keys: the number bounds the turns, and each turn takes a level
  unfoldable pub indexes_from : ℕ → Expr → Parser Expr
  indexes_from zero x = stop TooDeep
  indexes_from (suc n) x = by_next (λ next. if is_mark m.LBracket next then (do
    rise
    skip
    y ← index x
    indexes_from n y) else pure x)

  unfoldable pub let_in : Parser Expr
  let_in = do
    start ← expect_word w.KwLet
    name ← lower
    expect m.Equals
    x ← term
    expect_word w.KwIn
    inner ← term
    pure (let_of start name x inner)

  unfoldable pub if_else : Parser Expr
  if_else = do
    start ← expect_word w.KwIf
    c ← term
    expect_word w.KwThen
    x ← term
    expect_word w.KwElse
    y ← term
    pure (if_of start c x y)

module _ (pattern : Parser Pattern) (term : Parser Expr) where
  unfoldable pub arm : Parser Arm
  arm = do
    pat ← pattern
    expect m.FatArrow
    body ← term
    end ← expect m.Semi
    pure (arm_of pat body end)

  unfoldable pub match_on : Parser Expr
  match_on = do
    start ← expect_word w.KwMatch
    x ← term
    expect_word w.KwWith
    expect m.LBrace
    arms ← many arm m.RBrace
    end ← expect m.RBrace
    pure (match_of start x arms end)

  abbrev pub atom_by_word : Keyword → Parser Expr
  atom_by_word w.KwTrue = flag w.KwTrue true
  atom_by_word w.KwFalse = flag w.KwFalse false
  atom_by_word w.KwMatch = match_on
  atom_by_word word = if is_operation word then operation term word else (if is_cast word then cast term word else stop Syntax)

  abbrev pub atom_by : Option Kind → Parser Expr
  atom_by (Some (k.Number v)) = word
  atom_by (Some (k.Lower text)) = named term
  atom_by (Some (k.Upper text)) = made term
  atom_by (Some (k.Mark m.LParen)) = paren term
  atom_by (Some (k.Word w)) = atom_by_word w
  atom_by _ = stop Syntax

  unfoldable pub atom : Parser Expr
  atom = by_next atom_by

  unfoldable pub post : Parser Expr
  post = do
    first ← atom
    indexes_from term max_turns first

  -- prefix operators: the number bounds the turns, and each turn takes a level
  unfoldable pub unary_from : ℕ → Parser Expr
  unary_from zero = stop TooDeep
  unary_from (suc n) = by_next (λ next. if is_prefix next then (do
    rise
    start ← skip
    x ← unary_from n
    pure (prefix_of (prefix_operator next) start x)) else post)

  -- operators of this precedence and those that bind more tightly
  unfoldable pub at_precedence : ℕ → Parser Expr
  at_precedence zero = unary_from max_turns
  at_precedence (suc prec) = do
    first ← at_precedence prec
    chain_from (at_precedence prec) (suc prec) max_turns first

  abbrev pub body_by : Option Kind → Parser Expr
  body_by (Some (k.Word w.KwLet)) = let_in term
  body_by (Some (k.Word w.KwIf)) = if_else term
  body_by _ = at_precedence loosest

  unfoldable pub body : Parser Expr
  body = by_next body_by

-- with terms nested no deeper than the number
unfoldable pub term : ℕ → Parser Expr
term zero = enter begins_term >> stop TooDeep
term (suc depth) = do
  outer ← enter begins_term
  found ← body (pattern depth) (term depth)
  leave outer
  pure found
