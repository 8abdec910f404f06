-- The parser of declarations, rule by rule.
use Rattle.std.specs.Prelude.{if◌then◌else◌, ℕ, zero, suc, List, [], ◌∷◌, ◌++◌, length, Option, Some, None}
use Rattle.syntax_lexer.specs.declared.token.Kind.{Kind}
use Rattle.syntax_lexer.specs.declared.token.Kind.TheVariants as k
use Rattle.syntax_lexer.specs.declared.token.Mark.TheVariants as m
use Rattle.syntax_lexer.specs.declared.token.Keyword.TheVariants as w
use Rattle.syntax_grammar.specs.declared.tree.Name.{Name}
use Rattle.syntax_grammar.specs.declared.tree.FieldDecl.{FieldDecl}
use Rattle.syntax_grammar.specs.declared.tree.MapDecl.{MapDecl}
use Rattle.syntax_grammar.specs.declared.tree.PartDecl.{PartDecl}
use Rattle.syntax_grammar.specs.declared.tree.PartDecl.TheVariants as part_variants
use Rattle.syntax_grammar.specs.declared.tree.GuardDecl.{GuardDecl}
use Rattle.syntax_grammar.specs.declared.tree.GuardOp.{GuardOp}
use Rattle.syntax_grammar.specs.declared.tree.GuardOp.TheVariants as op_variants
use Rattle.syntax_grammar.specs.declared.tree.GuardArg.{GuardArg}
use Rattle.syntax_grammar.specs.declared.tree.GuardArg.TheVariants as other_variants
use Rattle.syntax_grammar.specs.declared.tree.ArgDecl.{ArgDecl}
use Rattle.syntax_grammar.specs.declared.tree.ArgDecl.TheVariants as arg_variants
use Rattle.syntax_grammar.specs.declared.rules.RuleFault.TheVariants.{Syntax}
use Rattle.syntax_grammar.specs.Tree.{Term as Expr, Constructor, Datatype, Row, DecodeSection, Item}
use Rattle.syntax_grammar.specs.Tree as e
use Rattle.syntax_grammar.specs.Parsing.{Parser, ◌>>=◌, ◌>>◌, pure, stop, by_next, skip, expect, expect_word, literal, number, lower, upper, eat, is_mark, is_word}
use Rattle.syntax_grammar.specs.Lists.{separated, until, many}
use Rattle.syntax_grammar.specs.TermRules.{term}
use Rattle.syntax_grammar.specs.Nodes.{field_of, case_of, datatype_of, map_of, fun_of, part_of, guard_of, row_of, decode_of}
use Rattle.syntax_grammar.specs.Tokens.{max_level}

-- ---- fields, types and maps

unfoldable pub field : Parser FieldDecl
field = do
  name ← lower
  expect m.Colon
  ty ← upper
  pure (field_of name ty)

-- the fields of a constructor, after the opening mark
unfoldable pub case_fields : Name → Parser Constructor
case_fields name = do
  fields ← separated field m.Comma
  end ← expect m.RParen
  pure (case_of name fields end)

unfoldable pub constructor : Parser Constructor
constructor = do
  name ← upper
  has_fields ← eat m.LParen
  if has_fields then case_fields name else pure (case_of name [] name.span)

unfoldable pub datatype : Parser Datatype
datatype = do
  start ← expect_word w.KwType
  name ← upper
  expect m.Equals
  cases ← separated constructor m.Bar
  end ← expect m.Semi
  pure (datatype_of start name cases end)

unfoldable pub map_type : Parser MapDecl
map_type = do
  start ← expect_word w.KwMap
  name ← upper
  expect m.LBracket
  key ← upper
  expect m.Arrow
  value ← upper
  expect m.RBracket
  expect_word w.KwDefault
  default ← number
  end ← expect m.Semi
  pure (map_of start name key value default end)

-- ---- functions

-- the parameters of a function, after the opening mark
unfoldable pub params : Parser (List FieldDecl)
params = by_next (λ next. if is_mark m.RParen next then pure [] else separated field m.Comma)

unfoldable pub function : Parser e.Function
function = do
  start ← expect_word w.KwFun
  name ← lower
  expect m.LParen
  found ← params
  expect m.RParen
  expect m.Arrow
  ty ← upper
  expect m.Equals
  inner ← term max_level
  end ← expect m.Semi
  pure (fun_of start name found ty inner end)

-- ---- decode sections

unfoldable pub part_fixed : Parser PartDecl
part_fixed = do
  found ← literal
  pure (part_variants.Fixed found.v found.w found.span)

unfoldable pub part_named : Parser PartDecl
part_named = do
  name ← lower
  expect m.Colon
  w ← number
  pure (part_of name w)

abbrev pub part_by : Option Kind → Parser PartDecl
part_by (Some (k.Number v)) = part_fixed
part_by (Some (k.Lower text)) = part_named
part_by _ = stop Syntax

unfoldable pub part : Parser PartDecl
part = by_next part_by

abbrev pub guard_op_by : Option Kind → Parser GuardOp
guard_op_by (Some (k.Mark m.EqEq)) = (do skip; pure op_variants.Eq)
guard_op_by (Some (k.Mark m.NotEq)) = (do skip; pure op_variants.Ne)
guard_op_by (Some (k.Mark m.Less)) = (do skip; pure op_variants.Less)
guard_op_by _ = stop Syntax

unfoldable pub guard_op : Parser GuardOp
guard_op = by_next guard_op_by

abbrev pub other_by : Option Kind → Parser GuardArg
other_by (Some (k.Lower text)) = (do name ← lower; pure (other_variants.Named name))
other_by (Some (k.Number v)) = (do n ← number; pure (other_variants.Number n))
other_by _ = stop Syntax

unfoldable pub other : Parser GuardArg
other = by_next other_by

unfoldable pub guard : Parser GuardDecl
guard = do
  field ← lower
  op ← guard_op
  found ← other
  pure (guard_of field op found)

-- the guards of a row, after its parts
unfoldable pub guards : Parser (List GuardDecl)
guards = by_next (λ next. if is_word w.KwWhen next then (do
  expect_word w.KwWhen
  separated guard m.Comma) else pure [])

unfoldable pub arg_word : Parser ArgDecl
arg_word = do
  found ← literal
  pure (arg_variants.Word found.v found.w found.span)

abbrev pub arg_by : Option Kind → Parser ArgDecl
arg_by (Some (k.Lower text)) = (do name ← lower; pure (arg_variants.Named name))
arg_by (Some (k.Number v)) = arg_word
arg_by _ = stop Syntax

unfoldable pub arg : Parser ArgDecl
arg = by_next arg_by

-- the arguments of a row's constructor, after the opening mark
unfoldable pub arg_list : Parser (List ArgDecl)
arg_list = do
  found ← separated arg m.Comma
  expect m.RParen
  pure found

unfoldable pub args : Parser (List ArgDecl)
args = do
  has_args ← eat m.LParen
  if has_args then arg_list else pure []

unfoldable pub row : Parser Row
row = do
  start ← expect m.LBracket
  parts ← many part m.RBracket
  expect m.RBracket
  tests ← guards
  expect m.FatArrow
  name ← upper
  found ← args
  end ← expect m.Semi
  pure (row_of start parts tests name found end)

unfoldable pub decode : Parser DecodeSection
decode = do
  start ← expect_word w.KwDecode
  expect m.LBrace
  rows ← until row m.RBrace
  end ← expect m.RBrace
  pure (decode_of start rows end)

-- ---- a whole specification

abbrev pub item_by : Option Kind → Parser Item
item_by (Some (k.Word w.KwType)) = (do x ← datatype; pure (e.datatype x))
item_by (Some (k.Word w.KwMap)) = (do x ← map_type; pure (e.map_type x))
item_by (Some (k.Word w.KwFun)) = (do x ← function; pure (e.Item.function x))
item_by (Some (k.Word w.KwDecode)) = (do x ← decode; pure (e.decode x))
item_by _ = stop Syntax

unfoldable pub item : Parser Item
item = by_next item_by

abbrev pub items_by : (List Item → Parser (List Item)) → List Item → Option Kind → Parser (List Item)
items_by again found None = pure found
items_by again found (Some kind) = do
  x ← item
  again (found ++ x ∷ [])

unfoldable pub items_from : ℕ → List Item → Parser (List Item)
items_from zero found = pure found
items_from (suc n) found = by_next (items_by (items_from n) found)

unfoldable pub items : Parser (List Item)
items = λ at. items_from (length at.rest) [] at
