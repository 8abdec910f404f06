-- The node of each production, with its span from the first byte of the form to just after its last.
use Rattle.std.specs.Prelude.{List}
use Rattle.syntax_lexer.specs.declared.token.Keyword.{Keyword}
use Rattle.syntax_grammar.specs.declared.tree.Span.{Span}
use Rattle.syntax_grammar.specs.declared.tree.Name.{Name}
use Rattle.syntax_grammar.specs.declared.tree.Num.{Num}
use Rattle.syntax_grammar.specs.declared.tree.BinOp.{BinOp}
use Rattle.syntax_grammar.specs.declared.tree.PreOp.{PreOp}
use Rattle.syntax_grammar.specs.declared.tree.FieldDecl.{FieldDecl}
use Rattle.syntax_grammar.specs.declared.tree.MapDecl.{MapDecl}
use Rattle.syntax_grammar.specs.declared.tree.PartDecl.{PartDecl}
use Rattle.syntax_grammar.specs.declared.tree.PartDecl.TheVariants as part_variants
use Rattle.syntax_grammar.specs.declared.tree.GuardDecl.{GuardDecl}
use Rattle.syntax_grammar.specs.declared.tree.GuardOp.{GuardOp}
use Rattle.syntax_grammar.specs.declared.tree.GuardArg.{GuardArg}
use Rattle.syntax_grammar.specs.declared.tree.GuardArg.TheVariants as other_variants
use Rattle.syntax_grammar.specs.declared.tree.ArgDecl.{ArgDecl}
use Rattle.syntax_grammar.specs.declared.rules.Literal.{Literal}
use Rattle.syntax_grammar.specs.Tree.{Term as Expr, Pattern, Arm, Constructor, Datatype, Row, DecodeSection}
use Rattle.syntax_grammar.specs.Tree as e

-- from the beginning of one to the end of another
abbrev pub hull : Span → Span → Span
hull a b = record { from = a.from; to = b.to }

abbrev pub literal_of : Num → Num → Literal
literal_of v w = record { v = v; w = w; span = hull v.span w.span }

-- ---- patterns

abbrev pub pattern_span : Pattern → Span
pattern_span (e.any span) = span
pattern_span (e.bind name) = name.span
pattern_span (e.Pattern.word v w span) = span
pattern_span (e.Pattern.flag v span) = span
pattern_span (e.Pattern.make name parts span) = span

abbrev pub pattern_make_of : Name → List Pattern → Span → Pattern
pattern_make_of name parts end = e.Pattern.make name (e.patterns parts) (hull name.span end)

-- ---- terms

unfoldable pub span_of : Expr → Span
span_of (e.let_in name x body span) = span
span_of (e.if_else c x y span) = span
span_of (e.binary op x y span) = span
span_of (e.prefix op x span) = span
span_of (e.get x key span) = span
span_of (e.put x key v span) = span
span_of (e.Term.word v w span) = span
span_of (e.Term.flag v span) = span
span_of (e.var name) = name.span
span_of (e.call name args span) = span
span_of (e.Term.make name args span) = span
span_of (e.operation op x y span) = span
span_of (e.cast op x to span) = span
span_of (e.match_on x arms span) = span
span_of (e.paren x span) = span

unfoldable pub let_of : Span → Name → Expr → Expr → Expr
let_of s name x body = e.let_in name x body (hull s (span_of body))

unfoldable pub if_of : Span → Expr → Expr → Expr → Expr
if_of s c x y = e.if_else c x y (hull s (span_of y))

unfoldable pub binary_of : BinOp → Expr → Expr → Expr
binary_of op x y = e.binary op x y (hull (span_of x) (span_of y))

unfoldable pub prefix_of : PreOp → Span → Expr → Expr
prefix_of op start x = e.prefix op x (hull start (span_of x))

unfoldable pub get_of : Expr → Expr → Span → Expr
get_of x key end = e.get x key (hull (span_of x) end)

unfoldable pub put_of : Expr → Expr → Expr → Span → Expr
put_of x key v end = e.put x key v (hull (span_of x) end)

abbrev pub call_of : Name → List Expr → Span → Expr
call_of name args end = e.call name (e.terms args) (hull name.span end)

abbrev pub make_of : Name → List Expr → Span → Expr
make_of name args end = e.Term.make name (e.terms args) (hull name.span end)

abbrev pub operation_of : Keyword → Span → Expr → Expr → Span → Expr
operation_of op start x y end = e.operation op x y (hull start end)

abbrev pub cast_of : Keyword → Span → Expr → Num → Span → Expr
cast_of op start x to end = e.cast op x to (hull start end)

abbrev pub arm_of : Pattern → Expr → Span → Arm
arm_of pat body end = record { pat = pat; body = body; span = hull (pattern_span pat) end }

abbrev pub match_of : Span → Expr → List Arm → Span → Expr
match_of start x arms end = e.match_on x (e.arms arms) (hull start end)

abbrev pub paren_of : Span → Expr → Span → Expr
paren_of start x end = e.paren x (hull start end)

-- ---- declarations

abbrev pub field_of : Name → Name → FieldDecl
field_of name ty = record { name = name; ty = ty; span = hull name.span ty.span }

abbrev pub case_of : Name → List FieldDecl → Span → Constructor
case_of name fields end = record { name = name; fields = fields; span = hull name.span end }

abbrev pub datatype_of : Span → Name → List Constructor → Span → Datatype
datatype_of start name cases end = record { name = name; cases = cases; span = hull start end }

abbrev pub map_of : Span → Name → Name → Name → Num → Span → MapDecl
map_of start name key value default end = record { name = name; key = key; value = value; default = default; span = hull start end }

abbrev pub fun_of : Span → Name → List FieldDecl → Name → Expr → Span → e.Function
fun_of start name params ty body end = record { name = name; params = params; result_type = ty; body = body; span = hull start end }

abbrev pub part_of : Name → Num → PartDecl
part_of name w = part_variants.Named name w (hull name.span w.span)

abbrev pub other_span : GuardArg → Span
other_span (other_variants.Named name) = name.span
other_span (other_variants.Number n) = n.span

abbrev pub guard_of : Name → GuardOp → GuardArg → GuardDecl
guard_of field op other = record { field = field; op = op; other = other; span = hull field.span (other_span other) }

abbrev pub row_of : Span → List PartDecl → List GuardDecl → Name → List ArgDecl → Span → Row
row_of start parts guards name args end = record { parts = parts; guards = guards; case = name; args = args; span = hull start end }

abbrev pub decode_of : Span → List Row → Span → DecodeSection
decode_of start rows end = record { rows = rows; span = hull start end }
