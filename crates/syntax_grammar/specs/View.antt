-- The plain tree that the tree of the code spells.
use Rattle.std.specs.Prelude.{map}
use Rattle.syntax_grammar.specs.Tree as t
use Rattle.syntax_grammar.specs.declared.tree.Pat.{Pat, fold-Pat}
use Rattle.syntax_grammar.specs.declared.tree.Pat.TheOpen.{Pat-F}
use Rattle.syntax_grammar.specs.declared.tree.Expr.{Expr, fold-Expr}
use Rattle.syntax_grammar.specs.declared.tree.Expr.TheOpen.{Expr-F, Arm-F}
use Rattle.syntax_grammar.specs.declared.tree.Arm.{Arm, fold-Arm}
use Rattle.syntax_grammar.specs.declared.tree.CaseDecl.{CaseDecl}
use Rattle.syntax_grammar.specs.declared.tree.DataDecl.{DataDecl}
use Rattle.syntax_grammar.specs.declared.tree.FunDecl.{FunDecl}
use Rattle.syntax_grammar.specs.declared.tree.RowDecl.{RowDecl}
use Rattle.syntax_grammar.specs.declared.tree.DecodeDecl.{DecodeDecl}
use Rattle.syntax_grammar.specs.declared.tree.Item.{Item}
use Rattle.syntax_grammar.specs.declared.tree.Item.TheVariants.{Data, Map, Fun, Decode}
use Rattle.syntax_grammar.specs.declared.tree.Tree.{Tree}

abbrev pub pattern_step : Pat-F t.Pattern → t.Pattern
pattern_step (Pat-F.Any span) = t.Pattern.any span
pattern_step (Pat-F.Var name) = t.bind name
pattern_step (Pat-F.Word v w span) = t.Pattern.word v w span
pattern_step (Pat-F.Flag v span) = t.Pattern.flag v span
pattern_step (Pat-F.Make name parts span) = t.Pattern.make name (t.patterns parts.items) span

abbrev pub pattern : Pat → t.Pattern
pattern = fold-Pat t.Pattern pattern_step

abbrev pub term_step : Expr-F t.Term t.Arm → t.Term
term_step (Expr-F.Let name x then_ span) = t.let_in name x.value then_.value span
term_step (Expr-F.If c x y span) = t.if_else c.value x.value y.value span
term_step (Expr-F.Binary op x y span) = t.binary op x.value y.value span
term_step (Expr-F.Prefix op x span) = t.prefix op x.value span
term_step (Expr-F.Get x key span) = t.get x.value key.value span
term_step (Expr-F.Put x key v span) = t.put x.value key.value v.value span
term_step (Expr-F.Word v w span) = t.Term.word v w span
term_step (Expr-F.Flag v span) = t.Term.flag v span
term_step (Expr-F.Var name) = t.var name
term_step (Expr-F.Call name args span) = t.call name (t.terms args.items) span
term_step (Expr-F.Make name args span) = t.Term.make name (t.terms args.items) span
term_step (Expr-F.Op op x y span) = t.operation op x.value y.value span
term_step (Expr-F.Cast op x to span) = t.cast op x.value to span
term_step (Expr-F.Match x arms span) = t.match_on x.value (t.arms arms.items) span
term_step (Expr-F.Paren x span) = t.paren x.value span

abbrev pub arm_step : Arm-F t.Term t.Arm → t.Arm
arm_step a = record { pat = pattern a.pat; body = a.body; span = a.span }

abbrev pub term : Expr → t.Term
term = fold-Expr t.Term t.Arm term_step arm_step

-- an arm of a match
abbrev pub arm : Arm → t.Arm
arm = fold-Arm t.Term t.Arm term_step arm_step

abbrev pub constructor : CaseDecl → t.Constructor
constructor c = record { name = c.name; fields = c.fields.items; span = c.span }

abbrev pub datatype : DataDecl → t.Datatype
datatype d = record { name = d.name; cases = map constructor d.cases.items; span = d.span }

abbrev pub function : FunDecl → t.Function
function f = record { name = f.name; params = f.params.items; result_type = f.result; body = term f.body; span = f.span }

abbrev pub row : RowDecl → t.Row
row r = record { parts = r.parts.items; guards = r.guards.items; case = r.case; args = r.args.items; span = r.span }

abbrev pub section_ : DecodeDecl → t.DecodeSection
section_ d = record { rows = map row d.rows.items; span = d.span }

abbrev pub item : Item → t.Item
item (Data d) = t.datatype (datatype d)
item (Map m) = t.map_type m
item (Fun f) = t.function (function f)
item (Decode d) = t.decode (section_ d)

abbrev pub tree : Tree → t.Tree
tree x = record { items = map item x.items.items; end = x.end }
