-- The views of terms that hold no box.
use Rattle.std.proofs.Common.{◌≡◌, map, Vec, Global, sym, ap, ◌∙◌}
use Rattle.syntax_grammar.specs.declared.tree.Name.{Name}
use Rattle.syntax_grammar.specs.declared.tree.Span.{Span}
use Rattle.syntax_grammar.specs.Tree as t
use Rattle.syntax_grammar.specs.View.{term, term_step, arm_step}
use Rattle.syntax_grammar.specs.declared.tree.Expr.{Expr, fold-roll-Expr}
use Rattle.syntax_grammar.specs.declared.tree.Expr.TheOpen.{Expr-F}
use Rattle.syntax_grammar.specs.declared.tree.Expr.TheVariants.{Call, Make, Var, rolls-Call, rolls-Make, rolls-Var}

pub variable_seen : (name : Name) → term (Var name) ≡ t.var name
variable_seen name = ap term (sym (rolls-Var name)) ∙ fold-roll-Expr t.Term t.Arm term_step arm_step (Expr-F.Var name)

pub call_seen : (name : Name) (args : Vec Expr Global) (span : Span) → term (Call name args span) ≡ t.call name (t.terms (map term args.items)) span
call_seen name args span = ap term (sym (rolls-Call name args span)) ∙ fold-roll-Expr t.Term t.Arm term_step arm_step (Expr-F.Call name args span)

pub make_seen : (name : Name) (args : Vec Expr Global) (span : Span) → term (Make name args span) ≡ t.Term.make name (t.terms (map term args.items)) span
make_seen name args span = ap term (sym (rolls-Make name args span)) ∙ fold-roll-Expr t.Term t.Arm term_step arm_step (Expr-F.Make name args span)
