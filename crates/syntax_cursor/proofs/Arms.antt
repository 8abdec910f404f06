-- The view of a match.
use Rattle.std.proofs.Common.{◌≡◌, map, Vec, Global, sym, ap, ◌∙◌}
use Rattle.std.specs.Prelude.{Box}
use Rattle.syntax_grammar.specs.declared.tree.Span.{Span}
use Rattle.syntax_grammar.specs.Tree as t
use Rattle.syntax_grammar.specs.View.{term, arm, term_step, arm_step}
use Rattle.syntax_grammar.specs.declared.tree.Arm.{Arm}
use Rattle.syntax_grammar.specs.declared.tree.Expr.{Expr, fold-roll-Expr}
use Rattle.syntax_grammar.specs.declared.tree.Expr.TheOpen.{Expr-F}
use Rattle.syntax_grammar.specs.declared.tree.Expr.TheVariants.{Match, rolls-Match}

pub match_seen : (x : Box Expr Global) (arms : Vec Arm Global) (span : Span) → term (Match x arms span) ≡ t.match_on (term x.value) (t.arms (map arm arms.items)) span
match_seen x arms span = ap term (sym (rolls-Match x arms span)) ∙ fold-roll-Expr t.Term t.Arm term_step arm_step (Expr-F.Match x arms span)
