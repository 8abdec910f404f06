-- Operators: how tightly they bind, and what they are in a tree.
use Rattle.std.specs.Prelude.{◌==◌, ℕ, Bool, not, Option, Some}
use Rattle.syntax_lexer.specs.declared.token.Kind.{Kind}
use Rattle.syntax_lexer.specs.declared.token.Kind.TheVariants as k
use Rattle.syntax_lexer.specs.declared.token.Mark.TheVariants as m
use Rattle.syntax_grammar.specs.declared.tree.BinOp.{BinOp}
use Rattle.syntax_grammar.specs.declared.tree.BinOp.TheVariants as b
use Rattle.syntax_grammar.specs.declared.tree.PreOp.{PreOp}
use Rattle.syntax_grammar.specs.declared.tree.PreOp.TheVariants as p

-- how tightly a binary operator binds, from 1, the tightest; 0 is none
abbrev pub binds : Option Kind → ℕ
binds (Some (k.Mark m.Star)) = 1
binds (Some (k.Mark m.Plus)) = 2
binds (Some (k.Mark m.Minus)) = 2
binds (Some (k.Mark m.And)) = 3
binds (Some (k.Mark m.Caret)) = 4
binds (Some (k.Mark m.Bar)) = 5
binds (Some (k.Mark m.EqEq)) = 6
binds (Some (k.Mark m.NotEq)) = 6
binds (Some (k.Mark m.AndAnd)) = 7
binds (Some (k.Mark m.BarBar)) = 8
binds _ = 0

abbrev pub loosest : ℕ
loosest = 8

-- whether operators of a precedence may stand in a row, grouped to the left: all but the equations
abbrev pub groups : ℕ → Bool
groups prec = not (prec == 6)

abbrev pub operator : Option Kind → BinOp
operator (Some (k.Mark m.Star)) = b.Mul
operator (Some (k.Mark m.Minus)) = b.Sub
operator (Some (k.Mark m.And)) = b.BitAnd
operator (Some (k.Mark m.Caret)) = b.BitXor
operator (Some (k.Mark m.Bar)) = b.BitOr
operator (Some (k.Mark m.EqEq)) = b.Eq
operator (Some (k.Mark m.NotEq)) = b.Ne
operator (Some (k.Mark m.AndAnd)) = b.AndAlso
operator (Some (k.Mark m.BarBar)) = b.OrElse
operator _ = b.Add

abbrev pub prefix_operator : Option Kind → PreOp
prefix_operator (Some (k.Mark m.Tilde)) = p.Tilde
prefix_operator (Some (k.Mark m.Minus)) = p.Minus
prefix_operator _ = p.Bang
