use Rattle.std.proofs.Common.{◌≡◌, ◌-◌, map}
use Rattle.syntax_lexer.specs.declared.token.Mark.TheVariants as m
use Rattle.syntax_grammar.specs.View.{row as row_view}
use Rattle.syntax_grammar.specs.ItemRules.{row}
use Rattle.syntax_grammar.specs.Lists.{until, until_from}
use Rattle.syntax_parser.proofs.decode.rows.Given as goal

abbrev pub invariant-loop-turn : goal.invariant-loop-turn
invariant-loop-turn l = until row m.RBrace l.fn.tokens ≡ until_from row m.RBrace (l._turn-end - l._turn) (map row_view l.found.items) l.tokens
