use Rattle.std.proofs.Common.{◌≡◌, ◌-◌}
use Rattle.syntax_lexer.specs.declared.token.Mark.TheVariants as m
use Rattle.syntax_grammar.specs.ItemRules.{part}
use Rattle.syntax_grammar.specs.Lists.{many, until_from}
use Rattle.syntax_parser.proofs.decode.parts.Given as goal

abbrev pub invariant-loop-turn : goal.invariant-loop-turn
invariant-loop-turn l = many part m.RBracket l.fn.tokens ≡ until_from part m.RBracket (l._turn-end - l._turn) l.found.items l.tokens
