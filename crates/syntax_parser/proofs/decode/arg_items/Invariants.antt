use Rattle.std.proofs.Common.{◌≡◌, ◌-◌}
use Rattle.syntax_lexer.specs.declared.token.Mark.TheVariants as m
use Rattle.syntax_grammar.specs.ItemRules.{arg}
use Rattle.syntax_grammar.specs.Lists.{separated, separated_from}
use Rattle.syntax_parser.proofs.decode.arg_items.Given as goal

abbrev pub invariant-loop-turn : goal.invariant-loop-turn
invariant-loop-turn l = separated arg m.Comma l.fn.tokens ≡ separated_from arg m.Comma (l._turn-end - l._turn) l.found.items l.tokens
