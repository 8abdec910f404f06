use Rattle.std.proofs.Common.{◌≡◌, ◌-◌, map}
use Rattle.syntax_lexer.specs.declared.token.Mark.TheVariants as m
use Rattle.syntax_grammar.specs.View.{constructor as constructor_view}
use Rattle.syntax_grammar.specs.ItemRules.{constructor}
use Rattle.syntax_grammar.specs.Lists.{separated, separated_from}
use Rattle.syntax_parser.proofs.items.constructors.Given as goal

abbrev pub invariant-loop-turn : goal.invariant-loop-turn
invariant-loop-turn l = separated constructor m.Bar l.fn.tokens ≡ separated_from constructor m.Bar (l._turn-end - l._turn) (map constructor_view l.found.items) l.tokens
