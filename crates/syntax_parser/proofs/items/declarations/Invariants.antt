use Rattle.std.proofs.Common.{◌≡◌, ◌-◌, map}
use Rattle.syntax_grammar.specs.View.{item as item_view}
use Rattle.syntax_grammar.specs.ItemRules.{items, items_from}
use Rattle.syntax_parser.proofs.items.declarations.Given as goal

abbrev pub invariant-loop-turn : goal.invariant-loop-turn
invariant-loop-turn l = items l.fn.tokens ≡ items_from (l._turn-end - l._turn) (map item_view l.found.items) l.tokens
