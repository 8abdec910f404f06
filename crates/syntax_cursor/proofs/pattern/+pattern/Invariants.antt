use Rattle.std.proofs.Common.{◌+◌, ◌*◌, ◌≡◌, ◌-◌, map}
use Rattle.syntax_lexer.specs.declared.token.Mark.TheVariants as m
use Rattle.syntax_grammar.specs.View.{pattern as pattern_view}
use Rattle.syntax_grammar.specs.Lists.{separated, separated_from}
use Rattle.syntax_grammar.specs.PatternRules.{pattern}
use Rattle.syntax_cursor.proofs.pattern.+pattern.Given as goal

abbrev pub decreases-pattern : goal.decreases-pattern
decreases-pattern l = 10 * l.depth

abbrev pub decreases-patterns : goal.decreases-patterns
decreases-patterns l = 10 * l.depth + 1

abbrev pub decreases-pattern_parts : goal.decreases-pattern_parts
decreases-pattern_parts l = 10 * l.depth + 2

abbrev pub decreases-pattern_make : goal.decreases-pattern_make
decreases-pattern_make l = 10 * l.depth + 3

abbrev pub decreases-pattern_body : goal.decreases-pattern_body
decreases-pattern_body l = 10 * l.depth + 4

abbrev pub invariant-patterns-loop-turn : goal.invariant-patterns-loop-turn
invariant-patterns-loop-turn l = separated (pattern l.depth) m.Comma l.fn.tokens ≡ separated_from (pattern l.depth) m.Comma (l._turn-end - l._turn) (map pattern_view l.found.items) l.tokens
