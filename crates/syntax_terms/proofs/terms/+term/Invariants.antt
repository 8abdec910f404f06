use Rattle.std.proofs.Common.{◌+◌, ◌*◌, ◌≡◌, ◌-◌, map}
use Rattle.syntax_lexer.specs.declared.token.Mark.TheVariants as m
use Rattle.syntax_grammar.specs.View.{term as term_view, arm as arm_view}
use Rattle.syntax_grammar.specs.Lists.{separated, separated_from, many, until_from}
use Rattle.syntax_grammar.specs.PatternRules.{pattern}
use Rattle.syntax_grammar.specs.TermRules.{at_precedence, chain_from, term, arm, post, indexes_from, max_turns}
use Rattle.syntax_terms.proofs.terms.+term.Given as goal

abbrev pub decreases-term : goal.decreases-term
decreases-term l = 1000 * l.depth

abbrev pub decreases-paren : goal.decreases-paren
decreases-paren l = 1000 * l.depth + 1

abbrev pub decreases-terms : goal.decreases-terms
decreases-terms l = 1000 * l.depth + 1

abbrev pub decreases-arguments : goal.decreases-arguments
decreases-arguments l = 1000 * l.depth + 2

abbrev pub decreases-call : goal.decreases-call
decreases-call l = 1000 * l.depth + 3

abbrev pub decreases-named : goal.decreases-named
decreases-named l = 1000 * l.depth + 4

abbrev pub decreases-parts : goal.decreases-parts
decreases-parts l = 1000 * l.depth + 3

abbrev pub decreases-made : goal.decreases-made
decreases-made l = 1000 * l.depth + 4

abbrev pub decreases-operation : goal.decreases-operation
decreases-operation l = 1000 * l.depth + 1

abbrev pub decreases-cast : goal.decreases-cast
decreases-cast l = 1000 * l.depth + 1

abbrev pub decreases-arm : goal.decreases-arm
decreases-arm l = 1000 * l.depth + 1

abbrev pub decreases-arms : goal.decreases-arms
decreases-arms l = 1000 * l.depth + 2

abbrev pub decreases-match_on : goal.decreases-match_on
decreases-match_on l = 1000 * l.depth + 3

abbrev pub decreases-atom_by_word : goal.decreases-atom_by_word
decreases-atom_by_word l = 1000 * l.depth + 5

abbrev pub decreases-atom : goal.decreases-atom
decreases-atom l = 1000 * l.depth + 6

abbrev pub decreases-index : goal.decreases-index
decreases-index l = 1000 * l.depth + 1

abbrev pub decreases-post : goal.decreases-post
decreases-post l = 1000 * l.depth + 7

abbrev pub decreases-let_in : goal.decreases-let_in
decreases-let_in l = 1000 * l.depth + 1

abbrev pub decreases-if_else : goal.decreases-if_else
decreases-if_else l = 1000 * l.depth + 1

abbrev pub decreases-unary : goal.decreases-unary
decreases-unary l = 1000 * l.depth + 8 + l.turns

abbrev pub decreases-at_precedence : goal.decreases-at_precedence
decreases-at_precedence l = 1000 * l.depth + 300 + l.precedence

abbrev pub decreases-body : goal.decreases-body
decreases-body l = 1000 * l.depth + 999

abbrev pub invariant-at_precedence-loop-turn : goal.invariant-at_precedence-loop-turn
invariant-at_precedence-loop-turn l = at_precedence (pattern l.depth) (term l.depth) l.precedence l.fn.tokens
    ≡ chain_from (at_precedence (pattern l.depth) (term l.depth) (l.precedence - 1)) l.precedence (max_turns - l._turn) (term_view l.left) l.tokens

abbrev pub invariant-post-loop-turn : goal.invariant-post-loop-turn
invariant-post-loop-turn l = post (pattern l.depth) (term l.depth) l.fn.tokens ≡ indexes_from (term l.depth) (max_turns - l._turn) (term_view l.x) l.tokens

abbrev pub invariant-terms-loop-turn : goal.invariant-terms-loop-turn
invariant-terms-loop-turn l = separated (term l.depth) m.Comma l.fn.tokens ≡ separated_from (term l.depth) m.Comma (l._turn-end - l._turn) (map term_view l.found.items) l.tokens

abbrev pub invariant-arms-loop-turn : goal.invariant-arms-loop-turn
invariant-arms-loop-turn l = many (arm (pattern l.depth) (term l.depth)) m.RBrace l.fn.tokens
    ≡ until_from (arm (pattern l.depth) (term l.depth)) m.RBrace (l._turn-end - l._turn) (map arm_view l.found.items) l.tokens
