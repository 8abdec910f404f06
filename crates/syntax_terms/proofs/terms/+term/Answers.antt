use Rattle.std.proofs.Common.{arith, ◌≡◌, ◌+◌, ◌-◌, List, [], ◌∷◌, ◌++◌, map, true, false, ap, sym, refl, lit<, ◌∙◌, Ok}
use Rattle.syntax_lexer.specs.declared.token.Mark.TheVariants as m
use Rattle.syntax_grammar.specs.View.{arm as arm_view, term as term_view}
use Rattle.syntax_grammar.specs.Parsing.{Outcome, eat, next, sees}
use Rattle.syntax_grammar.specs.Lists.{many, separated_from, until_from}
use Rattle.syntax_grammar.specs.PatternRules.{pattern}
use Rattle.syntax_grammar.specs.TermRules.{arguments, arm, call, cast, chain_from, if_else, index, let_in, at_precedence, made, match_on, max_turns, named, operation, paren, parts, post, term}
use Rattle.syntax_grammar.specs.Nodes.{binary_of, prefix_of}
use Rattle.syntax_grammar.specs.Operators.{binds, operator, prefix_operator}
use Rattle.syntax_grammar.specs.Tokens.{is_prefix}
use Rattle.syntax_cursor.proofs.Turns.{map_more}
use Rattle.syntax_terms.proofs.Chain.{chain_failed, chain_last, chain_no_turn, chain_none, chain_too_deep, chain_turn}
use Rattle.syntax_terms.proofs.Deeper.{term_at, term_not_begun, term_too_deep}
use Rattle.syntax_terms.proofs.Ends.{given_is, no_memory, passed, same_as}
use Rattle.syntax_terms.proofs.Indexes.{index_failed, index_more, index_no_turn, index_none, index_too_deep}
use Rattle.syntax_terms.proofs.Items.{item_failed, item_last, item_more, many_begins, no_item, separated_begins, until_closed, until_failed, until_more, until_no_turn}
use Rattle.syntax_terms.proofs.Levels.{level_begun, level_not_begun, level_of_prefixes}
use Rattle.syntax_terms.proofs.Measures.{body_falls, earlier, first, level_falls, level_of_body_falls, post_falls, turn_falls, unary_falls}
use Rattle.syntax_terms.proofs.Unary.{unary_end, unary_failed, unary_more, unary_none, unary_too_deep}
use Rattle.syntax_terms.proofs.Views.{call_seen, make_seen, variable_seen}
use Rattle.syntax_terms.proofs.terms.+term.Goals as goal

pub arm-returns-in_err-pat : goal.arm-returns-in_err-pat
unfolding arm
arm-returns-in_err-pat t c = passed _ _ _ _ _ c.from_residual.ensures (λ h. rw (c.in_err-pat.ensures h) refl)

pub arm-returns : goal.arm-returns
unfolding arm
arm-returns t c = λ h. rw (c.in_ok-pat.ensures, c.in-Err-or_drop.ensures h) refl

pub arm-returns-2 : goal.arm-returns-2
unfolding arm
arm-returns-2 t c = λ h. rw (c.in_ok-pat.ensures, c.in-Ok-or_drop.ensures, c.in-Err-or_drop-body.ensures h) refl

pub arm-returns-3 : goal.arm-returns-3
unfolding arm
arm-returns-3 t c = λ h. rw (c.in_ok-pat.ensures, c.in-Ok-or_drop.ensures, c.in-Ok-or_drop-body.ensures, c.in-Err-or_drop-end.ensures h) refl

pub arm-returns-4 : goal.arm-returns-4
unfolding arm
arm-returns-4 t c = rw (c.in_ok-pat.ensures, c.in-Ok-or_drop.ensures, c.in-Ok-or_drop-body.ensures, c.in-Ok-or_drop-end.ensures, c.arm_of.ensures) refl

pub call-returns : goal.call-returns
unfolding call
call-returns t c = λ h. rw (c.in-Err-or_drop.ensures h) refl

pub call-returns-2 : goal.call-returns-2
unfolding call
call-returns-2 t c = λ h. rw (c.in-Ok-or_drop.ensures, c.in-Err-or_drop-end.ensures h) refl

pub call-returns-3 : goal.call-returns-3
unfolding call
call-returns-3 t c = rw (c.in-Ok-or_drop.ensures, c.in-Ok-or_drop-end.ensures, call_seen, c.hull-span.ensures) refl

pub cast-returns-in_err-start : goal.cast-returns-in_err-start
unfolding cast
cast-returns-in_err-start t c = passed _ _ _ _ _ c.from_residual.ensures (λ h. rw (c.in_err-start.ensures h) refl)

pub cast-returns-in_err-expect : goal.cast-returns-in_err-expect
unfolding cast
cast-returns-in_err-expect t c = passed _ _ _ _ _ c.from_residual-in_err-expect.ensures (λ h. rw (c.in_ok-start.ensures, c.in_err-expect.ensures h) refl)

pub cast-returns-in_err-x : goal.cast-returns-in_err-x
unfolding cast
cast-returns-in_err-x t c = passed _ _ _ _ _ c.from_residual-in_err-x.ensures (λ h. rw (c.in_ok-start.ensures, c.in_ok-expect.ensures, c.in_err-x.ensures h) refl)

pub cast-returns : goal.cast-returns
unfolding cast
cast-returns t c = λ h. rw (c.in_ok-start.ensures, c.in_ok-expect.ensures, c.in_ok-x.ensures, c.in-Err-or_drop.ensures h) refl

pub cast-returns-2 : goal.cast-returns-2
unfolding cast
cast-returns-2 t c = λ h. rw (c.in_ok-start.ensures, c.in_ok-expect.ensures, c.in_ok-x.ensures, c.in-Ok-or_drop.ensures, c.in-Err-or_drop-to.ensures h) refl

pub cast-returns-3 : goal.cast-returns-3
unfolding cast
cast-returns-3 t c = λ h. rw (c.in_ok-start.ensures, c.in_ok-expect.ensures, c.in_ok-x.ensures, c.in-Ok-or_drop.ensures, c.in-Ok-or_drop-to.ensures, c.in-Err-or_drop-end.ensures h) refl

pub cast-returns-4 : goal.cast-returns-4
unfolding cast
cast-returns-4 t c = given_is _ _ _ _ _ _ c.or_no_memory.ensures c.cast_of.ensures (rw (c.in_ok-start.ensures, c.in_ok-expect.ensures, c.in_ok-x.ensures, c.in-Ok-or_drop.ensures, c.in-Ok-or_drop-to.ensures, c.in-Ok-or_drop-end.ensures) refl)

pub if_else-returns-in_err-start : goal.if_else-returns-in_err-start
unfolding if_else
if_else-returns-in_err-start t c = passed _ _ _ _ _ c.from_residual.ensures (λ h. rw (c.in_err-start.ensures h) refl)

pub if_else-returns-in_err-c : goal.if_else-returns-in_err-c
unfolding if_else
if_else-returns-in_err-c t c = passed _ _ _ _ _ c.from_residual-in_err-c.ensures (λ h. rw (c.in_ok-start.ensures, c.in_err-c.ensures h) refl)

pub if_else-returns : goal.if_else-returns
unfolding if_else
if_else-returns t c = λ h. rw (c.in_ok-start.ensures, c.in_ok-c.ensures, c.in-Err-or_drop.ensures h) refl

pub if_else-returns-2 : goal.if_else-returns-2
unfolding if_else
if_else-returns-2 t c = λ h. rw (c.in_ok-start.ensures, c.in_ok-c.ensures, c.in-Ok-or_drop.ensures, c.in-Err-or_drop-yes.ensures h) refl

pub if_else-returns-3 : goal.if_else-returns-3
unfolding if_else
if_else-returns-3 t c = λ h. rw (c.in_ok-start.ensures, c.in_ok-c.ensures, c.in-Ok-or_drop.ensures, c.in-Ok-or_drop-yes.ensures, c.in-Err-or_drop-2.ensures h) refl

pub if_else-returns-4 : goal.if_else-returns-4
unfolding if_else
if_else-returns-4 t c = λ h. rw (c.in_ok-start.ensures, c.in_ok-c.ensures, c.in-Ok-or_drop.ensures, c.in-Ok-or_drop-yes.ensures, c.in-Ok-or_drop-2.ensures, c.in-Err-or_drop-no.ensures h) refl

pub if_else-returns-5 : goal.if_else-returns-5
unfolding if_else
if_else-returns-5 t c = given_is _ _ _ _ _ _ c.or_no_memory.ensures c.if_of.ensures (rw (c.in_ok-start.ensures, c.in_ok-c.ensures, c.in-Ok-or_drop.ensures, c.in-Ok-or_drop-yes.ensures, c.in-Ok-or_drop-2.ensures, c.in-Ok-or_drop-no.ensures) refl)

pub index-returns : goal.index-returns
unfolding index
index-returns t c = λ h. rw (c.in-Err-or_drop.ensures h) refl

pub index-returns-then-eat : goal.index-returns-then-eat
unfolding index
index-returns-then-eat t c = λ h. rw (c.in-Ok-or_drop.ensures, c.eat.ensures, c.if-eat.true, c.in-Err-or_drop-v.ensures h) refl

pub index-returns-then-eat-2 : goal.index-returns-then-eat-2
unfolding index
index-returns-then-eat-2 t c = λ h. rw (c.in-Ok-or_drop.ensures, c.eat.ensures, c.if-eat.true, c.in-Ok-or_drop-v.ensures, c.in-Err-or_drop-end.ensures h) refl

pub index-returns-then-eat-3 : goal.index-returns-then-eat-3
unfolding index
index-returns-then-eat-3 t c = given_is _ _ _ _ _ _ c.or_no_memory.ensures c.put_of.ensures (rw (c.in-Ok-or_drop.ensures, c.eat.ensures, c.if-eat.true, c.in-Ok-or_drop-v.ensures, c.in-Ok-or_drop-end.ensures) refl)

pub index-returns-2 : goal.index-returns-2
unfolding index
index-returns-2 t c = λ h. rw (c.in-Ok-or_drop.ensures, c.eat.ensures, c.if-eat.false, c.in-Err-or_drop-end-2.ensures h) refl

pub index-returns-3 : goal.index-returns-3
unfolding index
index-returns-3 t c = given_is _ _ _ _ _ _ c.or_no_memory-2.ensures c.get_of.ensures (rw (c.in-Ok-or_drop.ensures, c.eat.ensures, c.if-eat.false, c.in-Ok-or_drop-end-2.ensures) refl)

pub let_in-returns-in_err-start : goal.let_in-returns-in_err-start
unfolding let_in
let_in-returns-in_err-start t c = passed _ _ _ _ _ c.from_residual.ensures (λ h. rw (c.in_err-start.ensures h) refl)

pub let_in-returns-in_err-name : goal.let_in-returns-in_err-name
unfolding let_in
let_in-returns-in_err-name t c = passed _ _ _ _ _ c.from_residual-in_err-name.ensures (λ h. rw (c.in_ok-start.ensures, c.in_err-name.ensures h) refl)

pub let_in-returns : goal.let_in-returns
unfolding let_in
let_in-returns t c = λ h. rw (c.in_ok-start.ensures, c.in_ok-name.ensures, c.in-Err-or_drop.ensures h) refl

pub let_in-returns-2 : goal.let_in-returns-2
unfolding let_in
let_in-returns-2 t c = λ h. rw (c.in_ok-start.ensures, c.in_ok-name.ensures, c.in-Ok-or_drop.ensures, c.in-Err-or_drop-x.ensures h) refl

pub let_in-returns-3 : goal.let_in-returns-3
unfolding let_in
let_in-returns-3 t c = λ h. rw (c.in_ok-start.ensures, c.in_ok-name.ensures, c.in-Ok-or_drop.ensures, c.in-Ok-or_drop-x.ensures, c.in-Err-or_drop-2.ensures h) refl

pub let_in-returns-4 : goal.let_in-returns-4
unfolding let_in
let_in-returns-4 t c = λ h. rw (c.in_ok-start.ensures, c.in_ok-name.ensures, c.in-Ok-or_drop.ensures, c.in-Ok-or_drop-x.ensures, c.in-Ok-or_drop-2.ensures, c.in-Err-or_drop-then.ensures h) refl

pub let_in-returns-5 : goal.let_in-returns-5
unfolding let_in
let_in-returns-5 t c = given_is _ _ _ _ _ _ c.or_no_memory.ensures c.let_of.ensures (rw (c.in_ok-start.ensures, c.in_ok-name.ensures, c.in-Ok-or_drop.ensures, c.in-Ok-or_drop-x.ensures, c.in-Ok-or_drop-2.ensures, c.in-Ok-or_drop-then.ensures) refl)

pub made-returns-in_err-name : goal.made-returns-in_err-name
unfolding made
made-returns-in_err-name t c = passed _ _ _ _ _ c.from_residual.ensures (λ h. rw (c.in_err-name.ensures h) refl)

pub made-returns : goal.made-returns
unfolding made
made-returns t c = rw (c.in_ok-name.ensures, c.eat.ensures, c.if-eat.false, make_seen, c.new.ensures.items) refl

pub match_on-returns-in_err-start : goal.match_on-returns-in_err-start
unfolding match_on
match_on-returns-in_err-start t c = passed _ _ _ _ _ c.from_residual.ensures (λ h. rw (c.in_err-start.ensures h) refl)

pub match_on-returns-in_err-x : goal.match_on-returns-in_err-x
unfolding match_on
match_on-returns-in_err-x t c = passed _ _ _ _ _ c.from_residual-in_err-x.ensures (λ h. rw (c.in_ok-start.ensures, c.in_err-x.ensures h) refl)

pub match_on-returns : goal.match_on-returns
unfolding match_on
match_on-returns t c = λ h. rw (c.in_ok-start.ensures, c.in_ok-x.ensures, c.in-Err-or_drop.ensures h) refl

pub match_on-returns-2 : goal.match_on-returns-2
unfolding match_on
match_on-returns-2 t c = λ h. rw (c.in_ok-start.ensures, c.in_ok-x.ensures, c.in-Ok-or_drop.ensures, c.in-Err-or_drop-2.ensures h) refl

pub match_on-returns-3 : goal.match_on-returns-3
unfolding match_on
match_on-returns-3 t c = λ h. rw (c.in_ok-start.ensures, c.in_ok-x.ensures, c.in-Ok-or_drop.ensures, c.in-Ok-or_drop-2.ensures, c.in-Err-or_drop-arms.ensures h) refl

pub match_on-returns-4 : goal.match_on-returns-4
unfolding match_on
match_on-returns-4 t c = λ h. rw (c.in_ok-start.ensures, c.in_ok-x.ensures, c.in-Ok-or_drop.ensures, c.in-Ok-or_drop-2.ensures, c.in-Ok-or_drop-arms.ensures, c.in-Err-or_drop-end.ensures h) refl

pub match_on-returns-5 : goal.match_on-returns-5
unfolding match_on
match_on-returns-5 t c = given_is _ _ _ _ _ _ c.or_no_memory.ensures c.match_of.ensures (rw (c.in_ok-start.ensures, c.in_ok-x.ensures, c.in-Ok-or_drop.ensures, c.in-Ok-or_drop-2.ensures, c.in-Ok-or_drop-arms.ensures, c.in-Ok-or_drop-end.ensures) refl)

pub named-returns-in_err-name : goal.named-returns-in_err-name
unfolding named
named-returns-in_err-name t c = passed _ _ _ _ _ c.from_residual.ensures (λ h. rw (c.in_err-name.ensures h) refl)

pub named-returns : goal.named-returns
unfolding named
named-returns t c = rw (c.in_ok-name.ensures, c.eat.ensures, c.if-eat.false, variable_seen) refl

pub operation-returns-in_err-start : goal.operation-returns-in_err-start
unfolding operation
operation-returns-in_err-start t c = passed _ _ _ _ _ c.from_residual.ensures (λ h. rw (c.in_err-start.ensures h) refl)

pub operation-returns-in_err-expect : goal.operation-returns-in_err-expect
unfolding operation
operation-returns-in_err-expect t c = passed _ _ _ _ _ c.from_residual-in_err-expect.ensures (λ h. rw (c.in_ok-start.ensures, c.in_err-expect.ensures h) refl)

pub operation-returns-in_err-x : goal.operation-returns-in_err-x
unfolding operation
operation-returns-in_err-x t c = passed _ _ _ _ _ c.from_residual-in_err-x.ensures (λ h. rw (c.in_ok-start.ensures, c.in_ok-expect.ensures, c.in_err-x.ensures h) refl)

pub operation-returns : goal.operation-returns
unfolding operation
operation-returns t c = λ h. rw (c.in_ok-start.ensures, c.in_ok-expect.ensures, c.in_ok-x.ensures, c.in-Err-or_drop.ensures h) refl

pub operation-returns-2 : goal.operation-returns-2
unfolding operation
operation-returns-2 t c = λ h. rw (c.in_ok-start.ensures, c.in_ok-expect.ensures, c.in_ok-x.ensures, c.in-Ok-or_drop.ensures, c.in-Err-or_drop-y.ensures h) refl

pub operation-returns-3 : goal.operation-returns-3
unfolding operation
operation-returns-3 t c = λ h. rw (c.in_ok-start.ensures, c.in_ok-expect.ensures, c.in_ok-x.ensures, c.in-Ok-or_drop.ensures, c.in-Ok-or_drop-y.ensures, c.in-Err-or_drop-end.ensures h) refl

pub operation-returns-4 : goal.operation-returns-4
unfolding operation
operation-returns-4 t c = given_is _ _ _ _ _ _ c.or_no_memory.ensures c.operation_of.ensures (rw (c.in_ok-start.ensures, c.in_ok-expect.ensures, c.in_ok-x.ensures, c.in-Ok-or_drop.ensures, c.in-Ok-or_drop-y.ensures, c.in-Ok-or_drop-end.ensures) refl)

pub paren-returns-in_err-start : goal.paren-returns-in_err-start
unfolding paren
paren-returns-in_err-start t c = passed _ _ _ _ _ c.from_residual.ensures (λ h. rw (c.in_err-start.ensures h) refl)

pub paren-returns-in_err-x : goal.paren-returns-in_err-x
unfolding paren
paren-returns-in_err-x t c = passed _ _ _ _ _ c.from_residual-in_err-x.ensures (λ h. rw (c.in_ok-start.ensures, c.in_err-x.ensures h) refl)

pub paren-returns : goal.paren-returns
unfolding paren
paren-returns t c = λ h. rw (c.in_ok-start.ensures, c.in_ok-x.ensures, c.in-Err-or_drop.ensures h) refl

pub paren-returns-2 : goal.paren-returns-2
unfolding paren
paren-returns-2 t c = given_is _ _ _ _ _ _ c.or_no_memory.ensures c.paren_of.ensures (rw (c.in_ok-start.ensures, c.in_ok-x.ensures, c.in-Ok-or_drop.ensures) refl)

pub parts-returns : goal.parts-returns
unfolding parts
parts-returns t c = λ h. rw (c.in-Err-or_drop.ensures h) refl

pub parts-returns-2 : goal.parts-returns-2
unfolding parts
parts-returns-2 t c = λ h. rw (c.in-Ok-or_drop.ensures, c.in-Err-or_drop-end.ensures h) refl

pub parts-returns-3 : goal.parts-returns-3
unfolding parts
parts-returns-3 t c = rw (c.in-Ok-or_drop.ensures, c.in-Ok-or_drop-end.ensures, make_seen, c.hull-span.ensures) refl

pub arguments-terms-requires : goal.arguments-terms-requires
arguments-terms-requires t c = (earlier _ 1 2 t (lit< tt) c.decreases, tt)

pub arm-term-requires : goal.arm-term-requires
arm-term-requires t c = (first _ _ t (lit< tt) c.decreases, tt)

pub arms-arm-requires : goal.arms-arm-requires
arms-arm-requires t c = (earlier _ 1 2 t (lit< tt) c.decreases, tt)

pub arms-arm-requires-in-loop-turn : goal.arms-arm-requires-in-loop-turn
arms-arm-requires-in-loop-turn t c = (earlier _ 1 2 t (lit< tt) c.decreases, tt)

pub atom-named-requires : goal.atom-named-requires
atom-named-requires t c = (earlier _ 4 6 t (lit< tt) c.decreases, tt)

pub atom-made-requires : goal.atom-made-requires
atom-made-requires t c = (earlier _ 4 6 t (lit< tt) c.decreases, tt)

pub atom-paren-requires : goal.atom-paren-requires
atom-paren-requires t c = (earlier _ 1 6 t (lit< tt) c.decreases, tt)

pub atom-atom_by_word-requires : goal.atom-atom_by_word-requires
atom-atom_by_word-requires t c = (earlier _ 5 6 t (lit< tt) c.decreases, tt)

pub atom_by_word-match_on-requires : goal.atom_by_word-match_on-requires
atom_by_word-match_on-requires t c = (earlier _ 3 5 t (lit< tt) c.decreases, tt)

pub atom_by_word-operation-requires : goal.atom_by_word-operation-requires
atom_by_word-operation-requires t c = (earlier _ 1 5 t (lit< tt) c.decreases, tt)

pub atom_by_word-cast-requires : goal.atom_by_word-cast-requires
atom_by_word-cast-requires t c = (earlier _ 1 5 t (lit< tt) c.decreases, tt)

pub call-arguments-requires : goal.call-arguments-requires
call-arguments-requires t c = (earlier _ 2 3 t (lit< tt) c.decreases, tt)

pub cast-term-requires : goal.cast-term-requires
cast-term-requires t c = (first _ _ t (lit< tt) c.decreases, tt)

pub if_else-term-requires : goal.if_else-term-requires
if_else-term-requires t c = (first _ _ t (lit< tt) c.decreases, tt)

pub if_else-term-requires-2 : goal.if_else-term-requires-2
if_else-term-requires-2 t c = (first _ _ t (lit< tt) c.decreases, tt)

pub if_else-term-requires-3 : goal.if_else-term-requires-3
if_else-term-requires-3 t c = (first _ _ t (lit< tt) c.decreases, tt)

pub index-term-requires : goal.index-term-requires
index-term-requires t c = (first _ _ t (lit< tt) c.decreases, tt)

pub index-term-requires-then-eat : goal.index-term-requires-then-eat
index-term-requires-then-eat t c = (first _ _ t (lit< tt) c.decreases, tt)

pub let_in-term-requires : goal.let_in-term-requires
let_in-term-requires t c = (first _ _ t (lit< tt) c.decreases, tt)

pub let_in-term-requires-2 : goal.let_in-term-requires-2
let_in-term-requires-2 t c = (first _ _ t (lit< tt) c.decreases, tt)

pub made-parts-requires : goal.made-parts-requires
made-parts-requires t c = (earlier _ 3 4 t (lit< tt) c.decreases, tt)

pub match_on-term-requires : goal.match_on-term-requires
match_on-term-requires t c = (first _ _ t (lit< tt) c.decreases, tt)

pub match_on-arms-requires : goal.match_on-arms-requires
match_on-arms-requires t c = (earlier _ 2 3 t (lit< tt) c.decreases, tt)

pub named-call-requires : goal.named-call-requires
named-call-requires t c = (earlier _ 3 4 t (lit< tt) c.decreases, tt)

pub operation-term-requires : goal.operation-term-requires
operation-term-requires t c = (first _ _ t (lit< tt) c.decreases, tt)

pub operation-term-requires-2 : goal.operation-term-requires-2
operation-term-requires-2 t c = (first _ _ t (lit< tt) c.decreases, tt)

pub paren-term-requires : goal.paren-term-requires
paren-term-requires t c = (first _ _ t (lit< tt) c.decreases, tt)

pub parts-terms-requires : goal.parts-terms-requires
parts-terms-requires t c = (earlier _ 1 3 t (lit< tt) c.decreases, tt)

pub post-atom-requires : goal.post-atom-requires
post-atom-requires t c = (earlier _ 6 7 t (lit< tt) c.decreases, tt)

pub post-index-requires : goal.post-index-requires
post-index-requires t c = (earlier _ 1 7 t (lit< tt) c.decreases, tt)

pub terms-term-requires : goal.terms-term-requires
terms-term-requires t c = (first _ _ t (lit< tt) c.decreases, tt)

-- ---- a rule that goes on as another

pub arguments-returns-then-sees : goal.arguments-returns-then-sees
unfolding arguments sees
arguments-returns-then-sees t c = rw (← c.if-sees.ensures, c.new.ensures.items) refl

pub arguments-returns : goal.arguments-returns
unfolding arguments sees
arguments-returns t c = same_as _ _ _ _ _ (rw (← c.if-sees.ensures) refl) c.terms.ensures

pub named-returns-then-eat : goal.named-returns-then-eat
unfolding named
named-returns-then-eat t c = same_as _ _ _ _ _ (rw (c.in_ok-name.ensures, c.eat.ensures, c.if-eat.true) refl) c.call.ensures

pub made-returns-then-eat : goal.made-returns-then-eat
unfolding made
made-returns-then-eat t c = same_as _ _ _ _ _ (rw (c.in_ok-name.ensures, c.eat.ensures, c.if-eat.true) refl) c.parts.ensures

-- ---- a term at its depth

pub term-body-requires : goal.term-body-requires
term-body-requires t c = (body_falls _ t (omega arith) c.decreases, tt)

pub term-returns-in_err-outer : goal.term-returns-in_err-outer
term-returns-in_err-outer t c = passed _ _ _ _ _ c.from_residual.ensures (λ h. term_not_begun _ _ _ _ (c.in_err-outer.ensures h))

pub term-returns-then-depth-eq0 : goal.term-returns-then-depth-eq0
term-returns-then-depth-eq0 t c = λ h. term_too_deep _ _ c.if-depth-eq0.true ∙ rw c.in_ok-outer.ensures refl

pub term-returns-in_err-found : goal.term-returns-in_err-found
term-returns-in_err-found t c = passed _ _ _ _ _ c.from_residual-in_err-found.ensures (λ h. term_at _ _ (omega arith) ∙ rw (c.in_ok-outer.ensures, c.in_err-found.ensures h) refl)

pub term-returns : goal.term-returns
term-returns t c = term_at _ _ (omega arith) ∙ rw (c.in_ok-outer.ensures, c.in_ok-found.ensures) (ap (λ (o : Outcome (Unit {0})). (Ok (term_view c.in_ok-found.found), o.1)) c.leave.ensures)

-- ---- lists

pub terms-loop-turn-init : goal.terms-loop-turn-init
terms-loop-turn-init t c = separated_begins _ _ _ _ _ c.args.tokens.now c.left-turn-end.ensures (ap (λ xs. map term_view xs) c.new-found.ensures.items)

pub terms-returns-in-loop-turn : goal.terms-returns-in-loop-turn
terms-returns-in-loop-turn t c = λ h. c.loop-turn.invariant ∙ item_failed _ _ _ _ _ _ _ _ c.loop-turn-test.true (c.in-Err-or_drop.ensures h)

pub terms-returns-in_err-found : goal.terms-returns-in_err-found
terms-returns-in_err-found t c = no_memory _ _ _ _ c.from_residual.ensures

pub terms-returns-then-not-eat : goal.terms-returns-then-not-eat
terms-returns-then-not-eat t c =
    let eats : eat m.Comma c.term.new.tokens ≡ (Ok false, c.eat.new.self) = c.eat.ensures ∙ ap (λ r. (Ok r, c.eat.new.self)) c.if-not-eat.true in
    let longer = ap (λ xs. map term_view xs) c.in_ok-found.ensures ∙ map_more term_view _ _ in
    c.loop-turn.invariant ∙ item_last _ _ _ _ _ _ _ _ _ c.loop-turn-test.true c.in-Ok-or_drop.ensures eats ∙ ap (λ xs. (Ok xs, c.eat.new.self)) (sym longer)

pub terms-loop-turn-preserved : goal.terms-loop-turn-preserved
terms-loop-turn-preserved t c =
    let eats : eat m.Comma c.term.new.tokens ≡ (Ok true, c.eat.new.self) = c.eat.ensures ∙ ap (λ r. (Ok r, c.eat.new.self)) c.if-not-eat.false in
    let longer = ap (λ xs. map term_view xs) c.in_ok-found.ensures ∙ map_more term_view _ _ in
    c.loop-turn.invariant
    ∙ item_more _ _ _ _ _ _ _ _ _ c.loop-turn-test.true c.in-Ok-or_drop.ensures eats
    ∙ ap (λ xs. separated_from (term c.args.depth) m.Comma (c.left-turn-end.result - (c.loop-turn._turn + 1)) xs c.eat.new.self) (sym longer)

pub terms-returns : goal.terms-returns
terms-returns t c = λ h. c.loop-turn.invariant ∙ no_item _ _ _ _ _ _ c.loop-turn-test.false

pub arms-returns-in_err-first : goal.arms-returns-in_err-first
unfolding many
arms-returns-in_err-first t c = passed _ _ _ _ _ c.from_residual.ensures (λ h. rw (c.in_err-first.ensures h) refl)

pub arms-returns-in_err-found : goal.arms-returns-in_err-found
arms-returns-in_err-found t c = no_memory _ _ _ _ c.from_residual-in_err-found.ensures

pub arms-loop-turn-init : goal.arms-loop-turn-init
arms-loop-turn-init t c =
    many_begins _ _ _ _ _ _ _ c.in_ok-first.ensures c.left-turn-end.ensures (ap (λ xs. map arm_view xs) (c.in_ok-found.ensures ∙ ap (λ xs. xs ++ c.in_ok-first.first ∷ []) c.new.ensures.items))

pub arms-returns-then-sees : goal.arms-returns-then-sees
arms-returns-then-sees t c = c.loop-turn.invariant ∙ until_closed _ _ _ _ _ _ c.loop-turn-test.true c.if-sees.ensures

pub arms-returns-in-loop-turn : goal.arms-returns-in-loop-turn
arms-returns-in-loop-turn t c = λ h. c.loop-turn.invariant ∙ until_failed _ _ _ _ _ _ _ _ c.loop-turn-test.true c.if-sees.ensures (c.in-Err-or_drop.ensures h)

pub arms-returns-in_err-found-2 : goal.arms-returns-in_err-found-2
arms-returns-in_err-found-2 t c = no_memory _ _ _ _ c.from_residual-in_err-found-2.ensures

pub arms-loop-turn-preserved : goal.arms-loop-turn-preserved
arms-loop-turn-preserved t c =
    let longer = ap (λ xs. map arm_view xs) c.in_ok-found-2.ensures ∙ map_more arm_view _ _ in
    c.loop-turn.invariant
    ∙ until_more _ _ _ _ _ _ _ _ c.loop-turn-test.true c.if-sees.ensures c.in-Ok-or_drop.ensures
    ∙ ap (λ xs. until_from (arm (pattern c.args.depth) (term c.args.depth)) m.RBrace (c.left-turn-end.result - (c.loop-turn._turn + 1)) xs c.arm-in-loop-turn.new.tokens) (sym longer)

pub arms-returns : goal.arms-returns
arms-returns t c = λ h. c.loop-turn.invariant ∙ until_no_turn _ _ _ _ _ _ c.loop-turn-test.false

-- ---- keys

pub post-returns-in_err-x : goal.post-returns-in_err-x
unfolding post
post-returns-in_err-x t c = passed _ _ _ _ _ c.from_residual.ensures (λ h. rw (c.in_err-x.ensures h) refl)

pub post-loop-turn-init : goal.post-loop-turn-init
unfolding post
post-loop-turn-init t c = rw c.in_ok-x.ensures refl

pub post-returns-then-not-sees : goal.post-returns-then-not-sees
post-returns-then-not-sees t c = c.loop-turn.invariant ∙ index_none _ _ _ _ c.loop-turn-test.true c.if-not-sees.ensures

pub post-returns-in-loop-turn : goal.post-returns-in-loop-turn
post-returns-in-loop-turn t c = λ h. c.loop-turn.invariant ∙ index_too_deep _ _ _ _ _ _ c.loop-turn-test.true c.if-not-sees.ensures (c.in-Err-or_drop.ensures h)

pub post-returns-in_err-x-2 : goal.post-returns-in_err-x-2
post-returns-in_err-x-2 t c =
    passed _ _ _ _ _ c.from_residual-in_err-x-2.ensures
    (λ h. c.loop-turn.invariant ∙ index_failed _ _ _ _ _ _ _ _ _ c.loop-turn-test.true c.if-not-sees.ensures c.in-Ok-or_drop.ensures c.skip.ensures (c.in_err-x-2.ensures h))

pub post-loop-turn-preserved : goal.post-loop-turn-preserved
post-loop-turn-preserved t c =
    c.loop-turn.invariant ∙ index_more _ _ _ _ _ _ _ _ _ c.loop-turn-test.true c.if-not-sees.ensures c.in-Ok-or_drop.ensures c.skip.ensures c.in_ok-x-2.ensures

pub post-returns : goal.post-returns
post-returns t c = λ h. c.loop-turn.invariant ∙ index_no_turn _ _ _ _ c.loop-turn-test.false

-- ---- prefix operators

pub unary-post-requires : goal.unary-post-requires
unary-post-requires t c = (post_falls _ t _ c.decreases, tt)

pub unary-unary-requires : goal.unary-unary-requires
unary-unary-requires t c = (turn_falls _ t _ (omega arith) c.decreases, tt)

pub unary-returns-then-turns-eq0 : goal.unary-returns-then-turns-eq0
unary-returns-then-turns-eq0 t c = λ h. unary_end _ _ _ _ c.if-turns-eq0.true

pub unary-returns-then-not-is_prefix : goal.unary-returns-then-not-is_prefix
unary-returns-then-not-is_prefix t c =
    let none : is_prefix (next c.args.tokens.now) ≡ false = sym (ap (λ k. is_prefix k) c.next-next.ensures) ∙ sym c.if-not-is_prefix.ensures in
    same_as _ _ _ _ _ (unary_none _ _ _ _ (omega arith) none) c.post.ensures

pub unary-returns-in_err-rise : goal.unary-returns-in_err-rise
unary-returns-in_err-rise t c =
    let one : is_prefix (next c.args.tokens.now) ≡ true = sym (ap (λ k. is_prefix k) c.next-next.ensures) ∙ sym c.if-not-is_prefix.ensures in
    passed _ _ _ _ _ c.from_residual.ensures (λ h. unary_too_deep _ _ _ _ _ _ (omega arith) one (c.in_err-rise.ensures h))

pub unary-returns-in_err-x : goal.unary-returns-in_err-x
unary-returns-in_err-x t c =
    let one : is_prefix (next c.args.tokens.now) ≡ true = sym (ap (λ k. is_prefix k) c.next-next.ensures) ∙ sym c.if-not-is_prefix.ensures in
    passed _ _ _ _ _ c.from_residual-in_err-x.ensures (λ h. unary_failed _ _ _ _ _ _ _ _ _ (omega arith) one c.in_ok-rise.ensures c.skip-start.ensures (c.in_err-x.ensures h))

pub unary-returns : goal.unary-returns
unary-returns t c =
    let one : is_prefix (next c.args.tokens.now) ≡ true = sym (ap (λ k. is_prefix k) c.next-next.ensures) ∙ sym c.if-not-is_prefix.ensures in
    let op : c.prefix_operator-op.result ≡ prefix_operator (next c.args.tokens.now) = c.prefix_operator-op.ensures ∙ ap (λ k. prefix_operator k) c.next-next.ensures in
    given_is _ _ _ _ _ _ c.or_no_memory.ensures c.prefix_of.ensures
    (unary_more _ _ _ _ _ _ _ _ _ (omega arith) one c.in_ok-rise.ensures c.skip-start.ensures c.in_ok-x.ensures
    ∙ ap (λ op. (Ok (prefix_of op c.skip-start.result (term_view c.in_ok-x.x)), c.unary.new.tokens)) (sym op))

-- ---- binary operators

pub body-at_precedence-requires : goal.body-at_precedence-requires
body-at_precedence-requires t c = (level_of_body_falls _ t c.decreases, tt)

pub body-let_in-requires : goal.body-let_in-requires
body-let_in-requires t c = (earlier _ 1 999 t (lit< tt) c.decreases, tt)

pub body-if_else-requires : goal.body-if_else-requires
body-if_else-requires t c = (earlier _ 1 999 t (lit< tt) c.decreases, tt)

pub at_precedence-unary-requires : goal.at_precedence-unary-requires
at_precedence-unary-requires t c = (unary_falls _ t _ c.decreases, tt)

pub at_precedence-at_precedence-requires : goal.at_precedence-at_precedence-requires
at_precedence-at_precedence-requires t c = (level_falls _ t _ (omega arith) c.decreases, tt)

pub at_precedence-at_precedence-requires-in-loop-turn : goal.at_precedence-at_precedence-requires-in-loop-turn
at_precedence-at_precedence-requires-in-loop-turn t c = (level_falls _ t _ (omega arith) c.decreases, tt)

pub at_precedence-returns-then-precedence-eq0 : goal.at_precedence-returns-then-precedence-eq0
at_precedence-returns-then-precedence-eq0 t c = same_as _ _ _ _ _ (level_of_prefixes _ _ _ _ c.if-precedence-eq0.true) c.unary.ensures

pub at_precedence-returns-in_err-left : goal.at_precedence-returns-in_err-left
at_precedence-returns-in_err-left t c = passed _ _ _ _ _ c.from_residual.ensures (λ h. level_not_begun _ _ _ _ _ _ (omega arith) (c.in_err-left.ensures h))

pub at_precedence-loop-turn-init : goal.at_precedence-loop-turn-init
at_precedence-loop-turn-init t c = level_begun _ _ _ _ _ _ (omega arith) c.in_ok-left.ensures

pub at_precedence-returns-then-binds-precedence : goal.at_precedence-returns-then-binds-precedence
at_precedence-returns-then-binds-precedence t c =
    let binding : c.binds.result ≡ binds (next c.loop-turn.tokens) = c.binds.ensures ∙ ap (λ k. binds k) c.next-next.ensures in
    c.loop-turn.invariant ∙ chain_none _ _ _ _ _ c.loop-turn-test.true (λ h. c.if-binds-precedence.true (binding ∙ h))

pub at_precedence-returns-in-loop-turn : goal.at_precedence-returns-in-loop-turn
at_precedence-returns-in-loop-turn t c =
    let binding : binds (next c.loop-turn.tokens) ≡ c.args.precedence = sym (c.binds.ensures ∙ ap (λ k. binds k) c.next-next.ensures) ∙ c.if-binds-precedence.false in
    λ h. c.loop-turn.invariant ∙ chain_too_deep _ _ _ _ _ _ _ c.loop-turn-test.true binding (c.in-Err-or_drop.ensures h)

pub at_precedence-returns-in-Err : goal.at_precedence-returns-in-Err
at_precedence-returns-in-Err t c =
    let binding : binds (next c.loop-turn.tokens) ≡ c.args.precedence = sym (c.binds.ensures ∙ ap (λ k. binds k) c.next-next.ensures) ∙ c.if-binds-precedence.false in
    λ h. c.loop-turn.invariant ∙ chain_failed _ _ _ _ _ _ _ _ _ _ c.loop-turn-test.true binding c.in-Ok-or_drop.ensures c.skip.ensures (c.in-Err.ensures h)

pub at_precedence-returns-in_err-left-2 : goal.at_precedence-returns-in_err-left-2
at_precedence-returns-in_err-left-2 t c = no_memory _ _ _ _ c.from_residual-in_err-left-2.ensures

pub at_precedence-returns-then-not-groups : goal.at_precedence-returns-then-not-groups
at_precedence-returns-then-not-groups t c =
    let binding : binds (next c.loop-turn.tokens) ≡ c.args.precedence = sym (c.binds.ensures ∙ ap (λ k. binds k) c.next-next.ensures) ∙ c.if-binds-precedence.false in
    let op = c.operator-op.ensures ∙ ap (λ k. operator k) c.next-next.ensures in
    let made = c.in_ok-left-2.ensures ∙ ap (λ op. binary_of op (term_view c.loop-turn.left) (term_view c.in-Ok.right)) op in
    c.loop-turn.invariant
    ∙ chain_last _ _ _ _ _ _ _ _ _ _ c.loop-turn-test.true binding (sym c.if-not-groups.ensures) c.in-Ok-or_drop.ensures c.skip.ensures c.in-Ok.ensures
    ∙ ap (λ left. (Ok left, c.at_precedence-in-loop-turn.new.tokens)) (sym made)

pub at_precedence-loop-turn-preserved : goal.at_precedence-loop-turn-preserved
at_precedence-loop-turn-preserved t c =
    let binding : binds (next c.loop-turn.tokens) ≡ c.args.precedence = sym (c.binds.ensures ∙ ap (λ k. binds k) c.next-next.ensures) ∙ c.if-binds-precedence.false in
    let op = c.operator-op.ensures ∙ ap (λ k. operator k) c.next-next.ensures in
    let made = c.in_ok-left-2.ensures ∙ ap (λ op. binary_of op (term_view c.loop-turn.left) (term_view c.in-Ok.right)) op in
    c.loop-turn.invariant
    ∙ chain_turn _ _ _ _ _ _ _ _ _ _ c.loop-turn-test.true binding (sym c.if-not-groups.ensures) c.in-Ok-or_drop.ensures c.skip.ensures c.in-Ok.ensures
    ∙ ap (λ left. chain_from (at_precedence (pattern c.args.depth) (term c.args.depth) (c.args.precedence - 1)) c.args.precedence (max_turns - (c.loop-turn._turn + 1)) left c.at_precedence-in-loop-turn.new.tokens) (sym made)

pub at_precedence-returns : goal.at_precedence-returns
at_precedence-returns t c = λ h. c.loop-turn.invariant ∙ chain_no_turn _ _ _ _ _ c.loop-turn-test.false
