use Rattle.std.proofs.Common.{◌≡◌, ◌∙◌, ◌+◌, ◌-◌, ◌++◌, ◌∷◌, [], ap, sym, refl}
use Rattle.syntax_lexer.specs.declared.token.Mark.TheVariants as m
use Rattle.syntax_grammar.specs.Lists.{many, until_from}
use Rattle.syntax_grammar.specs.ItemRules.{part}
use Rattle.syntax_terms.proofs.Ends.{no_memory, passed}
use Rattle.syntax_terms.proofs.Items.{many_begins, until_closed, until_failed, until_more, until_no_turn}
use Rattle.syntax_parser.proofs.decode.parts.Goals as goal

pub returns-in_err-first : goal.returns-in_err-first
unfolding many
returns-in_err-first c = passed _ _ _ _ _ c.from_residual.ensures (λ h. rw (c.in_err-first.ensures h) refl)

pub returns-in_err-found : goal.returns-in_err-found
returns-in_err-found c = no_memory _ _ _ _ c.from_residual-in_err-found.ensures

pub loop-turn-init : goal.loop-turn-init
loop-turn-init c = many_begins _ _ _ _ _ _ _ c.in_ok-first.ensures c.left-turn-end.ensures (c.in_ok-found.ensures ∙ ap (λ xs. xs ++ c.in_ok-first.first ∷ []) c.new.ensures.items)

pub returns-then-sees : goal.returns-then-sees
returns-then-sees c = c.loop-turn.invariant ∙ until_closed _ _ _ _ _ _ c.loop-turn-test.true c.if-sees.ensures

pub returns-in-loop-turn : goal.returns-in-loop-turn
returns-in-loop-turn c = λ h. c.loop-turn.invariant ∙ until_failed _ _ _ _ _ _ _ _ c.loop-turn-test.true c.if-sees.ensures (c.in-Err-or_drop.ensures h)

pub returns-in_err-found-2 : goal.returns-in_err-found-2
returns-in_err-found-2 c = no_memory _ _ _ _ c.from_residual-in_err-found-2.ensures

pub loop-turn-preserved : goal.loop-turn-preserved
loop-turn-preserved c =
    c.loop-turn.invariant
    ∙ until_more _ _ _ _ _ _ _ _ c.loop-turn-test.true c.if-sees.ensures c.in-Ok-or_drop.ensures
    ∙ ap (λ xs. until_from part m.RBracket (c.left-turn-end.result - (c.loop-turn._turn + 1)) xs c.part-in-loop-turn.new.tokens) (sym c.in_ok-found-2.ensures)

pub returns : goal.returns
returns c = λ h. c.loop-turn.invariant ∙ until_no_turn _ _ _ _ _ _ c.loop-turn-test.false
