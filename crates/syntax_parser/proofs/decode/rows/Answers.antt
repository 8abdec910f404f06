use Rattle.std.proofs.Common.{◌∙◌, ◌+◌, ◌-◌, map, ap, sym}
use Rattle.syntax_lexer.specs.declared.token.Mark.TheVariants as m
use Rattle.syntax_grammar.specs.View.{row as row_view}
use Rattle.syntax_grammar.specs.ItemRules.{row}
use Rattle.syntax_grammar.specs.Lists.{until_from}
use Rattle.syntax_cursor.proofs.Turns.{map_more}
use Rattle.syntax_terms.proofs.Ends.{no_memory}
use Rattle.syntax_terms.proofs.Items.{until_closed, until_failed, until_more, until_no_turn}
use Rattle.syntax_parser.proofs.Declared.{until_begins}
use Rattle.syntax_parser.proofs.decode.rows.Goals as goal

pub loop-turn-init : goal.loop-turn-init
loop-turn-init c = until_begins _ _ _ _ c.args.tokens.now c.left-turn-end.ensures (ap (λ xs. map row_view xs) c.new-found.ensures.items)

pub returns-then-sees : goal.returns-then-sees
returns-then-sees c = c.loop-turn.invariant ∙ until_closed _ _ _ _ _ _ c.loop-turn-test.true c.if-sees.ensures

pub returns-in-loop-turn : goal.returns-in-loop-turn
returns-in-loop-turn c = λ h. c.loop-turn.invariant ∙ until_failed _ _ _ _ _ _ _ _ c.loop-turn-test.true c.if-sees.ensures (c.in-Err-or_drop.ensures h)

pub returns-in_err-found : goal.returns-in_err-found
returns-in_err-found c = no_memory _ _ _ _ c.from_residual.ensures

pub loop-turn-preserved : goal.loop-turn-preserved
loop-turn-preserved c =
    let longer = ap (λ xs. map row_view xs) c.in_ok-found.ensures ∙ map_more row_view _ _ in
    c.loop-turn.invariant
    ∙ until_more _ _ _ _ _ _ _ _ c.loop-turn-test.true c.if-sees.ensures c.in-Ok-or_drop.ensures
    ∙ ap (λ xs. until_from row m.RBrace (c.left-turn-end.result - (c.loop-turn._turn + 1)) xs c.row.new.tokens) (sym longer)

pub returns : goal.returns
returns c = λ h. c.loop-turn.invariant ∙ until_no_turn _ _ _ _ _ _ c.loop-turn-test.false
