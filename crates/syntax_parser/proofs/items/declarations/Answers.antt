use Rattle.std.proofs.Common.{◌∙◌, ◌+◌, ◌-◌, map, ap, sym}
use Rattle.syntax_grammar.specs.View.{item as item_view}
use Rattle.syntax_grammar.specs.ItemRules.{items_from}
use Rattle.syntax_cursor.proofs.Turns.{map_more}
use Rattle.syntax_terms.proofs.Ends.{no_memory}
use Rattle.syntax_parser.proofs.Declared.{item_read, items_all, items_begin}
use Rattle.syntax_parser.proofs.items.declarations.Goals as goal

pub loop-turn-init : goal.loop-turn-init
loop-turn-init c = items_begin _ _ c.args.tokens.now c.left-turn-end.ensures (ap (λ xs. map item_view xs) c.new-found.ensures.items)

pub loop-turn-preserved : goal.loop-turn-preserved
loop-turn-preserved c =
    let longer = ap (λ xs. map item_view xs) c.in_ok-found.ensures ∙ map_more item_view _ _ in
    c.loop-turn.invariant
    ∙ item_read _ _ _ _ _ _ c.loop-turn-test.true c.in-Ok-or_drop.ensures
    ∙ ap (λ xs. items_from (c.left-turn-end.result - (c.loop-turn._turn + 1)) xs c.item.new.tokens) (sym longer)

pub returns-in_err-found : goal.returns-in_err-found
returns-in_err-found c = no_memory _ _ _ _ c.from_residual.ensures

pub returns : goal.returns
returns c = c.loop-turn.invariant ∙ items_all _ _ _ _ c.loop-turn-test.false
