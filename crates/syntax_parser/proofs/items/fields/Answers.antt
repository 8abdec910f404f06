use Rattle.std.proofs.Common.{◌≡◌, ◌∙◌, ◌+◌, ◌-◌, ◌++◌, ◌∷◌, [], map, true, false, Ok, ap, sym}
use Rattle.syntax_lexer.specs.declared.token.Mark.TheVariants as m
use Rattle.syntax_grammar.specs.Parsing.{eat}
use Rattle.syntax_grammar.specs.Lists.{separated_from}
use Rattle.syntax_grammar.specs.ItemRules.{field}
use Rattle.syntax_terms.proofs.Ends.{no_memory}
use Rattle.syntax_terms.proofs.Items.{item_failed, item_last, item_more, no_item, separated_begins}
use Rattle.syntax_parser.proofs.items.fields.Goals as goal

pub loop-turn-init : goal.loop-turn-init
loop-turn-init c = separated_begins _ _ _ _ _ c.args.tokens.now c.left-turn-end.ensures c.new-found.ensures.items

pub returns-in-loop-turn : goal.returns-in-loop-turn
returns-in-loop-turn c = λ h. c.loop-turn.invariant ∙ item_failed _ _ _ _ _ _ _ _ c.loop-turn-test.true (c.in-Err-or_drop.ensures h)

pub returns-in_err-found : goal.returns-in_err-found
returns-in_err-found c = no_memory _ _ _ _ c.from_residual.ensures

pub returns-then-not-eat : goal.returns-then-not-eat
returns-then-not-eat c =
    let eats : eat m.Comma c.field.new.tokens ≡ (Ok false, c.eat.new.self) = c.eat.ensures ∙ ap (λ r. (Ok r, c.eat.new.self)) c.if-not-eat.true in
    let longer = c.in_ok-found.ensures in
    c.loop-turn.invariant ∙ item_last _ _ _ _ _ _ _ _ _ c.loop-turn-test.true c.in-Ok-or_drop.ensures eats ∙ ap (λ xs. (Ok xs, c.eat.new.self)) (sym longer)

pub loop-turn-preserved : goal.loop-turn-preserved
loop-turn-preserved c =
    let eats : eat m.Comma c.field.new.tokens ≡ (Ok true, c.eat.new.self) = c.eat.ensures ∙ ap (λ r. (Ok r, c.eat.new.self)) c.if-not-eat.false in
    let longer = c.in_ok-found.ensures in
    c.loop-turn.invariant
    ∙ item_more _ _ _ _ _ _ _ _ _ c.loop-turn-test.true c.in-Ok-or_drop.ensures eats
    ∙ ap (λ xs. separated_from field m.Comma (c.left-turn-end.result - (c.loop-turn._turn + 1)) xs c.eat.new.self) (sym longer)

pub returns : goal.returns
returns c = λ h. c.loop-turn.invariant ∙ no_item _ _ _ _ _ _ c.loop-turn-test.false
