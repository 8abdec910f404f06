use Rattle.std.proofs.Common.{map, ◌≡◌, ◌≢◌, ap, sym, ◌∙◌, Ok, Err}
use Rattle.syntax_grammar.specs.declared.rules.RuleFault.TheVariants.{Syntax, TooDeep, NoMemory}
use Rattle.syntax_grammar.specs.declared.ParseError.TheVariants as error
use Rattle.syntax_grammar.specs.State.{At}
use Rattle.syntax_grammar.specs.ItemRules.{items}
use Rattle.syntax_grammar.specs.View.{item as item_view}
use Rattle.syntax_parser.proofs.Cut.{at}
use Rattle.syntax_parser.proofs.Exact.{tree_answer, only_ok, only_err, syntax_answer, deep_answer, deep_not, deep_place}
use Rattle.syntax_parser.proofs.Syntax.{syntax_only}
use Rattle.syntax_parser.proofs.parse.Goals as goal
use Rattle.syntax_parser.proofs.parse.Goals.{In-Ok, After-place, After-place-in-Err-TooDeep}

read_ok : (c : In-Ok) → items (at 0 c.args.tokens.now) ≡ (Ok (map item_view c.in-Ok.items.items), c.declarations.new.tokens)
read_ok c = ap (λ (a : At). items a) (sym c.new-reader.ensures) ∙ c.in-Ok.ensures

read_syntax : (c : After-place) → items (at 0 c.args.tokens.now) ≡ (Err Syntax, c.declarations.new.tokens)
read_syntax c = let it : c.in-Err-Syntax.field-0 ≢ NoMemory = (rw c.in-Err-Syntax.field-0-is (λ e. cc)) in
    ap (λ (a : At). items a) (sym c.new-reader.ensures) ∙ c.in-Err-Syntax.ensures it ∙ ap (λ d. (Err d, c.declarations.new.tokens)) c.in-Err-Syntax.field-0-is

read_deep : (c : After-place-in-Err-TooDeep) → items (at 0 c.args.tokens.now) ≡ (Err TooDeep, c.declarations.new.tokens)
read_deep c = let it : c.in-Err-TooDeep.field-0 ≢ NoMemory = (rw c.in-Err-TooDeep.field-0-is (λ e. cc)) in
    ap (λ (a : At). items a) (sym c.new-reader.ensures) ∙ c.in-Err-TooDeep.ensures it ∙ ap (λ d. (Err d, c.declarations.new.tokens)) c.in-Err-TooDeep.field-0-is

pub returns-in-Ok-clause-answer : goal.returns-in-Ok-clause-answer
returns-in-Ok-clause-answer c = tree_answer c.args.tokens.now c.args.end (map item_view c.in-Ok.items.items) c.declarations.new.tokens (read_ok c)

pub returns-in-Ok-clause-only : goal.returns-in-Ok-clause-only
returns-in-Ok-clause-only c tree has =
    ap (λ items. record { items = items; end = c.args.end }) (only_ok c.args.tokens.now c.args.end tree (map item_view c.in-Ok.items.items) c.declarations.new.tokens has (read_ok c))
    ∙ ap (λ end. record { items = tree.items; end = end }) (sym has.ends)

pub returns-in-Err-Syntax-clause-answer : goal.returns-in-Err-Syntax-clause-answer
returns-in-Err-Syntax-clause-answer c = syntax_answer c.args.tokens.now c.args.end c.place.result c.declarations.new.tokens (read_syntax c) c.place.ensures

pub returns-in-Err-Syntax-clause-only : goal.returns-in-Err-Syntax-clause-only
returns-in-Err-Syntax-clause-only c tree has = only_err c.args.tokens.now c.args.end tree Syntax c.declarations.new.tokens has (read_syntax c)

pub returns-in-Err-TooDeep-clause-answer : goal.returns-in-Err-TooDeep-clause-answer
returns-in-Err-TooDeep-clause-answer c = deep_answer c.args.tokens.now c.args.end c.place-in-Err-TooDeep.result c.declarations.new.tokens (read_deep c) c.place-in-Err-TooDeep.ensures

pub returns-in-Err-TooDeep-clause-only : goal.returns-in-Err-TooDeep-clause-only
returns-in-Err-TooDeep-clause-only c tree has = only_err c.args.tokens.now c.args.end tree TooDeep c.declarations.new.tokens has (read_deep c)

pub returns-in-Ok-clause-deep : goal.returns-in-Ok-clause-deep
returns-in-Ok-clause-deep c place deep = deep_not c.args.tokens.now place (Ok (map item_view c.in-Ok.items.items)) c.declarations.new.tokens (λ e. cc) deep (read_ok c)

pub returns-in-Err-Syntax-clause-deep : goal.returns-in-Err-Syntax-clause-deep
returns-in-Err-Syntax-clause-deep c place deep = absurd (deep_not c.args.tokens.now place (Err Syntax) c.declarations.new.tokens (λ e. cc) deep (read_syntax c))

pub returns-in-Err-TooDeep-clause-deep : goal.returns-in-Err-TooDeep-clause-deep
returns-in-Err-TooDeep-clause-deep c place deep =
    ap (λ at. error.TooDeep at) (c.place-in-Err-TooDeep.ensures ∙ deep_place c.args.tokens.now c.args.end place c.declarations.new.tokens deep (read_deep c))

pub returns-in-Ok-clause-syntax : goal.returns-in-Ok-clause-syntax
returns-in-Ok-clause-syntax c place wrong = let h = (syntax_only c.args.tokens.now c.args.end place (Ok (map item_view c.in-Ok.items.items)) c.declarations.new.tokens wrong (read_ok c)).0 in cc

pub returns-in-Err-Syntax-clause-syntax : goal.returns-in-Err-Syntax-clause-syntax
returns-in-Err-Syntax-clause-syntax c place wrong =
    ap (λ at. error.Syntax at) (c.place.ensures ∙ (syntax_only c.args.tokens.now c.args.end place (Err Syntax) c.declarations.new.tokens wrong (read_syntax c)).1)

pub returns-in-Err-TooDeep-clause-syntax : goal.returns-in-Err-TooDeep-clause-syntax
returns-in-Err-TooDeep-clause-syntax c place wrong = let h = (syntax_only c.args.tokens.now c.args.end place (Err TooDeep) c.declarations.new.tokens wrong (read_deep c)).0 in cc
