use Rattle.std.proofs.Common.{◌++◌, ap, sym, ◌∙◌, arith}
use Rattle.syntax_lexer.specs.Lexeme.{mark_text}
use Rattle.syntax_lexer.proofs.Tables.{mark_place, longest_at}
use Rattle.syntax_lexer.proofs.token.Mark.at_start.Goals as goal

pub returns-clause-none : goal.returns-clause-none
returns-clause-none c = λ m rest e. let place = mark_place m in c.loop-mark.invariant place.0 rest (omega (arith, place.1)) (e ∙ ap (λ m. mark_text m ++ rest) (sym place.2))

pub returns-then-starts_with-clause-longest : goal.returns-then-starts_with-clause-longest
returns-then-starts_with-clause-longest c = longest_at c.args.source.now c.loop-mark.mark-index c.loop-mark.invariant
