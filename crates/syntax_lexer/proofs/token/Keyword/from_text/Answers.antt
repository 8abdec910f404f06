use Rattle.std.proofs.Common.{ap, sym, ◌∙◌, arith}
use Rattle.syntax_lexer.specs.Lexeme.{keyword_text}
use Rattle.syntax_lexer.proofs.Tables.{keyword_place}
use Rattle.syntax_lexer.proofs.token.Keyword.from_text.Goals as goal

pub returns-clause-none : goal.returns-clause-none
returns-clause-none c = λ w e. let place = keyword_place w in c.loop-keyword.invariant place.0 (omega (arith, place.1)) (e ∙ ap keyword_text (sym place.2))
