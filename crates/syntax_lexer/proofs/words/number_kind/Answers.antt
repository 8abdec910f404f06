use Rattle.syntax_lexer.specs.Lexeme as lexeme
use Rattle.syntax_lexer.proofs.words.number_kind.Goals as goal

pub returns-in-Some-clause-ok : goal.returns-in-Some-clause-ok
returns-in-Some-clause-ok c = lexeme.number c.in-Some.ensures.some
