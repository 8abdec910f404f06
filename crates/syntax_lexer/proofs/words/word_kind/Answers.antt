use Rattle.std.proofs.Common.{◌≡◌, ◌≢◌, rules}
use Rattle.std.specs.Prelude.{codes}
use Rattle.syntax_lexer.specs.Lexeme as lexeme
use Rattle.syntax_lexer.specs.declared.token.Mark.TheVariants.{Underscore}
use Rattle.syntax_lexer.proofs.Lexemes.{free_word}
use Rattle.syntax_lexer.proofs.words.word_kind.Goals as goal

pub returns-then-eq-clause-ok : goal.returns-then-eq-clause-ok
returns-then-eq-clause-ok c = let e : c.args.text.now ≡ codes "_" = search rules in rw e (lexeme.mark Underscore)

pub returns-in-Some-clause-ok : goal.returns-in-Some-clause-ok
returns-in-Some-clause-ok c = rw c.in-Some.ensures.some (lexeme.keyword c.in-Some.keyword)

pub name_kind-requires-clause-free : goal.name_kind-requires-clause-free
name_kind-requires-clause-free c = let apart : c.args.text.now ≢ codes "_" = search rules in free_word c.args.text.now c.requires apart c.in_default.ensures.none
