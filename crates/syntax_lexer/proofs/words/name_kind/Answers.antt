use Rattle.std.proofs.Common.{◌≡◌, sym, ◌∙◌, arith}
use Rattle.syntax_lexer.specs.Lexeme as lexeme
use Rattle.syntax_lexer.proofs.Names.{capital_first}
use Rattle.syntax_lexer.proofs.words.name_kind.Goals as goal

pub returns-then-is_ascii_uppercase-clause-ok : goal.returns-then-is_ascii_uppercase-clause-ok
returns-then-is_ascii_uppercase-clause-ok c =
    let e : c.in_ok-name.name ≡ c.args.text.now = c.in_ok-name.ensures ∙ c.ascii_str.ensures in
    rw e (lexeme.upper (record { run = c.requires.run; short = omega arith; free = c.requires.free }) (capital_first c.args.text.now _ (sym c.is_ascii_uppercase.ensures.value ∙ c.if-is_ascii_uppercase.true)))

pub returns-else-is_ascii_uppercase-clause-ok : goal.returns-else-is_ascii_uppercase-clause-ok
returns-else-is_ascii_uppercase-clause-ok c =
    let e : c.in_ok-name.name ≡ c.args.text.now = c.in_ok-name.ensures ∙ c.ascii_str.ensures in
    rw e (lexeme.lower (record { run = c.requires.run; short = omega arith; free = c.requires.free }) (capital_first c.args.text.now _ (sym c.is_ascii_uppercase.ensures.value ∙ c.if-is_ascii_uppercase.false)))
