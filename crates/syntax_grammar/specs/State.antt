-- Where a parser stands.
use Rattle.std.specs.Prelude.{ℕ, List}
use Rattle.syntax_lexer.specs.declared.token.Token.{Token}

pub record At : Type 0 where
  -- the level so far of the innermost term or pattern that is open
  pub level : ℕ
  -- the tokens that are left
  pub rest : List Token
