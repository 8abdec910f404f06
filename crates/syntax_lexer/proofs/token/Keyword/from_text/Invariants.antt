use Rattle.std.proofs.Common.{◌≡◌, ◌<◌, ℕ, get_or}
use Rattle.syntax_lexer.specs.Lexeme.{keyword_text}
use Rattle.syntax_lexer.specs.declared.token.Keyword.TheVariants.{KwType}
use Rattle.syntax_lexer.proofs.token.Keyword.from_text.Given as goal

abbrev pub invariant-loop-keyword : goal.invariant-loop-keyword
invariant-loop-keyword l = (k : ℕ) → k < l.keyword-index → l.text ≡ keyword_text (get_or l.keyword-items k KwType) → ⊥
