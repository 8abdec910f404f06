use Rattle.std.proofs.Common.{◌≡◌, ◌<◌, ◌++◌, List, ℕ, get_or}
use Rattle.syntax_lexer.specs.Lexeme.{mark_text}
use Rattle.syntax_lexer.specs.declared.token.Mark.TheVariants.{LParen}
use Rattle.syntax_lexer.proofs.token.Mark.at_start.Given as goal

abbrev pub invariant-loop-mark : goal.invariant-loop-mark
invariant-loop-mark l = (k : ℕ) (rest : List ℕ) → k < l.mark-index → l.source ≡ mark_text (get_or l.mark-items k LParen) ++ rest → ⊥
