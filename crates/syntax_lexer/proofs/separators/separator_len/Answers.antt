use Rattle.std.proofs.Common.{arith}
use Rattle.syntax_lexer.proofs.Gaps.{blank_first, comment_first}
use Rattle.syntax_lexer.proofs.separators.separator_len.Goals as goal

pub returns-in-47-clause-some : goal.returns-in-47-clause-some
returns-in-47-clause-some c = comment_first c.args.source.now c.line_len.result (omega arith) (omega arith) c.line_len.ensures

pub returns-in-len1-up-clause-some : goal.returns-in-len1-up-clause-some
returns-in-len1-up-clause-some c = blank_first c.args.source.now (grind arith)
