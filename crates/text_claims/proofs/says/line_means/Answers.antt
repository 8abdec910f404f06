use Rattle.std.proofs.Common.{arith}
use Rattle.spec_ir.specs.Views.{specification}
use Rattle.text_claims.proofs.Words.{one_word}
use Rattle.text_claims.proofs.says.line_means.Goals as goal

pub returns-in-len1 : goal.returns-in-len1
returns-in-len1 c = one_word (specification c.args.spec.now) c.args.words.now c.in-len1.len_below
