use Rattle.std.proofs.Common.{◌≡◌, drop}
use Rattle.spec_ir.specs.Views.{specification}
use Rattle.text_claims.specs.Sums.{nothing, sum_from}
use Rattle.text_claims.specs.Views.{borrowed, sum_of}
use Rattle.text_claims.proofs.sums.sum_of.Given as goal

abbrev pub invariant-loop-word : goal.invariant-loop-word
invariant-loop-word l = sum_from (specification l.spec) nothing (borrowed l.words) ≡ sum_from (specification l.spec) (sum_of l.sum) (borrowed (drop l.word-index l.words))
