use Rattle.std.proofs.Common.{◌≡◌, ◌++◌, drop, map}
use Rattle.std.specs.String.{string_bytes}
use Rattle.fixpoint_theory.specs.Views.{listings}
use Rattle.analysis_claims.specs.Tables.{claim}
use Rattle.text_claims.specs.Answers.{answers}
use Rattle.text_claims.proofs.answers.answers_text.Given as goal

abbrev pub invariant-loop-claim : goal.invariant-loop-claim
invariant-loop-claim g l =
    answers (g.D.ClaimElement.telling l.domain) (listings (λ e. e) l.table) (map claim l.claims)
    ≡ string_bytes l.out ++ answers (g.D.ClaimElement.telling l.domain) (listings (λ e. e) l.table) (map claim (drop l.claim-index l.claims))
