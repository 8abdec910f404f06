use Rattle.std.proofs.Common.{length, arith}
use Rattle.spec_ir.specs.Views.{specification}
use Rattle.domain_laws.specs.States.{state_type}
use Rattle.analysis_query_laws.specs.Laws.{IsClaim}
use Rattle.analysis_claims.specs.Tables.{claim}
use Rattle.text_claims.proofs.Items.{each_item}
use Rattle.text_claims.proofs.answers.answers_text.Goals as goal

pub answer-requires-clause-claim : goal.answer-requires-clause-claim
answer-requires-clause-claim g c =
    each_item (IsClaim (g.D.ClaimElement.telling c.args.domain.now) (state_type (specification c.args.spec.now)).fields) claim c.args.claims.now c.loop-claim.claim-index c.claim-item.result c.claim-item.is
    c.loop-claim-test.true c.requires.claims
