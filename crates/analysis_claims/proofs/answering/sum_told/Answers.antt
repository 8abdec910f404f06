use Rattle.std.proofs.Common.{◌∙◌, ap, length}
use Rattle.analysis_claims.proofs.Forms.{form_many}
use Rattle.analysis_claims.proofs.answering.sum_told.Goals as goal

pub meets-requires-clause-form : goal.meets-requires-clause-form
meets-requires-clause-form g c = ap length c.in_ok-form.ensures ∙ form_many (g.D.ClaimElement.telling c.args.domain.now).tracked c.args.c c.args.parts.now
