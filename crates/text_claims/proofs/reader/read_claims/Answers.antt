use Rattle.std.proofs.Common.{◌≡◌, ◌∙◌, length, rules, arith}
use Rattle.std.proofs.lemmas.Grind.{common_steps}
use Rattle.spec_ir.specs.Views.{specification}
use Rattle.text_claims.specs.Reading.{claims_of, has_word}
use Rattle.text_claims.proofs.Fitting.{nothing_left, read_claims_fit}
use Rattle.text_claims.proofs.reader.read_claims.Goals as goal

pub returns-clause-claims : goal.returns-clause-claims
returns-clause-claims g c =
    let K = g.D.ClaimElement.telling c.args.domain.now in
    let code = has_word c.args.image.now in
    let spec = specification c.args.spec.now in
    let empty : length c.loop-rest.rest.now ≡ 0 = first_of (grind (arith, common_steps), search rules) in
    read_claims_fit K code spec c.args.bytes.now (claims_of c.loop-rest.claims) (c.loop-rest.invariant.value ∙ nothing_left K code spec c.loop-rest.n (claims_of c.loop-rest.claims) c.loop-rest.rest.now empty)
