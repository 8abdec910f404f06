use Rattle.std.proofs.Common.{◌≡◌, drop}
use Rattle.text_claims.specs.Reading.{are_tracked}
use Rattle.text_claims.proofs.reader.are_tracked.Given as goal

abbrev pub invariant-loop-part : goal.invariant-loop-part
invariant-loop-part g l = are_tracked (g.D.ClaimElement.telling l.domain) l.parts ≡ are_tracked (g.D.ClaimElement.telling l.domain) (drop l.part-index l.parts)
