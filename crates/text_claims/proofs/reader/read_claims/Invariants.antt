use Rattle.std.proofs.Common.{◌≡◌, ◌+◌, ◌≤◌, length}
use Rattle.spec_ir.specs.Views.{specification}
use Rattle.state_text.specs.Lines.{lines}
use Rattle.text_claims.specs.Reading.{claims_of, has_word, read, read_from}
use Rattle.text_claims.proofs.reader.read_claims.Given as goal

abbrev pub invariant-loop-rest : goal.invariant-loop-rest
invariant-loop-rest g l = record {
  value : read (g.D.ClaimElement.telling l.domain) (has_word l.image) (specification l.spec) l.bytes ≡ read_from (g.D.ClaimElement.telling l.domain) (has_word l.image) (specification l.spec) l.n (claims_of l.claims) (lines l.rest);
  count : l.n + length l.rest ≤ length l.bytes + 1;
}

abbrev pub decreases-loop-rest : goal.decreases-loop-rest
decreases-loop-rest g l = length l.rest
