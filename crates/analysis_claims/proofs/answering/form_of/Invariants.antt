use Rattle.std.proofs.Common.{◌≡◌, ◌≤◌, drop, length}
use Rattle.analysis_query_laws.specs.Answers.{form_of}
use Rattle.analysis_claims.proofs.answering.form_of.Given as goal

abbrev pub invariant-loop-left : goal.invariant-loop-left
invariant-loop-left g l = record {
  form : l.form ≡ form_of (g.D.ClaimElement.telling l.domain).tracked l.c (drop l.left l.parts);
  within : l.left ≤ length l.parts;
}

abbrev pub decreases-loop-left : goal.decreases-loop-left
decreases-loop-left g l = l.left
