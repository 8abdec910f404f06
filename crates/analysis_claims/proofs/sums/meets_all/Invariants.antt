use Rattle.std.proofs.Common.{◌≡◌, drop}
use Rattle.analysis_query_laws.specs.Affine.{meets_all}
use Rattle.analysis_claims.proofs.sums.meets_all.Given as goal

abbrev pub invariant-loop-i : goal.invariant-loop-i
invariant-loop-i l = meets_all l.rows.rows l.form ≡ meets_all (drop l.i l.rows.rows) l.form
