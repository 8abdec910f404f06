use Rattle.std.proofs.Common.{◌≡◌, drop}
use Rattle.analysis_query_laws.specs.Answers.{column_of}
use Rattle.analysis_claims.proofs.Columns.{shifted}
use Rattle.analysis_claims.proofs.sums.column_of.Given as goal

abbrev pub invariant-loop-i : goal.invariant-loop-i
invariant-loop-i l = column_of l.cells l.field l.key ≡ shifted l.i (column_of (drop l.i l.cells) l.field l.key)
