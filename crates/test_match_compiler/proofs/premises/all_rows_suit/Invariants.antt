use Rattle.std.proofs.Common.{◌≡◌, map, drop}
use Rattle.test_match_compiler.specs.Premises.{rows_fit}
use Rattle.spec_match_compiler.specs.Views.{types, pat}
use Rattle.test_match_compiler.proofs.premises.all_rows_suit.Given as goal

abbrev pub invariant-loop-row : goal.invariant-loop-row
invariant-loop-row l = rows_fit (types l.sig) l.shape (map pat (drop l.row-index l.rows)) ≡ rows_fit (types l.sig) l.shape (map pat l.rows)
