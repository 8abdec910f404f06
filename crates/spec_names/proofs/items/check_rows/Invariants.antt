use Rattle.std.proofs.Common.{◌≡◌, map, drop}
use Rattle.syntax_parser.specs.View.{row}
use Rattle.spec_names.specs.Names.{rows_fault}
use Rattle.spec_names.proofs.items.check_rows.Given as goal

abbrev pub invariant-loop-n : goal.invariant-loop-n
invariant-loop-n l = rows_fault 0 (map row l.rows) ≡ rows_fault l.n (map row (drop l.n l.rows))
