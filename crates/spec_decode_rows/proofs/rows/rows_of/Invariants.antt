use Rattle.std.proofs.Common.{◌≡◌, map, drop}
use Rattle.syntax_parser.specs.View.{item}
use Rattle.spec_decode_rows.specs.Rows.{rows_of}
use Rattle.spec_decode_rows.proofs.rows.rows_of.Given as goal

abbrev pub invariant-loop-item : goal.invariant-loop-item
invariant-loop-item l = rows_of (map item l.tree.items.items) ≡ rows_of (map item (drop l.item-index l.tree.items.items))
