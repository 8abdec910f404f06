use Rattle.std.proofs.Common.{◌≡◌, map, take}
use Rattle.spec_ir.specs.Views.{row_of}
use Rattle.code_image.specs.Tree.{picked}
use Rattle.code_image.proofs.tree.all_rows.Given as goal

abbrev pub invariant-loop-i : goal.invariant-loop-i
invariant-loop-i l = picked (map row_of l.rows) l.out.items ≡ take l.i (map row_of l.rows)
