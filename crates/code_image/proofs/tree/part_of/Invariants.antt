use Rattle.std.proofs.Common.{◌≡◌, ℕ, ◌++◌, map, drop}
use Rattle.spec_ir.specs.Views.{row_of}
use Rattle.semantics.specs.Decode.{row_met}
use Rattle.code_image.specs.Tree.{bit, picked}
use Rattle.code_image.proofs.tree.part_of.Given as goal

abbrev pub invariant-loop-number : goal.invariant-loop-number
invariant-loop-number l =
    (code : ℕ) → bit code l.bit ≡ l.value → row_met code (picked (map row_of l.rows) (l.out.items ++ drop l.number-index l.group)) ≡ row_met code (picked (map row_of l.rows) l.group)
