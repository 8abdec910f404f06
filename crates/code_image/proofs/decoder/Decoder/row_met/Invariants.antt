use Rattle.std.proofs.Common.{◌≡◌, drop}
use Rattle.spec_ir.specs.Views.{specification}
use Rattle.semantics.specs.Decode.{row_met}
use Rattle.code_image.specs.Tree.{picked}
use Rattle.code_image.proofs.decoder.Decoder.row_met.Given as goal

abbrev pub invariant-loop-number : goal.invariant-loop-number
invariant-loop-number l = row_met l.word (specification l.spec).rows ≡ row_met l.word (picked (specification l.spec).rows (drop l.number-index l.number-items))
