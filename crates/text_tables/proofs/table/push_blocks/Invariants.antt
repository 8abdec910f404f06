use Rattle.std.proofs.Common.{drop}
use Rattle.std.specs.String.{string_bytes}
use Rattle.spec_ir.specs.Views.{specification}
use Rattle.fixpoint_theory.specs.Views.{listings}
use Rattle.text_tables.proofs.Blocking.{Left}
use Rattle.text_tables.proofs.table.push_blocks.Given as goal

abbrev pub invariant-loop-at : goal.invariant-loop-at
invariant-loop-at g l =
    Left (g.D.WriteElement.IsText (specification l.spec)) (specification l.spec) (listings (λ x. x) l.table) l.addresses (drop l.at-index l.addresses) (string_bytes l.fn.out) (string_bytes l.out)
