use Rattle.std.proofs.Common.{drop}
use Rattle.std.specs.String.{string_bytes}
use Rattle.spec_ir.specs.Views.{specification}
use Rattle.fixpoint_theory.specs.Views.{listings}
use Rattle.fixpoint_open_tables.specs.Endings.{ends_in}
use Rattle.text_tables.proofs.OpenBlocking.{Left}
use Rattle.text_tables.proofs.left_open.push_blocks.Given as goal

abbrev pub invariant-loop-at : goal.invariant-loop-at
invariant-loop-at g l =
    Left g.D.WriteElement.word_text (g.D.WriteElement.IsText (specification l.spec)) (specification l.spec) (listings (λ x. x) l.table) (ends_in l.endings) l.addresses (drop l.at-index l.addresses) (string_bytes l.fn.out) (string_bytes l.out)
