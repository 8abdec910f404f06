use Rattle.std.proofs.Common.{length}
use Rattle.spec_ir.specs.Views.{specification}
use Rattle.fixpoint_theory.specs.Views.{listings}
use Rattle.fixpoint_open_tables.specs.Endings.{ends_in}
use Rattle.text_table_reader.specs.Ends.{is_word_of}
use Rattle.text_table_reader.proofs.BlocksSoFar.{SoFar}
use Rattle.text_table_reader.proofs.table.read_blocks.Given as goal

abbrev pub invariant-lines : goal.invariant-lines
invariant-lines g l =
    SoFar (g.D.ReadElement.Reads l.domain) (g.D.ReadElement.word_in l.domain) (specification l.at.spec.now) (is_word_of l.at.image.now) (λ x. (g.D.Domain.elements l.domain).fits (g.D.Domain.view x)) l.fn.lines l.low l.lines
    (listings (λ x. x) (record { blocks = l.blocks })) (ends_in l.endings)

abbrev pub decreases-lines : goal.decreases-lines
decreases-lines g l = length l.lines
