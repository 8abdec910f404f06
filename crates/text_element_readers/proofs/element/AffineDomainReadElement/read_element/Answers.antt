use Rattle.std.proofs.Common.{List, ℕ, true, length, ap, ◌∙◌}
use Rattle.semantics_values.specs.declared.entry.KeyAt.{KeyAt}
use Rattle.spec_ir.specs.Views.{specification}
use Rattle.domain_affine_laws.specs.Calls.{cell_count}
use Rattle.text_element_readers.proofs.Bodies.{rows_done, rows_fewer}
use Rattle.text_element_readers.proofs.element.AffineDomainReadElement.read_element.Goals as goal

pub returns-clause-reads : goal.returns-clause-reads
returns-clause-reads c =
    rows_done c.cell_count-k.result (cell_count c.args.self.now) (specification c.args._spec.now) (λ a. true) c.in_ok-read_rows.field-0 c.read_part.result c.args.lines.now c.read_part.new.lines c.read_rows.new.lines
    (c.cell_count-k.ensures.value ∙ ap (λ (cells : List (ℕ × KeyAt)). length cells) c.in_ok-ctx.ensures.value) c.if-not-read_part.false c.read_part.ensures c.in_ok-read_rows.ensures.cells c.in_ok-read_rows.ensures.rows
    c.in_ok-read_rows.ensures.lines

pub returns-clause-shorter : goal.returns-clause-shorter
returns-clause-shorter c = rows_fewer c.cell_count-k.result c.read_part.result _ c.args.lines.now c.read_part.new.lines c.read_rows.new.lines c.read_part.ensures c.in_ok-read_rows.ensures.lines
