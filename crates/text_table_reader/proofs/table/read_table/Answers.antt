use Rattle.std.proofs.Common.{inr}
use Rattle.std.specs.List.{list_all}
use Rattle.std.proofs.lemmas.Bool.{and_parts}
use Rattle.spec_ir.specs.Views.{specification}
use Rattle.domain_laws.specs.States.{is_field, is_state_data, state_cases, state_type}
use Rattle.support_command_line.specs.Bases.{base_text}
use Rattle.text_lines.specs.Lines.{lines}
use Rattle.text_table_reader.proofs.FaultsFound.{behind_the_head, in_the_head}
use Rattle.text_table_reader.proofs.table.read_table.Goals as goal

pub returns-in-Err-At-clause-error : goal.returns-in-Err-At-clause-error
returns-in-Err-At-clause-error g c =
    let stopped = rw c.in-Err-At.field-0-is at c.in-Err-At.ensures in
    let head = rw c.name.ensures at stopped in
    let count = rw c.in-Err-At.field-0-is at c.count_lines.ensures in
    let is = rw c.in-Err-At.field-0-is at c.error_in.ensures in
    inr (in_the_head (g.D.ReadElement.Reads c.args.domain.now) (g.D.ReadElement.word_in c.args.domain.now) (specification c.args.spec.now) (base_text c.args.base) c.args.image.now c.args.bytes.now c.count_lines.result c.error_in.result
    c.in-Err-At.rule (lines c.in-Err-At.left.now) head count is)

pub fields_of-requires : goal.fields_of-requires
fields_of-requires g c =
    let spec = specification c.args.spec.now in
    record { right = (and_parts (is_state_data (state_cases spec spec.machine)) (list_all is_field (state_type spec).fields) c.requires.states).1 }

pub returns-clause-error : goal.returns-clause-error
returns-clause-error g c =
    let head = rw c.name.ensures at c.in-Ok.ensures in
    let read = rw (c.in-None.is, c.new-left.ensures) at c.in_ok-table.ensures.read in
    inr (behind_the_head (g.D.ReadElement.Reads c.args.domain.now) (g.D.ReadElement.word_in c.args.domain.now) (specification c.args.spec.now) (base_text c.args.base) c.args.image.now c.args.bytes.now c.count.result c.error_in-in-None.result
    (lines c.in-Ok.rest.now) c.read_blocks.new.lines head read c.count.ensures c.error_in-in-None.ensures)
