use Rattle.std.proofs.Common.{refl}
use Rattle.std.proofs.lemmas.Bool.{false≢true}
use Rattle.spec_ir.specs.Views.{specification}
use Rattle.fixpoint_theory.specs.Views.{listing}
use Rattle.fixpoint_open_tables.specs.Endings.{ends_in}
use Rattle.text_table_reader.specs.Ends.{is_word_of}
use Rattle.text_table_reader.proofs.BlocksSoFar.{begun, ending_put, listed_in, no_endings, none_to_come, none_yet, one_more, one_put, to_a_fault, to_the_end}
use Rattle.text_table_reader.proofs.table.read_blocks.Goals as goal

pub lines-init : goal.lines-init
lines-init g c =
    begun (g.D.ReadElement.Reads c.args.domain.now) (g.D.ReadElement.word_in c.args.domain.now) (specification c.args.at.now.spec.now) (is_word_of c.args.at.now.image.now) (λ x. (g.D.Domain.elements c.args.domain.now).fits (g.D.Domain.view x)) c.args.lines.now
    (listed_in c.new-blocks.result) (ends_in c.new-endings.result) (none_yet c.new-blocks.result c.new-blocks.ensures.empty) (no_endings c.new-endings.result c.new-endings.ensures)

pub lines-preserved : goal.lines-preserved
lines-preserved g c =
    let Reads = g.D.ReadElement.Reads c.args.domain.now in
    let word_in = g.D.ReadElement.word_in c.args.domain.now in
    let spec = specification c.args.at.now.spec.now in
    let is_word = is_word_of c.args.at.now.image.now in
    let read = rw c.in-Ok-Some.field-0-is at c.in-Ok-Some.ensures.block in
    let fits = rw c.in-Ok-Some.field-0-is at c.in-Ok-Some.ensures.fits in
    let least = rw c.in-Ok-Some.field-0-is at c.in-Ok-Some.ensures.least in
    let nothing = none_to_come Reads word_in spec is_word (λ x. (g.D.Domain.elements c.args.domain.now).fits (g.D.Domain.view x)) c.args.lines.now c.lines.low c.lines.lines (listed_in c.lines.blocks) (ends_in c.lines.endings) c.lines.invariant
    c.in-Ok-Some.found.address least in
    rw c.from-low.ensures
    (one_more Reads word_in spec is_word (λ x. (g.D.Domain.elements c.args.domain.now).fits (g.D.Domain.view x)) c.args.lines.now
    c.lines.low c.lines.lines (listed_in c.lines.blocks) (ends_in c.lines.endings) c.lines.invariant
    c.in-Ok-Some.found.address (listing (λ x. x) c.in-Ok-Some.found.block) c.in-Ok-Some.found.ending c.read_block.new.lines (listed_in c.put_block.new.blocks) (ends_in c.add_ending.new.endings) read least
    (one_put c.lines.blocks c.put_block.new.blocks c.in-Ok-Some.found.address c.in-Ok-Some.found.block c.in_ok-put_block-in-Ok-Some.ensures)
    (ending_put c.lines.endings c.add_ending.new.endings c.in-Ok-Some.found.address c.in-Ok-Some.found.ending c.in_ok-add_ending-in-Ok-Some.ensures nothing) fits.0 fits.1)

pub returns-in-Ok-None-clause-read : goal.returns-in-Ok-None-clause-read
returns-in-Ok-None-clause-read g c =
    let read = rw c.in-Ok-None.field-0-is at c.in-Ok-None.ensures.block in
    to_a_fault (g.D.ReadElement.Reads c.args.domain.now) (g.D.ReadElement.word_in c.args.domain.now) (specification c.args.at.now.spec.now) (is_word_of c.args.at.now.image.now) (λ x. (g.D.Domain.elements c.args.domain.now).fits (g.D.Domain.view x)) c.args.lines.now
    c.lines.low c.lines.lines (listed_in c.lines.blocks) (ends_in c.lines.endings) c.lines.invariant c.read_block.new.lines (λ e. false≢true (c.lines-test.ensures.1 e)) read

pub returns-clause-read : goal.returns-clause-read
returns-clause-read g c =
    to_the_end (g.D.ReadElement.Reads c.args.domain.now) (g.D.ReadElement.word_in c.args.domain.now) (specification c.args.at.now.spec.now) (is_word_of c.args.at.now.image.now) (λ x. (g.D.Domain.elements c.args.domain.now).fits (g.D.Domain.view x)) c.args.lines.now
    c.lines.low c.lines.lines (listed_in c.lines.blocks) (ends_in c.lines.endings) c.lines.invariant (c.lines-test.ensures.0 refl)
