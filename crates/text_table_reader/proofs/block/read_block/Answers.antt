use Rattle.std.proofs.Common.{◌≤◌, length, arith}
use Rattle.spec_ir.specs.Views.{specification}
use Rattle.text_table_reader.specs.Ends.{is_word_of}
use Rattle.text_table_reader.specs.Views.{end_of}
use Rattle.text_table_reader.proofs.BlockSteps.{left_shorter, not_read, not_there, whole}
use Rattle.text_table_reader.proofs.block.read_block.Goals as goal

pub returns-in_default-clause-block : goal.returns-in_default-clause-block
returns-in_default-clause-block g c =
    not_there (g.D.ReadElement.Reads c.args.domain.now) (g.D.ReadElement.word_in c.args.domain.now) (specification c.args.at.now.spec.now) (is_word_of c.args.at.now.image.now) c.args.low c.args.lines.now
    c.read_at.new.lines c.in_default.ensures.value c.in_default.ensures.kept

pub returns-in_default-2-clause-block : goal.returns-in_default-2-clause-block
returns-in_default-2-clause-block g c =
    not_read (g.D.ReadElement.Reads c.args.domain.now) (g.D.ReadElement.word_in c.args.domain.now) (specification c.args.at.now.spec.now) (is_word_of c.args.at.now.image.now) c.args.low c.args.lines.now
    c.in-Some.address c.read_at.new.lines c.in-Some.ensures.value c.read_element.new.lines c.in_ok-elem.field-0 c.in_default-2.is c.in_ok-elem.ensures.reads

pub returns-clause-block : goal.returns-clause-block
returns-clause-block g c =
    whole (g.D.ReadElement.Reads c.args.domain.now) (g.D.ReadElement.word_in c.args.domain.now) (specification c.args.at.now.spec.now) (is_word_of c.args.at.now.image.now) c.args.low c.args.lines.now
    c.in-Some.address c.read_at.new.lines c.in-Some.ensures.value c.read_element.new.lines c.read_ending.new.lines c.in_ok-elem.field-0 c.in-Some-2.elem (end_of c.in_ok-end.end c.read_end.new.lines) c.in_ok-ending.ending
    c.in-Some-2.is c.in_ok-elem.ensures.reads c.in_ok-end.ensures c.in_ok-ending.ensures.value

pub returns-clause-shorter : goal.returns-clause-shorter
returns-clause-shorter g c =
    let last : length c.read_end.new.lines ≤ length c.read_element.new.lines =
    left_shorter (specification c.args.at.now.spec.now) (is_word_of c.args.at.now.image.now) (end_of c.in_ok-end.end c.read_end.new.lines) c.read_element.new.lines c.in_ok-end.ensures in
    omega (arith, last, c.in_ok-ending.ensures.shorter, c.in_ok-elem.ensures.shorter, c.in-Some.ensures.shorter)
