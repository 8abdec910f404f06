use Rattle.std.proofs.Common.{◌∙◌}
use Rattle.text_lines.specs.Lines.{lines}
use Rattle.text_table_reader.specs.Heads.{read_codes}
use Rattle.text_table_reader.proofs.CodeLines.{code_read, code_stopped}
use Rattle.text_table_reader.proofs.head.read_codes.Goals as goal

pub returns-in-Err : goal.returns-in-Err
returns-in-Err c =
    code_stopped c.args.image.now.segments c.loop-i.i c.base_at.result c.words_at.result c.base_at.ensures c.words_at.ensures (lines c.loop-i.rest.now)
    (read_codes c.args.image.now.segments (lines c.args.text.now)) c.as_bytes.result.now c.loop-i.invariant (c.as_bytes.ensures.value ∙ c.in_ok-wanted.ensures) c.in-Err.stop c.in-Err.ensures

pub loop-i-preserved : goal.loop-i-preserved
loop-i-preserved c =
    code_read c.args.image.now.segments c.loop-i.i c.base_at.result c.words_at.result c.base_at.ensures c.words_at.ensures (lines c.loop-i.rest.now)
    (read_codes c.args.image.now.segments (lines c.args.text.now)) c.as_bytes.result.now c.loop-i.invariant (c.as_bytes.ensures.value ∙ c.in_ok-wanted.ensures) c.in-Ok.behind c.in-Ok.ensures
