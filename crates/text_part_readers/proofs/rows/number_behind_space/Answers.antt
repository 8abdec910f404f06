use Rattle.std.proofs.Common.{sym}
use Rattle.text_part_readers.proofs.RowSteps.{short_front}
use Rattle.text_part_readers.proofs.rows.number_behind_space.Goals as goal

pub returns-then-front-lt8 : goal.returns-then-front-lt8
returns-then-front-lt8 c = short_front c.args.text.now c.in_ok-front.front.now (sym c.in_ok-front.ensures) c.if-front-lt8.true
