use Rattle.std.specs.Prelude.{codes}
use Rattle.text_tables.specs.Heads.{first_lines}
use Rattle.text_tables.proofs.Three.{three_out}
use Rattle.text_tables.proofs.head.push_first.Goals as goal

pub returns : goal.returns
unfolding first_lines
returns c = three_out _ _ _ _ (codes "tsl-table 2\nbase ") c.args.base.now (codes "\n") c.in_ok-push_str.ensures.bytes c.in_ok-push_str-2.ensures.bytes c.in_ok-push_str-3.ensures.bytes
