use Rattle.std.proofs.Common.{sym, ◌∙◌}
use Rattle.base_trait.specs.Uses.{seen}
use Rattle.text_table_reader.proofs.LastUse.{behind_last}
use Rattle.text_table_reader.proofs.uses.is_use_behind.Goals as goal

pub returns-in-Some : goal.returns-in-Some
returns-in-Some c = c.is_cell_before.ensures ∙ behind_last c.args.fields.now c.args.uses.now c.in-Some.last.now (seen c.args.of.now) (sym c.in-Some.ensures.value)
