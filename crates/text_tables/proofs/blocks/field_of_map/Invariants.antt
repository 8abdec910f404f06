use Rattle.std.proofs.Common.{◌≡◌, drop}
use Rattle.text_tables.specs.Blocks.{field_of_map}
use Rattle.text_tables.proofs.blocks.field_of_map.Given as goal

abbrev pub invariant-loop-field : goal.invariant-loop-field
invariant-loop-field l = field_of_map l.map l.fields ≡ field_of_map l.map (drop l.field-index l.fields)
