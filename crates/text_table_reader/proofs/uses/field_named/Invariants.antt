use Rattle.std.proofs.Common.{◌≡◌, drop}
use Rattle.text_table_reader.specs.Ends.{field_named}
use Rattle.text_table_reader.proofs.uses.field_named.Given as goal

abbrev pub invariant-loop-field : goal.invariant-loop-field
invariant-loop-field l = field_named l.name l.fields ≡ field_named l.name (drop l.field-index l.fields)
