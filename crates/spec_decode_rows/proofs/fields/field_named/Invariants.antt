use Rattle.std.proofs.Common.{◌≡◌, map, drop}
use Rattle.spec_decode_rows.specs.Fields.{field_named}
use Rattle.spec_decode_rows.specs.Views.{field}
use Rattle.spec_decode_rows.proofs.fields.field_named.Given as goal

abbrev pub invariant-loop-f : goal.invariant-loop-f
invariant-loop-f l = field_named (map field l.fields) l.name.text ≡ field_named (map field (drop l.f-index l.fields)) l.name.text
