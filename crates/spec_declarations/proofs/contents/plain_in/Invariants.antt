use Rattle.std.proofs.Common.{◌≡◌, drop}
use Rattle.spec_declarations.specs.Counts.{plain_fields}
use Rattle.spec_declarations.proofs.contents.plain_in.Given as goal

abbrev pub invariant-loop-field : goal.invariant-loop-field
invariant-loop-field l = plain_fields l.count (drop l.field-index l.fields) ≡ plain_fields l.fn.before l.fields
