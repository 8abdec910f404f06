use Rattle.std.proofs.Common.{◌≡◌, ◌++◌, drop, filter_map}
use Rattle.spec_declarations.specs.Leaves.{data_number}
use Rattle.spec_declarations.proofs.contents.hold.Given as goal

abbrev pub invariant-loop-field : goal.invariant-loop-field
invariant-loop-field l = l.held.items ++ filter_map data_number (drop l.field-index l.fields) ≡ l.initial.held.items ++ filter_map data_number l.fields
