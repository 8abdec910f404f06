use Rattle.std.proofs.Common.{◌≡◌, ◌++◌, drop}
use Rattle.std.specs.String.{string_bytes}
use Rattle.text_slices.specs.Writing.{address_lines}
use Rattle.text_slices.proofs.writer.push_addresses.Given as goal

abbrev pub invariant-loop-at : goal.invariant-loop-at
invariant-loop-at l = string_bytes l.fn.out ++ address_lines l.addresses ≡ string_bytes l.out ++ address_lines (drop l.at-index l.addresses)
