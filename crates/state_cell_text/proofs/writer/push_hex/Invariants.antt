use Rattle.std.proofs.Common.{◌≡◌, ◌-◌, ◌++◌}
use Rattle.std.specs.String.{string_bytes}
use Rattle.state_cell_text.specs.Digits.{hex_digits}
use Rattle.state_cell_text.proofs.writer.push_hex.Given as goal

abbrev pub invariant-loop-i : goal.invariant-loop-i
invariant-loop-i l = string_bytes l.fn.out ++ hex_digits l.count l.value ≡ string_bytes l.out ++ hex_digits (l.count - l.i) l.value
