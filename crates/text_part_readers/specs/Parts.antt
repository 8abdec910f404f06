-- The line in front of a part of an element.
use Rattle.std.specs.Prelude.{ℕ, List, Option, Some, None, bytes_eq, codes, if◌then◌else◌}
use Rattle.std.specs.Option.{option_and_then}
use Rattle.text_words.specs.Reading.{behind}
use Rattle.text_lines.specs.Lines.{Lines}
use Rattle.text_lines.specs.Outcomes.{Reading, one, then_read}

-- `part NAME`
abbrev pub part_said : List ℕ → List ℕ → Option (Unit {0})
part_said name line = option_and_then (λ rest. if bytes_eq rest name then Some tt else None) (behind (codes "part ") line)

abbrev pub part_read : {X : Type 0} → List ℕ → (Lines → Reading X) → Lines → Reading X
part_read name read ls = then_read (one (part_said name) ls) (λ named others. read others)
