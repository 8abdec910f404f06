use Rattle.std.proofs.Common.{◌≡◌, drop}
use Rattle.text_lines.specs.Lines.{lines}
use Rattle.text_table_reader.specs.Heads.{read_codes}
use Rattle.text_table_reader.proofs.head.read_codes.Given as goal

abbrev pub invariant-loop-i : goal.invariant-loop-i
invariant-loop-i l = read_codes l.image.segments (lines l.text) ≡ read_codes (drop l.i l.image.segments) (lines l.rest)
