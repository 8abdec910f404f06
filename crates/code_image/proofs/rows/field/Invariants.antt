use Rattle.std.proofs.Common.{◌≡◌, drop}
use Rattle.std.specs.Prelude.{slice_get}
use Rattle.semantics.specs.Decode.{fields_in}
use Rattle.code_image.proofs.rows.field.Given as goal

abbrev pub invariant-loop-i : goal.invariant-loop-i
invariant-loop-i l = slice_get (fields_in l.word l.parts) l.number ≡ slice_get (fields_in l.word (drop l.i l.parts)) l.left
