use Rattle.std.proofs.Common.{◌≡◌, drop}
use Rattle.semantics.specs.Decode.{agrees}
use Rattle.code_image.proofs.rows.agrees.Given as goal

abbrev pub invariant-loop-i : goal.invariant-loop-i
invariant-loop-i l = agrees l.word l.parts ≡ agrees l.word (drop l.i l.parts)
