use Rattle.std.proofs.Common.{◌≡◌, map, take}
use Rattle.semantics_values.specs.Views.{val}
use Rattle.semantics.specs.Decode.{argument_of, fields_in}
use Rattle.code_image.proofs.rows.build_instruction.Given as goal

abbrev pub invariant-loop-arg : goal.invariant-loop-arg
invariant-loop-arg l = map val l.parts.items ≡ map (argument_of (fields_in l.word l.row.parts.items)) (take l.arg-index l.row.args.items)
