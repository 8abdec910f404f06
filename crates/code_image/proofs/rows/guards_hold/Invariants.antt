use Rattle.std.proofs.Common.{◌≡◌, drop}
use Rattle.std.specs.List.{list_all}
use Rattle.semantics.specs.Decode.{fields_in, guard_holds}
use Rattle.code_image.proofs.rows.guards_hold.Given as goal

abbrev pub invariant-loop-guard : goal.invariant-loop-guard
invariant-loop-guard l = list_all (guard_holds (fields_in l.word l.parts)) l.guards ≡ list_all (guard_holds (fields_in l.word l.parts)) (drop l.guard-index l.guards)
