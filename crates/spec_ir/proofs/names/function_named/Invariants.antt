use Rattle.std.proofs.Common.{◌≡◌, map, drop}
use Rattle.spec_ir.specs.Environment.{function_from}
use Rattle.spec_ir.specs.Views.{signature_of}
use Rattle.spec_ir.proofs.names.function_named.Given as goal

abbrev pub invariant-loop-fun : goal.invariant-loop-fun
invariant-loop-fun l = function_from 0 (map signature_of l.signature-items) l.name ≡ function_from l.fun (map signature_of (drop l.fun l.signature-items)) l.name
