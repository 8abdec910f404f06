use Rattle.std.proofs.Common.{◌≡◌, ◌++◌, length, map, drop}
use Rattle.std.specs.Vec.Iter.{into_iter_items, into_iter_len}
use Rattle.spec_ir.specs.Views.{fun_of, signature_of}
use Rattle.spec_checker.specs.Steps.{made}
use Rattle.spec_checker.specs.Views.{form}
use Rattle.spec_checker.proofs.functions.checked_functions.Given as goal

abbrev pub invariant-loop-i : goal.invariant-loop-i
invariant-loop-i l = record {
  left_len : into_iter_len l.left ≡ length (into_iter_items l.left);
  out_is : made (map signature_of l.signatures) (map form l.fn.forms.items) l.groups
      ≡ map fun_of l.out.items ++ made (map signature_of (drop l.i l.signatures)) (map form (into_iter_items l.left)) (drop l.i l.groups);
}
