use Rattle.std.proofs.Common.{◌≡◌, ◌++◌, true, length, map, drop}
use Rattle.std.specs.List.{list_all}
use Rattle.syntax_parser.specs.View.{function}
use Rattle.spec_ir.specs.Views.{signature_of}
use Rattle.spec_ir.specs.WellFormed.{is_signature}
use Rattle.spec_checker.specs.Functions.{bodies_fault, forms_of}
use Rattle.spec_checker.specs.Views.{form}
use Rattle.spec_checker.proofs.bodies.check_bodies.Given as goal

abbrev pub invariant-loop-i : goal.invariant-loop-i
invariant-loop-i l = record {
  faults : bodies_fault l.environment (map (λ f. function f.now) l.functions) (map signature_of l.signatures)
      ≡ bodies_fault l.environment (map (λ f. function f.now) (drop l.i l.functions)) (map signature_of (drop l.i l.signatures));
  out_is : forms_of l.environment (map (λ f. function f.now) l.functions) (map signature_of l.signatures)
      ≡ map form l.out.items ++ forms_of l.environment (map (λ f. function f.now) (drop l.i l.functions)) (map signature_of (drop l.i l.signatures));
  count : length l.out.items ≡ l.i;
  known : list_all (is_signature l.environment) (map signature_of (drop l.i l.signatures)) ≡ true;
}
