use Rattle.std.proofs.Common.{◌≡◌, ◌++◌, length, map, drop}
use Rattle.spec_ir.specs.Views.{term}
use Rattle.spec_checker.specs.Functions.{terms_in}
use Rattle.spec_checker.specs.Views.{form}
use Rattle.spec_checker.proofs.functions.terms_of.Given as goal

abbrev pub invariant-loop-b : goal.invariant-loop-b
invariant-loop-b l = record {
  count : length l.out.items ≡ l.b-index;
  out_is : terms_in (map form l.forms) ≡ map (λ t. term t.now) l.out.items ++ terms_in (map form (drop l.b-index l.forms));
}
