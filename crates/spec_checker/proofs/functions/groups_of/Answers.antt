use Rattle.std.proofs.Common.{◌≡◌, OnOk, IfOk, map, rules, subst}
use Rattle.spec_ir.specs.Views.{term}
use Rattle.spec_calls.specs.Groups.{AreGroups}
use Rattle.spec_calls.specs.Recursion.{NoRecursionFault}
use Rattle.spec_checker.specs.Functions.{terms_in}
use Rattle.spec_checker.specs.Views.{form}
use Rattle.spec_checker.proofs.functions.groups_of.Goals as goal

pub returns-clause-recursion : goal.returns-clause-recursion
returns-clause-recursion c =
    let is : map (λ t. term t.now) c.deref-2.result.now ≡ terms_in (map form c.args.forms.now) = search rules in
    subst (λ bs. OnOk c.groups.result (NoRecursionFault bs)) is c.groups.ensures.accepted
