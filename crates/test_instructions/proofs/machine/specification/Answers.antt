use Rattle.std.proofs.Common.{rules}
use Rattle.std.specs.Prelude.{IsSome}
use Rattle.syntax_parser.specs.View.{tree as tree_of}
use Rattle.spec_ir.specs.Views.{specification}
use Rattle.spec_checker.specs.Check.{IsParsed}
use Rattle.semantics_laws.specs.Accepted.{IsAccepted}
use Rattle.test_instructions.proofs.Checked.{if_some, result_accepted, result_machine}
use Rattle.test_instructions.proofs.machine.specification.Goals as goal

pub returns-clause-accepted : goal.returns-clause-accepted
returns-clause-accepted c =
    let parsed : IsParsed (tree_of c.in_ok-tree.tree) = search rules in
    if_some (λ spec. IsAccepted (specification spec)) c.check.result c.ok-3.result c.ok-3.ensures.value (result_accepted (tree_of c.in_ok-tree.tree) c.check.result parsed c.check.ensures)

pub returns-clause-machine : goal.returns-clause-machine
returns-clause-machine c =
    if_some (λ spec. IsSome (specification spec).machine) c.check.result c.ok-3.result c.ok-3.ensures.value (result_machine (tree_of c.in_ok-tree.tree) c.check.result c.check.ensures)
