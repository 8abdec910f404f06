use Rattle.std.proofs.Common.{◌≡◌, rules}
use Rattle.spec_ir.specs.Views.{signature_of}
use Rattle.spec_checker.specs.Functions.{parameters}
use Rattle.spec_checker.proofs.Making.{signature_scope}
use Rattle.spec_checker.proofs.bodies.check_body.Goals as goal

pub check_body_term-requires-clause-scope : goal.check_body_term-requires-clause-scope
check_body_term-requires-clause-scope c =
    let is : c.in_ok-scope.scope ≡ parameters c.args.f.now.params.items c.args.s.now.params.items = search rules in
    rw is (signature_scope c.args.environment.now c.args.f.now.params.items (signature_of c.args.s.now) c.requires.signature)
