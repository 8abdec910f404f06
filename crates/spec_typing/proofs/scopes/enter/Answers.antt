use Rattle.spec_typing.proofs.Types.{name_enters}
use Rattle.spec_typing.proofs.scopes.enter.Goals as goal

pub returns-clause-types : goal.returns-clause-types
returns-clause-types c = rw c.in_ok-enter.ensures (name_enters c.args._environment.now c.args.scope.now c.args.name.now c.args.ty c.requires.scope c.requires.ty)
