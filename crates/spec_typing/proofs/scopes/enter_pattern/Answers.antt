use Rattle.syntax_parser.specs.View.{pattern}
use Rattle.spec_typing.proofs.Types.{pattern_enters}
use Rattle.spec_typing.proofs.scopes.enter_pattern.Goals as goal

pub returns-clause-types : goal.returns-clause-types
returns-clause-types c = rw c.in_ok-pattern.ensures.scope (pattern_enters c.args.environment.now c.requires.declared c.args.scope.now c.args.ty (pattern c.args.p.now) c.requires.scope c.requires.ty)
