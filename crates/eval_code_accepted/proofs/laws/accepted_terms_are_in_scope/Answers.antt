use Rattle.eval_code_accepted.proofs.Scoped.{accepted_terms_are_in_scope}
use Rattle.eval_code_accepted.proofs.laws.accepted_terms_are_in_scope.Goals as goal

pub returns : goal.returns
returns c = accepted_terms_are_in_scope
