use Rattle.spec_patterns.proofs.Variables.{variables_are_typed}
use Rattle.spec_patterns.proofs.laws.variables_have_types.Goals as goal

pub returns : goal.returns
returns c = λ env ty p wf h. variables_are_typed env wf ty p h
