use Rattle.spec_match_compiler.proofs.OneAnswer.{rule_is_settled}
use Rattle.spec_match_compiler.proofs.laws.rule_is_settled.Goals as goal

pub returns : goal.returns
returns c = rule_is_settled
