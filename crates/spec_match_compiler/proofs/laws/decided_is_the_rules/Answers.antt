use Rattle.spec_match_compiler.proofs.Enough.{decided_is_the_rules}
use Rattle.spec_match_compiler.proofs.laws.decided_is_the_rules.Goals as goal

pub returns : goal.returns
returns c = decided_is_the_rules
