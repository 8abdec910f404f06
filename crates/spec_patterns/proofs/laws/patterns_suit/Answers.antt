use Rattle.spec_patterns.proofs.Suits.{suits}
use Rattle.spec_patterns.proofs.laws.patterns_suit.Goals as goal

pub returns : goal.returns
returns c = suits
