use Rattle.spec_declarations.proofs.Ranked.{types_are_ranked}
use Rattle.spec_declarations.proofs.laws.types_are_ranked.Goals as goal

pub returns : goal.returns
returns c = types_are_ranked
