use Rattle.std.proofs.Common.{sym}
use Rattle.abstract_value.specs.Constructors.{listed}
use Rattle.abstract_value.proofs.Places.{length_places}
use Rattle.abstract_value.proofs.constructors.Constructors.len.Goals as goal

pub returns : goal.returns
returns g c = sym (length_places (listed c.args.self.now.present) 0 c.args.self.now.count)
