use Rattle.std.proofs.Common.{List, ℕ, subst}
use Rattle.program_machine.proofs.Giving.{gives_accepted, gives_machine}
use Rattle.program_analyses.proofs.Making.{gives_few}
use Rattle.program_analyses.proofs.inputs.machine.Goals as goal

pub returns-clause-accepted : goal.returns-clause-accepted
returns-clause-accepted c = gives_accepted c.as_bytes.result.now c.specification_of.result c.specification_of.ensures

pub returns-clause-machine : goal.returns-clause-machine
returns-clause-machine c = gives_machine c.as_bytes.result.now c.specification_of.result c.specification_of.ensures

pub returns-clause-few : goal.returns-clause-few
returns-clause-few c = gives_few c.as_bytes.result.now c.specification_of.result c.specification_of.ensures
