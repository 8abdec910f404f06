use Rattle.spec_checker.proofs.Apart.{accepted_rows_are_apart}
use Rattle.spec_checker.proofs.laws.accepted_rows_are_apart.Goals as goal

pub returns : goal.returns
returns c = accepted_rows_are_apart
