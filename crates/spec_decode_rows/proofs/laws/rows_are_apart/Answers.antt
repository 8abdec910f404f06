use Rattle.spec_decode_rows.proofs.Apart.{rows_are_apart}
use Rattle.spec_decode_rows.proofs.laws.rows_are_apart.Goals as goal

pub returns : goal.returns
returns c = rows_are_apart
