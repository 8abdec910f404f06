use Rattle.spec_decode_rows.proofs.Decoding.{decoded_rows_are_apart}
use Rattle.spec_decode_rows.proofs.laws.decoded_rows_are_apart.Goals as goal

pub returns : goal.returns
returns c = decoded_rows_are_apart
