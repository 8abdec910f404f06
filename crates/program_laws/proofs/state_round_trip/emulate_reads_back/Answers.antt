use Rattle.program_laws.proofs.Back.{emulate_reads_back}
use Rattle.program_laws.proofs.state_round_trip.emulate_reads_back.Goals as goal

pub returns : goal.returns
returns c = emulate_reads_back
