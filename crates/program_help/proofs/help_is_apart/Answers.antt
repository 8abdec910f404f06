use Rattle.program_help.proofs.Apart.{help_is_apart}
use Rattle.program_help.proofs.help_is_apart.Goals as goal

pub returns : goal.returns
returns c = help_is_apart
