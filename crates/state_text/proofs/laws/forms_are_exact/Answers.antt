use Rattle.state_text.proofs.Computed.{computed}
use Rattle.state_text.proofs.Shown.{shown}
use Rattle.state_text.proofs.laws.forms_are_exact.Goals as goal

pub returns : goal.returns
returns c = record { found = shown; computed = computed }
