use Rattle.concrete_emulator.proofs.Texts.{same_texts}
use Rattle.concrete_emulator.proofs.laws.same_states_have_one_text.Goals as goal

pub returns : goal.returns
returns c = same_texts
