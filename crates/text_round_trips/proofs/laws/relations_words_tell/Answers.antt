use Rattle.text_round_trips.proofs.Words.{relations_words_tell}
use Rattle.text_round_trips.proofs.laws.relations_words_tell.Goals as goal

pub returns : goal.returns
returns c = relations_words_tell
