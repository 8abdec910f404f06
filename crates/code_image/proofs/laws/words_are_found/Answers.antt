use Rattle.code_image.proofs.Words.{words_are_found}
use Rattle.code_image.proofs.laws.words_are_found.Goals as goal

pub returns : goal.returns
returns c = words_are_found
