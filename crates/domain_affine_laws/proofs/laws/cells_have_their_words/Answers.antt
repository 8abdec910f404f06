use Rattle.domain_affine_laws.proofs.Whole.{cells_have_their_words}
use Rattle.domain_affine_laws.proofs.laws.cells_have_their_words.Goals as goal

pub returns : goal.returns
returns g = cells_have_their_words
