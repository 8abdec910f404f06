use Rattle.syntax_lexer.proofs.Places.{each_in_place}
use Rattle.syntax_lexer.proofs.laws.each_in_place.Goals as goal

pub returns : goal.returns
returns c = each_in_place
