use Rattle.abstract_map.specs.Same.{same_map_is}
use Rattle.abstract_map.proofs.laws.equal_maps_are_the_same.Goals as goal

pub returns : goal.returns
returns g c = same_map_is g.B.Word.PartialEq.eq g.B.Note.PartialEq.eq g.met.B.Base.same_words g.met.B.Base.same_notes
