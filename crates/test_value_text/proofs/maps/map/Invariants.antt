use Rattle.abstract_map_laws.specs.Maps.{Fits}
use Rattle.test_value_text.proofs.maps.map.Given as goal

abbrev pub invariant-loop-part : goal.invariant-loop-part
invariant-loop-part g l =
    (goal.iterator-loop-part g).can_next l.part-iterator ×
    (goal.iterator-loop-part g).is_finite l.part-iterator ×
    Fits g.B.Base.algebra l.ctx g.B.Base.CAP l.m
