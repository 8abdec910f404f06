use Rattle.std.proofs.Common.{drop, map}
use Rattle.abstract_value_laws.specs.Abs.{parts}
use Rattle.domain_laws.specs.Values.{AreOf}
use Rattle.abstract_value.specs.View.{abs}
use Rattle.test_affine_text.proofs.forms.are_of.Given as goal

abbrev pub invariant-loop-i : goal.invariant-loop-i
invariant-loop-i l = AreOf (drop l.i l.fields) (parts (map abs (drop l.i l.values))) → AreOf l.fields (parts (map abs l.values))
