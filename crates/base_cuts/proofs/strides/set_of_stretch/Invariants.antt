use Rattle.std.proofs.Common.{◌≡◌, Some}
use Rattle.base_kset.specs.Meaning.{Fits}
use Rattle.base_strides.specs.Stretch.{by_steps}
use Rattle.base_cuts.proofs.strides.set_of_stretch.Given as goal

abbrev pub invariant-loop-i : goal.invariant-loop-i
invariant-loop-i l = record { whole : l.set ≡ Some (by_steps l.x.lo l.x.step l.i); fits : Fits 16 l.w l.set }
