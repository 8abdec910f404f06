use Rattle.std.proofs.Common.{◌≡◌, ◌++◌, drop}
use Rattle.domain_affine_base.specs.Forms.{sum_of}
use Rattle.domain_affine_base.proofs.forms.sum.Given as goal

abbrev pub invariant-loop-i : goal.invariant-loop-i
invariant-loop-i l = l.c.items ++ sum_of (drop l.i l.f) (drop l.i l.g) ≡ sum_of l.f l.g
