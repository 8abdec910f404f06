use Rattle.std.proofs.Common.{◌≡◌, take}
use Rattle.domain_affine_base.specs.Forms.{multiple_of}
use Rattle.domain_affine_base.proofs.forms.multiple.Given as goal

abbrev pub invariant-loop-number : goal.invariant-loop-number
invariant-loop-number l = l.c.items ≡ multiple_of l.factor (take l.number-index l.f)
