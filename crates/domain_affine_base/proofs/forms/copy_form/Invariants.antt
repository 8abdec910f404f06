use Rattle.std.proofs.Common.{◌≡◌, take}
use Rattle.domain_affine_base.proofs.forms.copy_form.Given as goal

abbrev pub invariant-loop-number : goal.invariant-loop-number
invariant-loop-number l = l.c.items ≡ take l.number-index l.number-items
