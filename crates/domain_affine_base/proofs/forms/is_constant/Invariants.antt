use Rattle.std.proofs.Common.{◌≡◌, drop}
use Rattle.std.specs.Prelude.{◌==◌}
use Rattle.std.specs.List.{list_all}
use Rattle.domain_affine_base.specs.Forms.{is_constant}
use Rattle.domain_affine_base.proofs.forms.is_constant.Given as goal

abbrev pub invariant-loop-i : goal.invariant-loop-i
invariant-loop-i l = is_constant l.f ≡ list_all (λ b. b == 0) (drop l.i l.f)
