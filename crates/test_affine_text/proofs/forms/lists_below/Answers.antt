use Rattle.std.proofs.Common.{◌<◌, arith}
use Rattle.abstract_map_laws.specs.Maps.{keys}
use Rattle.test_affine_text.proofs.Fields.{each_step}
use Rattle.test_affine_text.proofs.forms.lists_below.Goals as goal
use Rattle.spec_ir.proofs.Lists.{drop_got as drop_at}

pub loop-place-preserved : goal.loop-place-preserved
loop-place-preserved c h =
    let all = keys c.args.m.now in
    c.loop-place.invariant (each_step (λ k. k < c.args.bound) all c.loop-place.place c.key_at.result (drop_at all c.loop-place.place c.key_at.result c.key_at.ensures) (omega (arith, c.if-key_at-bound.false)) h)
