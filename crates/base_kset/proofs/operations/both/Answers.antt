use Rattle.std.proofs.Common.{ap, ◌∙◌}
use Rattle.base_kset.specs.Sets.{add_all}
use Rattle.base_kset.specs.Adding.{add_all_is}
use Rattle.base_kset.proofs.operations.both.Goals as goal

pub returns-in-Some-Some : goal.returns-in-Some-Some
returns-in-Some-Some g c =
    let left = c.in-Some-Some.ensures.some in
    let right = c.in-Some-Some.ensures'.some in
    let sum = c.add_all.ensures ∙ ap (λ s. add_all g.row.K s c.in-Some-Some.ys.now) (c.copy-out.ensures ∙ left.0) ∙ add_all_is g.row.K c.in-Some-Some._xs.now c.in-Some-Some.ys.now left.1 in
    rw (left.0, right.0) sum
