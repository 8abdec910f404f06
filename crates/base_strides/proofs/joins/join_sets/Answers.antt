use Rattle.std.proofs.Common.{◌≡◌, IfOk, IsTrue, ap, ap₂, subst, ◌∙◌}
use Rattle.std.specs.Prelude.{is_none}
use Rattle.base_kset.specs.Sets.{union}
use Rattle.base_strides.specs.Ends.{join_by_hull}
use Rattle.base_strides.proofs.joins.join_sets.Goals as goal

pub returns-then-is_any-clause-value : goal.returns-then-is_any-clause-value
returns-then-is_any-clause-value c =
    let test = c.is_any.ensures ∙ ap is_none (c.in_ok-set.ensures.value ∙ ap₂ (union 16) c.set.ensures c.set-2.ensures) in
    subst (λ z. IfOk c.hull_of_sets.result (λ r. r ≡ z)) (join_by_hull c.args.w c.args.x.now c.args.y.now c.requires.left c.requires.first c.requires.second (subst IsTrue test c.if-is_any.true)) c.hull_of_sets.ensures.value
