use Rattle.std.proofs.Common.{◌≡◌, IfOk, IsTrue, ap, ap₂, subst, ◌∙◌}
use Rattle.std.specs.Prelude.{is_none}
use Rattle.base_kset.specs.Sets.{union}
use Rattle.base_strides.specs.Ends.{grown_by_ends}
use Rattle.base_strides.proofs.joins.grow_sets.Goals as goal

pub returns-then-is_any-clause-value : goal.returns-then-is_any-clause-value
returns-then-is_any-clause-value c =
    let test = c.is_any.ensures ∙ ap is_none (c.in_ok-set.ensures.value ∙ ap₂ (union 16) c.set.ensures c.set-2.ensures) in
    subst (λ z. IfOk c.grow_spans.result (λ r. r ≡ z)) (grown_by_ends c.args.stops.now c.args.w c.args.old.now c.args.new.now c.requires.first c.requires.second (subst IsTrue test c.if-is_any.true)) c.grow_spans.ensures.value
