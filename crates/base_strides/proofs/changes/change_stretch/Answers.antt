use Rattle.std.proofs.Common.{sym, subst, ap, ◌∙◌}
use Rattle.base_strides.specs.Changes.{changed_stretch, width_after}
use Rattle.base_strides.specs.Ends.{change_ends}
use Rattle.base_strides.specs.Words.{IsEnds}
use Rattle.base_strides.proofs.changes.change_stretch.Goals as goal

pub of_stretch-requires-clause-ends : goal.of_stretch-requires-clause-ends
of_stretch-requires-clause-ends c =
    subst (λ w. IsEnds w c.stretch_after.result) (sym c.width.ensures.value)
    (subst (IsEnds (width_after c.args.change)) (sym (c.stretch_after.ensures ∙ ap (changed_stretch c.args.change) c.span.ensures))
    (change_ends c.args.change c.args.x.now c.requires.change c.requires.word))
