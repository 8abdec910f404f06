use Rattle.std.proofs.Common.{◌≤◌, length, map, sym, subst, ap, ap₂, ◌∙◌}
use Rattle.std.specs.List.{flat_map}
use Rattle.word_operations.specs.Op2.{op2_of}
use Rattle.base_kset.specs.Sets.{items_or_none}
use Rattle.base_strides.specs.Ends.{items_some, results_ends}
use Rattle.base_strides.specs.Stretch.{hull}
use Rattle.base_strides.specs.Words.{IsEnds}
use Rattle.base_strides.proofs.operations.hull_of_sets.Goals as goal

pub hull_of_results-hull-requires-clause-some : goal.hull_of_results-hull-requires-clause-some
hull_of_results-hull-requires-clause-some c =
    subst (λ s. 1 ≤ length s) (sym (c.items.ensures.value ∙ ap items_or_none c.set.ensures)) (items_some c.args.w c.args.x.now c.requires.left c.requires.first)

pub hull_of_results-hull-requires-clause-others : goal.hull_of_results-hull-requires-clause-others
hull_of_results-hull-requires-clause-others c =
    subst (λ s. 1 ≤ length s) (sym (c.items-2.ensures.value ∙ ap items_or_none c.set-2.ensures)) (items_some c.args.w c.args.y.now c.requires.right c.requires.second)

pub of_stretch-requires-clause-ends : goal.of_stretch-requires-clause-ends
of_stretch-requires-clause-ends c =
    let f = op2_of c.args.op c.args.w in
    let xs = c.items.ensures.value ∙ ap items_or_none c.set.ensures in
    let ys = c.items-2.ensures.value ∙ ap items_or_none c.set-2.ensures in
    subst (IsEnds c.args.w) (sym (c.hull_of_results-hull.ensures.value ∙ ap hull (ap₂ (λ s t. flat_map (λ n. map (f n) t) s) xs ys)))
    (results_ends c.args.op c.args.w c.args.x.now c.args.y.now c.requires.width c.requires.left c.requires.right)
