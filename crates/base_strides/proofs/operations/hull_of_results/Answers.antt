use Rattle.std.proofs.Common.{◌<◌, ◌^◌, map, ap, ◌∙◌}
use Rattle.std.specs.List.{flat_map}
use Rattle.word_operations.specs.Op2.{op2_of}
use Rattle.base_strides.specs.Ends.{each_first, hull_from_first}
use Rattle.base_strides.specs.Stretch.{hull_with, one}
use Rattle.base_strides.proofs.operations.hull_of_results.Goals as goal

pub op2-requires-clause-left : goal.op2-requires-clause-left
op2-requires-clause-left c = each_first (λ n. n < 2 ^ c.args.w) c.args.xs.now c.requires.some c.requires.left

pub op2-requires-clause-right : goal.op2-requires-clause-right
op2-requires-clause-right c = each_first (λ n. n < 2 ^ c.args.w) c.args.ys.now c.requires.others c.requires.right

pub returns-clause-value : goal.returns-clause-value
returns-clause-value c =
    let all = flat_map (λ n. map (op2_of c.args.op c.args.w n) c.args.ys.now) c.args.xs.now in
    c.with_rows.ensures.value ∙ ap (λ z. hull_with z all) (c.one-first.ensures ∙ ap one c.op2.ensures.value)
    ∙ hull_from_first (op2_of c.args.op c.args.w) c.args.xs.now c.args.ys.now c.requires.some c.requires.others
