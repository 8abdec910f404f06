use Rattle.std.proofs.Common.{◌≡◌, ◌+◌, ◌<◌, ◌≤◌, ◌++◌, drop, length, sym, ap, ◌∙◌, append-nil, rules}
use Rattle.std.specs.Prelude.{max, option_map}
use Rattle.std.proofs.lemmas.List.{length-map}
use Rattle.support_tail_fixpoint.specs.Groups.{held, join_some, merge_each}
use Rattle.abstract_value.specs.Ways.{merged}
use Rattle.abstract_semantics.specs.Terms.{merge_all}
use Rattle.eval_group_turns.specs.Fitting.{ListFits}
use Rattle.eval_group_turns.specs.Views.{all_abs, each_abs}
use Rattle.eval_group_turns.proofs.Functions.{each_end, each_here, held_such}
use Rattle.eval_group_turns.proofs.Items.{one_more, seen_push}
use Rattle.eval_group_turns.proofs.groups.merge_groups.Goals as goal

pub merge_held-requires-clause-left : goal.merge_held-requires-clause-left
merge_held-requires-clause-left g c =
    held_such (ListFits g.B.Base.algebra c.args.ctx.now g.B.Base.CAP) (each_abs c.args.xs.now) c.loop-i.i c.requires.left (λ xs. all_abs xs.now) c.arguments_of.result c.arguments_of.ensures

pub merge_held-requires-clause-right : goal.merge_held-requires-clause-right
merge_held-requires-clause-right g c =
    held_such (ListFits g.B.Base.algebra c.args.ctx.now g.B.Base.CAP) (each_abs c.args.ys.now) c.loop-i.i c.requires.right (λ ys. all_abs ys.now) c.arguments_of-in-loop-i.result c.arguments_of-in-loop-i.ensures

pub loop-i-preserved : goal.loop-i-preserved
loop-i-preserved g c =
    let j = merge_all (merged g.B.Base.algebra c.args.ctx.now g.B.Base.CAP c.args.way) in
    let xs = each_abs c.args.xs.now in
    let ys = each_abs c.args.ys.now in
    let i = c.loop-i.i in
    let z = c.in_ok-merge_held.field-0 in
    let within : i < max (length c.args.xs.now) (length c.args.ys.now) = search rules in
    let before : i < max (length xs) (length ys) = simp length-map within in
    let same : option_map all_abs z ≡ join_some j (held xs i) (held ys i) = c.in_ok-merge_held.ensures ∙ ap (λ o. join_some j o (option_map (λ zs. all_abs zs.now) c.arguments_of-in-loop-i.result)) c.arguments_of.ensures ∙ ap (λ o. join_some j (held xs i) o) c.arguments_of-in-loop-i.ensures in
    one_more (merge_each j xs ys) (each_abs c.loop-i.out.items) (each_abs c.put.new.list.items) (merge_each j (drop i xs) (drop i ys)) (merge_each j (drop (i + 1) xs) (drop (i + 1) ys)) (option_map all_abs z)
    (each_here j xs ys i (option_map all_abs z) before same) (ap each_abs c.in_ok-put.ensures.items ∙ seen_push (option_map all_abs) c.loop-i.out.items z) c.loop-i.invariant

pub returns : goal.returns
returns g c =
    let j = merge_all (merged g.B.Base.algebra c.args.ctx.now g.B.Base.CAP c.args.way) in
    let xs = each_abs c.args.xs.now in
    let ys = each_abs c.args.ys.now in
    let end : max (length c.args.xs.now) (length c.args.ys.now) ≤ c.loop-i.i = search rules in
    let past : max (length xs) (length ys) ≤ c.loop-i.i = simp length-map end in
    sym (c.loop-i.invariant ∙ ap (λ l. each_abs c.loop-i.out.items ++ l) (each_end j xs ys c.loop-i.i past) ∙ append-nil (each_abs c.loop-i.out.items))
