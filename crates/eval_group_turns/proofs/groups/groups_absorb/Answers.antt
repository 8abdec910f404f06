use Rattle.std.proofs.Common.{◌≤◌, length, sym, ap, ◌∙◌, rules}
use Rattle.std.specs.Prelude.{option_map}
use Rattle.std.proofs.lemmas.List.{length-map}
use Rattle.abstract_value_laws.specs.Calls.{absorbs_of}
use Rattle.support_tail_fixpoint.specs.Groups.{held, some_absorbs}
use Rattle.abstract_semantics.specs.Calls.{all_absorb}
use Rattle.eval_group_turns.specs.Fitting.{ListFits}
use Rattle.eval_group_turns.specs.Views.{all_abs, each_abs}
use Rattle.eval_group_turns.proofs.Functions.{absorbed_end, absorbed_next, absorbed_stop, held_such}
use Rattle.eval_group_turns.proofs.groups.groups_absorb.Goals as goal

pub held_absorbs-requires-clause-old : goal.held_absorbs-requires-clause-old
held_absorbs-requires-clause-old g c =
    held_such (ListFits g.B.Base.algebra c.args.ctx.now g.B.Base.CAP) (each_abs c.args.xs.now) c.loop-i.i c.requires.old (λ xs. all_abs xs.now) c.arguments_of.result c.arguments_of.ensures

pub held_absorbs-requires-clause-new : goal.held_absorbs-requires-clause-new
held_absorbs-requires-clause-new g c =
    held_such (ListFits g.B.Base.algebra c.args.ctx.now g.B.Base.CAP) (each_abs c.args.ys.now) c.loop-i.i c.requires.new (λ ys. all_abs ys.now) c.arguments_of-in-loop-i.result c.arguments_of-in-loop-i.ensures

pub returns-then-not-held_absorbs : goal.returns-then-not-held_absorbs
returns-then-not-held_absorbs g c =
    let f = all_absorb (absorbs_of g.B.Base.algebra c.args.ctx.now) in
    let xs = each_abs c.args.xs.now in
    let ys = each_abs c.args.ys.now in
    let i = c.loop-i.i in
    absorbed_stop f xs ys i _ (simp length-map c.loop-i-test.true)
    (sym (c.if-not-held_absorbs.ensures ∙ ap (λ o. some_absorbs f o (option_map (λ zs. all_abs zs.now) c.arguments_of-in-loop-i.result)) c.arguments_of.ensures ∙ ap (λ o. some_absorbs f (held xs i) o) c.arguments_of-in-loop-i.ensures)) c.loop-i.invariant

pub loop-i-preserved : goal.loop-i-preserved
loop-i-preserved g c =
    let f = all_absorb (absorbs_of g.B.Base.algebra c.args.ctx.now) in
    let xs = each_abs c.args.xs.now in
    let ys = each_abs c.args.ys.now in
    let i = c.loop-i.i in
    absorbed_next f xs ys i _ (simp length-map c.loop-i-test.true)
    (sym (c.if-not-held_absorbs.ensures ∙ ap (λ o. some_absorbs f o (option_map (λ zs. all_abs zs.now) c.arguments_of-in-loop-i.result)) c.arguments_of.ensures ∙ ap (λ o. some_absorbs f (held xs i) o) c.arguments_of-in-loop-i.ensures)) c.loop-i.invariant

pub returns : goal.returns
returns g c =
    let past : length c.args.ys.now ≤ c.loop-i.i = search rules in
    absorbed_end (all_absorb (absorbs_of g.B.Base.algebra c.args.ctx.now)) (each_abs c.args.xs.now) (each_abs c.args.ys.now) c.loop-i.i _ (simp length-map past) c.loop-i.invariant
