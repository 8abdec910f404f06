use Rattle.std.proofs.Common.{◌≡◌, ◌∙◌, map, ap, rules}
use Rattle.abstract_value.specs.View.{abs}
use Rattle.support_tail_fixpoint.specs.Groups.{only}
use Rattle.eval_group_turns.specs.Turning.{stamps_from, turning}
use Rattle.eval_group_turns.specs.Views.{group_args}
use Rattle.support_tail_fixpoint.specs.Activation.{start}
use Rattle.support_tail_fixpoint.specs.Views.{activation}
use Rattle.eval_activation.specs.Activities.{turns_from}
use Rattle.eval_memo.specs.Settings.{group_of, spec_of}
use Rattle.eval_activation.proofs.Going.{begins}
use Rattle.eval_activation.proofs.activity.begin.Goals as goal

pub returns-clause-goes : goal.returns-clause-goes
returns-clause-goes g c =
    let b = g.B.Base.algebra in
    let cap = g.B.Base.CAP in
    let s = c.args.setting.now in
    let f = c.args.fun in
    let args = map abs c.args.args.now in
    let ctx = c.in_ok-copy_ctx.field-0 in
    let origin = c.in_ok-copy_all.field-0 in
    let same_ctx : ctx ≡ s.ctx.now = search rules in
    let same_group : c.group_of.result ≡ group_of s f = search rules in
    let same_origin : map abs origin.items ≡ args = search rules in
    let first : group_args c.in_ok-first.first ≡ only f args = search rules in
    let begun : c.new-driver.result ≡ start c.in_ok-first.first s.policy = search rules in
    let stands : activation group_args abs c.new-driver.result ≡ start (only f args) s.policy = ap (activation group_args abs) begun ∙ ap (λ z. start z s.policy) first in
    let same : turning b ctx cap (spec_of s) (stamps_from b s.at (map abs origin.items)) c.group_of.result ≡ turns_from b cap s f args =
    ap (λ z. turning b z cap (spec_of s) (stamps_from b s.at (map abs origin.items)) c.group_of.result) same_ctx
    ∙ ap (λ z. turning b s.ctx.now cap (spec_of s) (stamps_from b s.at z) c.group_of.result) same_origin
    ∙ ap (λ z. turning b s.ctx.now cap (spec_of s) (stamps_from b s.at args) z) same_group
    in
    begins b g.met.B.Base.laws cap s g.K.Specified.spec (g.K.Known.calls c.args.setting.now.ctx.now) c.requires.setting f c.requires.there args _ c.requires.args stands same

pub returns-clause-first : goal.returns-clause-first
returns-clause-first g c =
    let begun : c.new-driver.result ≡ start c.in_ok-first.first c.args.setting.now.policy = search rules in
    let first : group_args c.in_ok-first.first ≡ only c.args.fun (map abs c.args.args.now) = search rules in
    ap (λ a. group_args a.args) begun ∙ first
