use Rattle.std.proofs.Common.{◌≡◌, option_map, sym, subst, rules}
use Rattle.abstract_value.specs.View.{abs}
use Rattle.support_tail_fixpoint.specs.Groups.{join_some, merge_each}
use Rattle.abstract_value_laws.specs.Calls.{join_of}
use Rattle.abstract_semantics.specs.Terms.{merge_all}
use Rattle.eval_memo.specs.Ready.{YieldFits}
use Rattle.eval_activation.specs.Views.{group_args, yield}
use Rattle.eval_activation.proofs.JoinedYields.{next_fits, yields_join}
use Rattle.eval_activation.proofs.turn_yield.join_given.Goals as goal

pub joined_next-requires-clause-left : goal.joined_next-requires-clause-left
joined_next-requires-clause-left g c =
    let fits : YieldFits g.B.Base.algebra g.B.Base.CAP c.args.setting.now c.args.group (yield c.in-Some-Some.x) = search rules in
    next_fits g.B.Base.algebra g.met.B.Base.laws g.B.Base.CAP c.args.setting.now group_args c.args.group c.in-Some-Some.x.next fits.next

pub joined_next-requires-clause-right : goal.joined_next-requires-clause-right
joined_next-requires-clause-right g c =
    let fits : YieldFits g.B.Base.algebra g.B.Base.CAP c.args.setting.now c.args.group (yield c.in-Some-Some.y) = search rules in
    next_fits g.B.Base.algebra g.met.B.Base.laws g.B.Base.CAP c.args.setting.now group_args c.args.group c.in-Some-Some.y.next fits.next

pub returns-in_ok-joined_next-in-Some-Some-clause-fits : goal.returns-in_ok-joined_next-in-Some-Some-clause-fits
returns-in_ok-joined_next-in-Some-Some-clause-fits g c =
    let b = g.B.Base.algebra in
    let cap = g.B.Base.CAP in
    let s = c.args.setting.now in
    let x = c.in-Some-Some.x in
    let y = c.in-Some-Some.y in
    let left : YieldFits b cap s c.args.group (yield x) = search rules in
    let right : YieldFits b cap s c.args.group (yield y) = search rules in
    let both = yields_join b g.met.B.Base.laws cap s g.K.Specified.spec (g.K.Known.calls c.args.setting.now.ctx.now) c.requires.setting c.args.group (yield x) (yield y) left right in
    let out : option_map abs c.in_ok-joined_out-in-Some-Some.field-0 ≡ join_some (join_of b s.ctx.now cap) (option_map abs x.out) (option_map abs y.out) = search rules in
    let next : option_map group_args c.in_ok-joined_next-in-Some-Some.field-0 ≡ join_some (merge_each (merge_all (join_of b s.ctx.now cap))) (option_map group_args x.next) (option_map group_args y.next) = search rules in
    subst (λ z. YieldFits b cap s c.args.group (record { out = z; next = option_map group_args c.in_ok-joined_next-in-Some-Some.field-0 })) (sym out)
    (subst (λ z. YieldFits b cap s c.args.group (record { out = join_some (join_of b s.ctx.now cap) (option_map abs x.out) (option_map abs y.out); next = z })) (sym next) both)
