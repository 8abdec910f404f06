use Rattle.std.proofs.Common.{◌≡◌, ◌∙◌, cond, true, Some, None, map, sym, ap, subst, rules}
use Rattle.semantics_values.specs.Types.{environment_of}
use Rattle.abstract_value_laws.specs.Abs.{parts}
use Rattle.abstract_value_laws.specs.Types.{have_types}
use Rattle.abstract_value.specs.View.{abs}
use Rattle.support_tail_fixpoint.specs.Groups.{only}
use Rattle.support_tail_fixpoint.proofs.Groups.{only_is}
use Rattle.abstract_semantics.specs.Terms.{asks, params_of}
use Rattle.eval_memo.specs.Ready.{AreGroupArgs, ArgsOf}
use Rattle.eval_memo.specs.Settings.{spec_of}
use Rattle.eval_activation.specs.Views.{all_abs, group_args}
use Rattle.eval_memo.proofs.Arguments.{parts_fit}
use Rattle.eval_activation.proofs.turn_yield.call_in_group.Goals as goal

pub returns-clause-value : goal.returns-clause-value
returns-clause-value g c =
    let spec = spec_of c.args.setting.now in
    let f = c.args.fun in
    let x = all_abs c.args.args in
    let typed : have_types (environment_of spec) (parts (map abs c.args.args.items)) (params_of spec f) ≡ true = search rules in
    let group : group_args c.in_ok-next.next ≡ only f x = c.in_ok-next.ensures in
    ap (λ z. Some (record { out = None; next = Some z })) group ∙ sym (ap (λ b. cond b (Some (asks f (map abs c.args.args.items))) None) typed)

pub returns-clause-fits : goal.returns-clause-fits
returns-clause-fits g c =
    let b = g.B.Base.algebra in
    let cap = g.B.Base.CAP in
    let s = c.args.setting.now in
    let spec = spec_of s in
    let f = c.args.fun in
    let x = all_abs c.args.args in
    let typed : have_types (environment_of spec) (parts (map abs c.args.args.items)) (params_of spec f) ≡ true = search rules in
    let group : group_args c.in_ok-next.next ≡ only f x = c.in_ok-next.ensures in
    record {
      out = tt;
      next = subst (AreGroupArgs b cap s c.args.group) (sym group)
          (only_is (ArgsOf b cap s c.args.group) f x (record {
            there = c.requires.there;
            of_group = c.requires.of_group;
            are = record { typed = typed; fit = parts_fit b s.ctx.now cap abs c.args.args.items c.requires.args };
          }));
    }
