use Rattle.std.proofs.Common.{◌≡◌, length, map, option_map}
use Rattle.std.specs.Prelude.{All, IfSome}
use Rattle.eval_memo.specs.Ready.{YieldFits}
use Rattle.eval_memo.specs.Settings.{join_yields}
use Rattle.eval_activation.specs.Views.{yield}
use Rattle.evaluator.specs.Joins.{join_all}
use Rattle.evaluator.proofs.joins.joined_all.Given as goal

abbrev pub decreases-loop-first : goal.decreases-loop-first
decreases-loop-first g l = length l.firsts.items

abbrev pub invariant-loop-first : goal.invariant-loop-first
invariant-loop-first g l =
    let b = g.B.Base.algebra in
    let j = join_yields b g.B.Base.CAP (g.K.Known.calls l.setting.ctx.now) l.setting in
    record {
      whole : join_all j (map (option_map yield) l.firsts.items) (option_map yield l.out) ≡ join_all j (map (option_map yield) l.initial.firsts.items) (option_map yield l.initial.out);
      firsts : All (λ x. IfSome x (λ v. YieldFits b g.B.Base.CAP l.setting l.group (yield v))) l.firsts.items;
      fits : IfSome l.out (λ v. YieldFits b g.B.Base.CAP l.setting l.group (yield v));
    }
