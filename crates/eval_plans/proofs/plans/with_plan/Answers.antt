use Rattle.std.proofs.Common.{◌≡◌, ◌∙◌, [], ◌∷◌, ◌++◌, map, rules, ap}
use Rattle.std.proofs.lemmas.List.{map-append}
use Rattle.eval_plans.specs.Plans.{all_both}
use Rattle.eval_plans.specs.Views.{plan}
use Rattle.eval_plans.proofs.Planning.{both_last}
use Rattle.eval_plans.proofs.plans.with_plan.Goals as goal

pub returns : goal.returns
returns g c q =
    let pushed : c.put.new.list.items ≡ c.args.firsts.items ++ c.args.first ∷ [] = search rules in
    ap (λ l. all_both (map plan l) q) pushed ∙ rw map-append (both_last (map plan c.args.firsts.items) (plan c.args.first) q)
