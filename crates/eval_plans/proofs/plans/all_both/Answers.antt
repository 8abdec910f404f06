use Rattle.std.proofs.Common.{◌≡◌, ◌∙◌, [], ◌∷◌, ◌++◌, map, rules, sym, ap}
use Rattle.std.proofs.lemmas.List.{map-append}
use Rattle.eval_plans.specs.Plans.{all_both, both}
use Rattle.eval_plans.specs.Views.{plan}
use Rattle.eval_plans.proofs.Planning.{both_last}
use Rattle.eval_plans.proofs.plans.all_both.Goals as goal

pub loop-first-preserved : goal.loop-first-preserved
loop-first-preserved g c =
    let p = c.in-Some.first in
    let rest = map plan c.pop.new.self.items in
    let split : c.loop-first.firsts.items ≡ c.pop.new.self.items ++ p ∷ [] = search rules in
    let before : all_both (map plan c.loop-first.firsts.items) (plan c.loop-first.out) ≡ all_both rest (both (plan p) (plan c.loop-first.out)) = rw (split, map-append) (both_last rest (plan p) (plan c.loop-first.out)) in
    ap (all_both rest) c.in_ok-out.ensures ∙ sym before ∙ c.loop-first.invariant
