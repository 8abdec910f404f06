use Rattle.std.proofs.Common.{◌<◌, length, get_or, arith}
use Rattle.std.proofs.lemmas.List.{get_or_default}
use Rattle.support_reachability.proofs.Marks.{none_marked, visit_more}
use Rattle.support_reachability.proofs.search.visit_all.Goals as goal

pub loop-target-init : goal.loop-target-init
loop-target-init c = none_marked _ _ _

pub loop-target-preserved : goal.loop-target-preserved
loop-target-preserved c =
    let targets = c.args.targets.now in
    let i = c.loop-target.target-index in
    let target = get_or targets i 0 in
    let within : i < length targets = omega arith in
    let done = c.in_ok-visit.ensures in
    visit_more targets i _ _ _ _ _ _ target within (get_or_default targets i 0 target within) c.loop-target.invariant done.marks done.stack
