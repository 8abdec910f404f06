use Rattle.std.proofs.Common.{◌<◌, ◌≤◌, length, rules}
use Rattle.evaluator.proofs.Arming.{stretch_past, stretch_there}
use Rattle.evaluator.proofs.arms.among_stretches.Goals as goal

pub returns-in-Some : goal.returns-in-Some
returns-in-Some c =
    let within : c.args.i < length c.args.stretches.now = search rules in
    stretch_there c.args.stretches.now c.args.i c.in-Some.s.now within c.in-Some.ensures.lookup.1

pub returns-in-None : goal.returns-in-None
returns-in-None c =
    let past : length c.args.stretches.now ≤ c.args.i = search rules in
    stretch_past c.args.stretches.now c.args.i past
