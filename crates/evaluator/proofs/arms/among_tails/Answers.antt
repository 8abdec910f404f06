use Rattle.std.proofs.Common.{◌<◌, ◌≤◌, length, rules}
use Rattle.evaluator.proofs.Arming.{tail_past, tail_there}
use Rattle.evaluator.proofs.arms.among_tails.Goals as goal

pub returns-in-Some : goal.returns-in-Some
returns-in-Some c =
    let within : c.args.i < length c.args.tails.now = search rules in
    tail_there c.args.tails.now c.args.i c.in-Some.t.now within c.in-Some.ensures.lookup.1

pub returns-in-None : goal.returns-in-None
returns-in-None c =
    let past : length c.args.tails.now ≤ c.args.i = search rules in
    tail_past c.args.tails.now c.args.i past
