use Rattle.std.proofs.Common.{◌<◌, ◌≤◌, arith, ◌∙◌}
use Rattle.abstract_cell_tree.proofs.AtFork.{at_fork, get_left, get_right}
use Rattle.abstract_cell_tree.proofs.branch.Branch.+within.Goals as goal

pub returns-then-high-fork : goal.returns-then-high-fork
returns-then-high-fork g t c = λ k low high.
    let f = at_fork c.self.inside.node c.args.self.now c.in-Fork.fork c.deref-fork.result.now c.self.view_is c.self.invariant c.in-Fork.is c.deref-fork.ensures in
    let before = c.if-high-fork.true in
    let less : k < c.deref-fork.result.now.split = omega (arith, high, before) in
    c.within.ensures k low high ∙ get_left c.args.self.now c.deref-fork.result.now f k less

pub returns-then-fork-low : goal.returns-then-fork-low
returns-then-fork-low g t c = λ k low high.
    let f = at_fork c.self.inside.node c.args.self.now c.in-Fork.fork c.deref-fork.result.now c.self.view_is c.self.invariant c.in-Fork.is c.deref-fork.ensures in
    let past = c.if-fork-low.true in
    let more : c.deref-fork.result.now.split ≤ k = omega (arith, low, past) in
    c.within-then-fork-low.ensures k low high ∙ get_right c.args.self.now c.deref-fork.result.now f k more
