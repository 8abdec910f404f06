use Rattle.std.proofs.Common.{◌∙◌}
use Rattle.abstract_cell_tree.proofs.AtFork.{at_fork, get_left, get_right}
use Rattle.abstract_cell_tree.proofs.branch.Branch.+get.Goals as goal

pub returns-then-key-fork : goal.returns-then-key-fork
returns-then-key-fork g t c =
    let f = at_fork c.self.inside.node c.args.self.now c.in-Fork.fork c.deref-fork.result.now c.self.view_is c.self.invariant c.in-Fork.is c.deref-fork.ensures in
    c.get.ensures ∙ get_left c.args.self.now c.deref-fork.result.now f c.args.key c.if-key-fork.true

pub returns-else-key-fork : goal.returns-else-key-fork
returns-else-key-fork g t c =
    let f = at_fork c.self.inside.node c.args.self.now c.in-Fork.fork c.deref-fork.result.now c.self.view_is c.self.invariant c.in-Fork.is c.deref-fork.ensures in
    c.get-else-key-fork.ensures ∙ get_right c.args.self.now c.deref-fork.result.now f c.args.key c.if-key-fork.false
