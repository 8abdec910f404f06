use Rattle.std.proofs.Common.{◌≡◌, ◌≤◌, ◌+◌, ◌-◌, ◌++◌, length, take, arith, ap, sym, subst, ◌∙◌}
use Rattle.abstract_cell_tree.specs.Entries.{Between}
use Rattle.abstract_cell_tree.proofs.AtFork.{at_fork, if_ok}
use Rattle.abstract_cell_tree.proofs.Beside.{take_between, take_right}
use Rattle.abstract_cell_tree.proofs.branch.Branch.+first.Goals as goal

pub side_by_side-requires-clause-right : goal.side_by_side-requires-clause-right
side_by_side-requires-clause-right g t c =
    let f = at_fork c.self.inside.node c.args.self.now c.in-Fork.fork c.deref-fork.result.now c.self.view_is c.self.invariant c.in-Fork.is c.deref-fork.ensures in
    let fork = c.deref-fork.result.now in
    subst (λ l. Between fork.split (fork.high + 1) l) (sym c.in_ok-right-in-Fork.ensures) (take_between (c.args.count - c.len-below.result) fork.split (fork.high + 1) fork.right f.parts.above)

pub returns-in_ok-copy-in-Fork : goal.returns-in_ok-copy-in-Fork
returns-in_ok-copy-in-Fork g t c =
    let f = at_fork c.self.inside.node c.args.self.now c.in-Fork.fork c.deref-fork.result.now c.self.view_is c.self.invariant c.in-Fork.is c.deref-fork.ensures in
    let fork = c.deref-fork.result.now in
    let right = c.in_ok-right-in-Fork.right in
    let past : length fork.left ≤ c.args.count = omega (arith, c.len-below.ensures, c.if-count-below.false) in
    if_ok (λ r. r ≡ c.in_ok-copy-in-Fork.field-0 ++ right) (λ r. r ≡ take c.args.count c.args.self.now) c.side_by_side.result
    (λ r e. e ∙ ap (λ l. l ++ right) c.in_ok-copy-in-Fork.ensures ∙ ap (λ l. fork.left ++ l) (c.in_ok-right-in-Fork.ensures ∙ ap (λ n. take (c.args.count - n) fork.right) c.len-below.ensures)
    ∙ take_right c.args.count fork.left fork.right past ∙ ap (take c.args.count) (sym f.is))
    c.side_by_side.ensures
