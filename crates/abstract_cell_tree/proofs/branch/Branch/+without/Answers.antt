use Rattle.std.proofs.Common.{◌≡◌, ◌++◌, ap, ◌∙◌}
use Rattle.abstract_cell_tree.specs.Entries.{removed}
use Rattle.abstract_cell_tree.proofs.AtFork.{at_fork, if_ok, removed_left_between, removed_on_left, removed_on_right, removed_right_between}
use Rattle.abstract_cell_tree.proofs.branch.Branch.+without.Goals as goal

pub side_by_side-requires-clause-left : goal.side_by_side-requires-clause-left
side_by_side-requires-clause-left g t c =
    let f = at_fork c.self.inside.node c.args.self.now c.in-Fork.fork c.deref-fork.result.now c.self.view_is c.self.invariant c.in-Fork.is c.deref-fork.ensures in
    removed_left_between c.args.self.now c.deref-fork.result.now f c.args.key c.in_ok-left-in-Fork.left c.in_ok-left-in-Fork.ensures

pub side_by_side-requires-else-key-split-clause-right : goal.side_by_side-requires-else-key-split-clause-right
side_by_side-requires-else-key-split-clause-right g t c =
    let f = at_fork c.self.inside.node c.args.self.now c.in-Fork.fork c.deref-fork.result.now c.self.view_is c.self.invariant c.in-Fork.is c.deref-fork.ensures in
    removed_right_between c.args.self.now c.deref-fork.result.now f c.args.key c.in_ok-right-in-Fork.right c.in_ok-right-in-Fork.ensures

pub returns-in_ok-copy-in-Fork : goal.returns-in_ok-copy-in-Fork
returns-in_ok-copy-in-Fork g t c =
    let f = at_fork c.self.inside.node c.args.self.now c.in-Fork.fork c.deref-fork.result.now c.self.view_is c.self.invariant c.in-Fork.is c.deref-fork.ensures in
    let left = c.in_ok-left-in-Fork.left in
    if_ok (λ r. r ≡ left ++ c.in_ok-copy-in-Fork.field-0) (λ r. r ≡ removed c.args.key c.args.self.now) c.side_by_side-then-key-split.result
    (λ r e. e ∙ ap (λ l. left ++ l) c.in_ok-copy-in-Fork.ensures ∙ removed_on_left c.args.self.now c.deref-fork.result.now f c.args.key left c.if-key-split.true c.in_ok-left-in-Fork.ensures)
    c.side_by_side-then-key-split.ensures

pub returns-in_ok-copy-in-Fork-2 : goal.returns-in_ok-copy-in-Fork-2
returns-in_ok-copy-in-Fork-2 g t c =
    let f = at_fork c.self.inside.node c.args.self.now c.in-Fork.fork c.deref-fork.result.now c.self.view_is c.self.invariant c.in-Fork.is c.deref-fork.ensures in
    let right = c.in_ok-right-in-Fork.right in
    if_ok (λ r. r ≡ c.in_ok-copy-in-Fork-2.field-0 ++ right) (λ r. r ≡ removed c.args.key c.args.self.now) c.side_by_side-else-key-split.result
    (λ r e. e ∙ ap (λ l. l ++ right) c.in_ok-copy-in-Fork-2.ensures ∙ removed_on_right c.args.self.now c.deref-fork.result.now f c.args.key right c.if-key-split.false c.in_ok-right-in-Fork.ensures)
    c.side_by_side-else-key-split.ensures
