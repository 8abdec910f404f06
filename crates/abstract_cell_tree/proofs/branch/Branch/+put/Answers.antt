use Rattle.std.proofs.Common.{◌≡◌, ◌≤◌, ◌++◌, arith, ap, ◌∙◌}
use Rattle.abstract_cell_tree.specs.Entries.{put}
use Rattle.abstract_cell_tree.proofs.AtFork.{at_fork, if_ok, put_has_some, put_left_between, put_on_left, put_on_right, put_right_between, within}
use Rattle.abstract_cell_tree.proofs.branch.Branch.+put.Goals as goal

pub put_beside-requires-then-high-key-clause-range : goal.put_beside-requires-then-high-key-clause-range
put_beside-requires-then-high-key-clause-range g t c =
    let f = at_fork c.self.inside.node c.args.self.now c.in-Fork.fork c.deref-fork.result.now c.self.view_is c.self.invariant c.in-Fork.is c.deref-fork.ensures in
    within c.args.self.now c.deref-fork.result.now f c.args.key

pub fork-requires-clause-left : goal.fork-requires-clause-left
fork-requires-clause-left g t c =
    let f = at_fork c.self.inside.node c.args.self.now c.in-Fork.fork c.deref-fork.result.now c.self.view_is c.self.invariant c.in-Fork.is c.deref-fork.ensures in
    let low : c.deref-fork.result.now.low ≤ c.args.key = omega arith in
    put_left_between c.args.self.now c.deref-fork.result.now f c.args.key c.args.value c.in_ok-left-in-Fork.left low c.if-key-split.true c.in_ok-left-in-Fork.ensures

pub fork-requires-clause-some_left : goal.fork-requires-clause-some_left
fork-requires-clause-some_left g t c =
    let f = at_fork c.self.inside.node c.args.self.now c.in-Fork.fork c.deref-fork.result.now c.self.view_is c.self.invariant c.in-Fork.is c.deref-fork.ensures in
    put_has_some c.args.self.now c.deref-fork.result.now f c.args.key c.args.value c.in_ok-left-in-Fork.left c.deref-fork.result.now.left c.in_ok-left-in-Fork.ensures

pub fork-requires-else-key-split-clause-right : goal.fork-requires-else-key-split-clause-right
fork-requires-else-key-split-clause-right g t c =
    let f = at_fork c.self.inside.node c.args.self.now c.in-Fork.fork c.deref-fork.result.now c.self.view_is c.self.invariant c.in-Fork.is c.deref-fork.ensures in
    let high : c.args.key ≤ c.deref-fork.result.now.high = omega arith in
    put_right_between c.args.self.now c.deref-fork.result.now f c.args.key c.args.value c.in_ok-right-in-Fork.right high c.if-key-split.false c.in_ok-right-in-Fork.ensures

pub fork-requires-else-key-split-clause-some_right : goal.fork-requires-else-key-split-clause-some_right
fork-requires-else-key-split-clause-some_right g t c =
    let f = at_fork c.self.inside.node c.args.self.now c.in-Fork.fork c.deref-fork.result.now c.self.view_is c.self.invariant c.in-Fork.is c.deref-fork.ensures in
    put_has_some c.args.self.now c.deref-fork.result.now f c.args.key c.args.value c.in_ok-right-in-Fork.right c.deref-fork.result.now.right c.in_ok-right-in-Fork.ensures

pub returns-in_ok-copy-in-Fork : goal.returns-in_ok-copy-in-Fork
returns-in_ok-copy-in-Fork g t c =
    let f = at_fork c.self.inside.node c.args.self.now c.in-Fork.fork c.deref-fork.result.now c.self.view_is c.self.invariant c.in-Fork.is c.deref-fork.ensures in
    let left = c.in_ok-left-in-Fork.left in
    if_ok (λ r. r ≡ left ++ c.in_ok-copy-in-Fork.field-0) (λ r. r ≡ put c.args.key c.args.value c.args.self.now) c.fork-then-key-split.result
    (λ r e. e ∙ ap (λ l. left ++ l) c.in_ok-copy-in-Fork.ensures ∙ put_on_left c.args.self.now c.deref-fork.result.now f c.args.key c.args.value left c.if-key-split.true c.in_ok-left-in-Fork.ensures)
    c.fork-then-key-split.ensures

pub returns-in_ok-copy-in-Fork-2 : goal.returns-in_ok-copy-in-Fork-2
returns-in_ok-copy-in-Fork-2 g t c =
    let f = at_fork c.self.inside.node c.args.self.now c.in-Fork.fork c.deref-fork.result.now c.self.view_is c.self.invariant c.in-Fork.is c.deref-fork.ensures in
    let right = c.in_ok-right-in-Fork.right in
    if_ok (λ r. r ≡ c.in_ok-copy-in-Fork-2.field-0 ++ right) (λ r. r ≡ put c.args.key c.args.value c.args.self.now) c.fork-else-key-split.result
    (λ r e. e ∙ ap (λ l. l ++ right) c.in_ok-copy-in-Fork-2.ensures ∙ put_on_right c.args.self.now c.deref-fork.result.now f c.args.key c.args.value right c.if-key-split.false c.in_ok-right-in-Fork.ensures)
    c.fork-else-key-split.ensures
