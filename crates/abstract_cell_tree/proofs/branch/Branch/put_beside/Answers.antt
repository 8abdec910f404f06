use Rattle.std.proofs.Common.{◌≡◌, ◌≤◌, ◌+◌, ◌++◌, ◌∷◌, [], arith, sym, ap, ◌∙◌}
use Rattle.abstract_cell_tree.specs.Entries.{put}
use Rattle.abstract_cell_tree.proofs.Beside.{put_first, put_last}
use Rattle.abstract_cell_tree.proofs.AtFork.{if_ok}
use Rattle.abstract_cell_tree.proofs.branch.Branch.put_beside.Goals as goal

pub returns-then-key-low : goal.returns-then-key-low
returns-then-key-low g c =
    let d = c.args.self.now in
    let k = c.args.key in
    let x = c.args.value in
    if_ok (λ r. r ≡ c.in_ok-leaf.leaf ++ c.in_ok-other.other) (λ r. r ≡ put k x d) c.beside.result
    (λ r e. e ∙ ap (λ l. l ++ c.in_ok-other.other) c.in_ok-leaf.ensures ∙ ap (λ l. (k, x) ∷ l) c.in_ok-other.ensures ∙ sym (put_first k x c.args.low (c.args.high + 1) d c.if-key-low.true c.requires.range))
    c.beside.ensures

pub returns-else-key-low : goal.returns-else-key-low
returns-else-key-low g c =
    let d = c.args.self.now in
    let k = c.args.key in
    let x = c.args.value in
    let past : c.args.high + 1 ≤ k = omega arith in
    if_ok (λ r. r ≡ c.in_ok-other.other ++ c.in_ok-leaf.leaf) (λ r. r ≡ put k x d) c.beside-else-key-low.result
    (λ r e. e ∙ ap (λ l. c.in_ok-other.other ++ l) c.in_ok-leaf.ensures ∙ ap (λ l. l ++ (k, x) ∷ []) c.in_ok-other.ensures ∙ sym (put_last k x c.args.low (c.args.high + 1) d past c.requires.range))
    c.beside-else-key-low.ensures
