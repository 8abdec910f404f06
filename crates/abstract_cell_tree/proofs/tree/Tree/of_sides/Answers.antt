use Rattle.std.proofs.Common.{◌+◌, sym, subst}
use Rattle.std.specs.Prelude.{unwrap_or}
use Rattle.abstract_cell_tree.specs.Entries.{Between}
use Rattle.abstract_cell_tree.proofs.Walking.{between_keys}
use Rattle.abstract_cell_tree.proofs.tree.Tree.of_sides.Goals as goal

pub fork-requires-clause-left : goal.fork-requires-clause-left
fork-requires-clause-left g c =
    let s = c.args.sides.now in
    subst (λ l. Between s.low s.split l) (sym c.in_ok-left.ensures) (between_keys s.low s.split (unwrap_or c.args.left s.left.now) s.left.now c.requires.left c.requires.sides.below)

pub fork-requires-clause-right : goal.fork-requires-clause-right
fork-requires-clause-right g c =
    let s = c.args.sides.now in
    subst (λ l. Between s.split (s.high + 1) l) (sym c.in_ok-right.ensures) (between_keys s.split (s.high + 1) (unwrap_or c.args.right s.right.now) s.right.now c.requires.right c.requires.sides.above)
