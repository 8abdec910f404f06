use Rattle.abstract_cell_tree.proofs.Walking.{alike_within, sides_within}
use Rattle.abstract_cell_tree.proofs.branch.Branch.around.Goals as goal

pub returns-in-Two : goal.returns-in-Two
returns-in-Two g c =
    let s = c.in-Two.sides in
    let es = c.args.entries.now in
    alike_within s.low s.high es c.within-in-Two.result.now c.args.self.now (sides_within es s c.in-Two.ensures) c.within-in-Two.ensures
