use Rattle.std.proofs.Common.{◌≤◌, ◌+◌, arith}
use Rattle.abstract_cell_tree.proofs.Beside.{wider}
use Rattle.abstract_cell_tree.proofs.branch.Branch.beside.Goals as goal

pub fork-requires-clause-left : goal.fork-requires-clause-left
fork-requires-clause-left g c =
    let span = c.span_of-span.result in
    let low : c.min.result ≤ c.args.least = omega arith in
    let split : c.args.last + 1 ≤ span.split = omega arith in
    wider c.args.least (c.args.last + 1) c.min.result span.split c.args.below low split c.requires.below

pub fork-requires-clause-right : goal.fork-requires-clause-right
fork-requires-clause-right g c =
    let span = c.span_of-span.result in
    let split : span.split ≤ c.args.first = omega arith in
    let high : c.args.greatest + 1 ≤ c.max.result + 1 = omega arith in
    wider c.args.first (c.args.greatest + 1) span.split (c.max.result + 1) c.args.above split high c.requires.above
