use Rattle.std.proofs.Common.{map}
use Rattle.syntax_parser.specs.View as view
use Rattle.spec_declarations.proofs.Checked.{checked}
use Rattle.spec_declarations.proofs.passes.check_datatypes.Goals as goal

pub returns-clause-well_formed : goal.returns-clause-well_formed
returns-clause-well_formed c =
    let facts = c.in_ok-facts.facts in
    let datas = map (λ d. view.datatype d.now) c.args.datas.now in
    checked (map view.item c.args.items.now) c.args.names.now datas datas datas facts.recursive.items facts.large.items c.types_fault.result c.requires.names
    c.requires.datas c.requires.datas c.requires.datas c.in_ok-check_sizes.ensures.sized c.in_ok-facts.ensures.known c.types_fault.ensures
