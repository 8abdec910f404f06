-- Types fall in rank.
use Rattle.std.proofs.Common.{map}
use Rattle.support_reachability.proofs.Tables.{some_table}
use Rattle.spec_declarations.specs.Laws.{TypesAreRanked}
use Rattle.spec_declarations.specs.Leaves.{held, all_made}
use Rattle.spec_declarations.proofs.Shapes.{well_formed}

pub types_are_ranked : TypesAreRanked
types_are_ranked items none sized cases =
    let t = some_table (map held (all_made items)) in
    well_formed items t.0 none.0 none.1 t.1 none.2 none.3 sized cases
