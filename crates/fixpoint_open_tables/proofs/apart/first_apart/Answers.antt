use Rattle.fixpoint_open_tables.specs.Endings.{ends_in}
use Rattle.fixpoint_open_tables.proofs.Differing.{maps_apart, maps_below, maps_same}
use Rattle.fixpoint_open_tables.proofs.apart.first_apart.Goals as goal

pub returns-clause-none : goal.returns-clause-none
returns-clause-none g c =
    maps_same (ends_in c.args.x.now) (ends_in c.args.y.now) c.first_lacking.result c.first_lacking-2.result c.least_of.result c.least_of.ensures c.first_lacking.ensures.none c.first_lacking-2.ensures.none

pub returns-clause-apart : goal.returns-clause-apart
returns-clause-apart g c =
    maps_apart (ends_in c.args.x.now) (ends_in c.args.y.now) c.first_lacking.result c.first_lacking-2.result c.least_of.result c.least_of.ensures c.first_lacking.ensures.lacks c.first_lacking-2.ensures.lacks

pub returns-clause-least : goal.returns-clause-least
returns-clause-least g c =
    maps_below (ends_in c.args.x.now) (ends_in c.args.y.now) c.first_lacking.result c.first_lacking-2.result c.least_of.result c.least_of.ensures c.first_lacking.ensures.none c.first_lacking-2.ensures.none
    c.first_lacking.ensures.least c.first_lacking-2.ensures.least
