use Rattle.std.proofs.Common.{sym, ap}
use Rattle.abstract_map_laws.specs.Maps.{keys}
use Rattle.abstract_value.specs.Constructors.{spread}
use Rattle.abstract_value.proofs.Places.{when_some}
use Rattle.abstract_semantics.specs.Keys.{case_keys}
use Rattle.eval_operations.proofs.Picking.{alone_from}
use Rattle.eval_operations.proofs.keys.case_keys.Goals as goal

pub returns-in-Some : goal.returns-in-Some
returns-in-Some g c =
    let only = when_some _ c.alone.result _ c.in-Some.is c.alone.ensures in
    sym (ap (λ ns. case_keys ns (keys c.args.m.now)) (alone_from (spread c.args.cases.now) c.in-Some.number c.in-Some._fields.now only))
