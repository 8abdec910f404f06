use Rattle.std.proofs.Common.{ltb, rules}
use Rattle.std.proofs.lemmas.List.Sorted.{IsPartitionPoint-from_clause, IsPartitionedBy-ltb}
use Rattle.abstract_cell_tree.proofs.Parting.{keys_rise, place_found}
use Rattle.abstract_cell_tree.proofs.build.place_of.Goals as goal

pub returns : goal.returns
returns g c =
    let entries = c.args.entries.now in
    place_found c.args.key entries c.partition_point.result c.partition_point.ensures.bound
    (IsPartitionPoint-from_clause (λ e. ltb e.0 c.args.key) entries c.partition_point.result c.partition_point.ensures.partitioned
    (IsPartitionedBy-ltb (λ e. e.0) entries c.args.key (keys_rise 0 entries c.requires.order)) (λ a r f q. search rules))
