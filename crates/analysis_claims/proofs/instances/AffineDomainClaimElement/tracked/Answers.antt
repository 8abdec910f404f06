use Rattle.std.proofs.Common.{length, map, ap, arith}
use Rattle.domain_affine_laws.specs.Tracked.{field_cells}
use Rattle.domain_affine_element_laws.proofs.Tracked.{few_are_tracked}
use Rattle.analysis_claims.proofs.instances.AffineDomainClaimElement.tracked.Goals as goal

pub column_of-requires : goal.column_of-requires
column_of-requires c = let few = few_are_tracked (map field_cells c.args.self.now.fields) in let same = ap length c.tracked_cells.ensures in omega (arith, few, same)
