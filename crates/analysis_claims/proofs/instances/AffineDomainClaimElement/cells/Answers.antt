use Rattle.std.proofs.Common.{length, map, ap, arith}
use Rattle.domain_affine_laws.specs.Tracked.{field_cells}
use Rattle.domain_affine_element_laws.proofs.Tracked.{few_are_tracked}
use Rattle.analysis_claims.proofs.instances.AffineDomainClaimElement.cells.Goals as goal

pub overflow_cast-result : goal.overflow_cast-result
overflow_cast-result c = let few = few_are_tracked (map field_cells c.args.self.now.fields) in let same = ap length c.tracked_cells.ensures in omega (arith, few, same)
