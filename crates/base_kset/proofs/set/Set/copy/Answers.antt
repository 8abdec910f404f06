use Rattle.std.proofs.Common.{sym, subst}
use Rattle.base_trait.specs.Lists.{IsAscending}
use Rattle.base_kset.proofs.set.Set.copy.Goals as goal

pub invariant_of-result : goal.invariant_of-result
invariant_of-result g c = subst IsAscending (sym c.copy_numbers.ensures) c.in-Some.ensures.ascending
