use Rattle.std.proofs.Common.{sym, subst}
use Rattle.base_trait.specs.Stamps.{AreAscending}
use Rattle.base_defuse.specs.Instance.{union_ascends}
use Rattle.base_defuse.proofs.stamps.Stamps.union.Goals as goal

pub invariant_of-result : goal.invariant_of-result
invariant_of-result c = subst AreAscending (sym c.in_ok-items.ensures.value) (union_ascends c.items.result.now c.items-2.result.now c.items.ensures.ascending)
