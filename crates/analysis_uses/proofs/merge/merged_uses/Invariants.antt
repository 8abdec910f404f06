use Rattle.std.proofs.Common.{◌≡◌, map, reverse}
use Rattle.base_trait.specs.Uses.{seen}
use Rattle.analysis_transfer_laws.specs.Uses.{merged_uses}
use Rattle.analysis_uses.proofs.merge.merged_uses.Given as goal

abbrev pub invariant-loop-one : goal.invariant-loop-one
invariant-loop-one l = map seen l.uses.items ≡ merged_uses l.fields (map seen (reverse (map (λ u. u.now) l.yielded)))
