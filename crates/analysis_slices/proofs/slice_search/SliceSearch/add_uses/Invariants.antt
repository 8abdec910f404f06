use Rattle.std.proofs.Common.{take, map}
use Rattle.base_trait.specs.Uses.{seen}
use Rattle.analysis_query_laws.specs.Slices.{is_from}
use Rattle.analysis_slices.specs.Found.{IsAdded}
use Rattle.analysis_slices.proofs.slice_search.SliceSearch.add_uses.Given as goal

abbrev pub invariant-loop-u : goal.invariant-loop-u
invariant-loop-u l = IsAdded (is_from (map seen (take l.u-index l.uses))) l.initial.self l.self
