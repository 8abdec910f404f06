use Rattle.std.proofs.Common.{take}
use Rattle.std.proofs.Common.{map as map_of}
use Rattle.std.specs.List.{filter}
use Rattle.base_trait.specs.Uses.{seen}
use Rattle.analysis_query_laws.specs.Slices.{is_asked, is_from}
use Rattle.analysis_slices.specs.Found.{IsAdded}
use Rattle.analysis_slices.proofs.slice_search.SliceSearch.add_asked.Given as goal

abbrev pub invariant-loop-u : goal.invariant-loop-u
invariant-loop-u l = IsAdded (is_from (filter (is_asked l.map l.key) (map_of seen (take l.u-index l.uses)))) l.initial.self l.self
