use Rattle.std.proofs.Common.{take}
use Rattle.base_trait.specs.Stamps.{is_listed}
use Rattle.analysis_slices.specs.Found.{IsAdded}
use Rattle.analysis_slices.proofs.slice_search.SliceSearch.add_all.Given as goal

abbrev pub invariant-loop-stamp : goal.invariant-loop-stamp
invariant-loop-stamp l = IsAdded (is_listed (take l.stamp-index l.stamps)) l.initial.self l.self
