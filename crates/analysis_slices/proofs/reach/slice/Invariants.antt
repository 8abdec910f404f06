use Rattle.std.proofs.Common.{◌-◌, ◌^◌, length}
use Rattle.fixpoint_theory.specs.Views.{listings}
use Rattle.analysis_query_laws.specs.Slices.{asked_uses, listed_uses}
use Rattle.analysis_slices.proofs.Loop.{IsFine}
use Rattle.analysis_slices.proofs.reach.slice.Given as goal

abbrev pub invariant-loop-found : goal.invariant-loop-found
invariant-loop-found g l = let uses = listed_uses (listings (λ e. e) l.table) in IsFine uses (asked_uses uses l.fn.at l.fn.map l.fn.key) l.found

abbrev pub decreases-loop-found : goal.decreases-loop-found
decreases-loop-found g l = 2 ^ 32 - length l.found.followed.keys
