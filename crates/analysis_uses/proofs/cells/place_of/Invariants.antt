use Rattle.std.proofs.Common.{◌≡◌, ◌+◌, drop}
use Rattle.analysis_transfer_laws.specs.Uses.{place_of}
use Rattle.analysis_uses.proofs.cells.place_of.Given as goal

abbrev pub invariant-loop-i : goal.invariant-loop-i
invariant-loop-i l = place_of l.fields l.map ≡ l.i + place_of (drop l.i l.fields) l.map
