use Rattle.std.proofs.Common.{◌≡◌, drop}
use Rattle.spec_ir.specs.Views.{specification}
use Rattle.state_cell_text.specs.Places.{place_of, place_from}
use Rattle.state_cell_text.proofs.places.place_of.Given as goal

abbrev pub invariant-loop-i : goal.invariant-loop-i
invariant-loop-i l = place_of (specification l.spec) l.name ≡ place_from (specification l.spec) l.i (drop l.i l.fields) l.name
