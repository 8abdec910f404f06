use Rattle.std.proofs.Common.{◌≡◌, ◌+◌, ◌≤◌, drop, length, map}
use Rattle.domain_affine_element_laws.specs.Tracked.{tracked_with}
use Rattle.domain_affine_laws.specs.Tracked.{cells_in, field_cells}
use Rattle.domain_affine.proofs.tracked.tracked_cells.Given as goal

abbrev pub invariant-loop-i : goal.invariant-loop-i
invariant-loop-i l = record {
  whole : tracked_with l.cells.items (l.i + 1) (map field_cells (drop l.i l.fields)) ≡ cells_in l.fields;
  few : length l.cells.items ≤ 64;
}
