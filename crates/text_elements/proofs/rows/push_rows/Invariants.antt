use Rattle.std.proofs.Common.{◌≡◌, ◌++◌, ◌<◌, ℕ, List, Some, drop, slice_get, take}
use Rattle.std.specs.String.{string_bytes}
use Rattle.text_elements.specs.Rows.{AddsTo, row_lines}
use Rattle.text_elements.proofs.rows.push_rows.Given as goal

abbrev pub invariant-loop-i : goal.invariant-loop-i
invariant-loop-i l = record {
  lines : string_bytes l.fn.out ++ row_lines l.rows.rows ≡ string_bytes l.out ++ row_lines (drop l.i l.rows.rows);
  add : (j : ℕ) (row : List ℕ) → j < l.i → slice_get l.rows.rows j ≡ Some row → AddsTo l.rows.k (take j l.rows.rows) row;
}
