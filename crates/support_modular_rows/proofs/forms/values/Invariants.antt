use Rattle.std.proofs.Common.{◌≡◌, ◌<◌, ◌+◌, ℕ, get_or, length, slice_get, unwrap_or, None}
use Rattle.support_modular_rows.specs.Forms.{HasEntry}
use Rattle.support_modular_rows.proofs.forms.values.Given as goal

abbrev pub invariant-loop-i : goal.invariant-loop-i
invariant-loop-i l = record {
  size : length l.image ≡ 65;
  first : get_or l.image 0 0 ≡ get_or l.row 0 0;
  cells : (j : ℕ) → j < l.i → HasEntry (unwrap_or (slice_get l.forms j) None) l.row (get_or l.image (j + 1) 0);
}
