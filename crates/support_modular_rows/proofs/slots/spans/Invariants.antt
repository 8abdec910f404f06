use Rattle.support_modular_rows.specs.Reduction.{InSpan}
use Rattle.support_modular_rows.proofs.Leads.{Spans, ZeroBelow}
use Rattle.support_modular_rows.proofs.slots.spans.Given as goal

abbrev pub invariant-loop-i : goal.invariant-loop-i
invariant-loop-i l = record {
  to : InSpan l.rows l.fn.row → Spans l.rows l.i l.x;
  from : Spans l.rows l.i l.x → InSpan l.rows l.fn.row;
  zeros : ZeroBelow l.i l.x;
}
