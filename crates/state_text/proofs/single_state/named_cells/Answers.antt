use Rattle.std.proofs.Common.{◌≡◌, ◌-◌, drop, length, refl, arith}
use Rattle.semantics_values.specs.declared.entry.GivenNumber.TheVariants.{One}
use Rattle.semantics_values.specs.declared.entry.KeyAt.TheVariants.{Whole}
use Rattle.semantics_values.specs.declared.entry.Line.{Line}
use Rattle.semantics.specs.Entries.{named_cells}
use Rattle.state_text.proofs.Sorting.{last_lines}
use Rattle.state_text.proofs.single_state.named_cells.Goals as goal

pub loop-i-preserved : goal.loop-i-preserved
loop-i-preserved c =
    let none : Line = record { field = 0; key = Whole; given = One 0; line = 0 } in
    let step = last_lines c.args.lines.now c.loop-i.i none (omega arith) in
    let before : c.loop-i.cells.entries ≡ named_cells (drop (length c.args.lines.now - c.loop-i.i) c.args.lines.now) c.args.field = c.loop-i.invariant in
    rw (step, c.in_ok-put_line.ensures, before) refl
