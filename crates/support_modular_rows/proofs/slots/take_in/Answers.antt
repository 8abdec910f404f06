use Rattle.std.proofs.Common.{length}
use Rattle.support_modular_rows.proofs.Store.{copied_to, copied_from, copied_same, held_same}
use Rattle.support_modular_rows.proofs.slots.take_in.Goals as goal

pub returns-then-spans-clause-span : goal.returns-then-spans-clause-span
returns-then-spans-clause-span c =
    held_same c.args.rows.now c.args.row.now (copied_to c.args.rows.now c.vector_of-x.result c.args.row.now c.requires.size c.vector_of-x.ensures c.if-spans.ensures)

pub returns-then-spans-clause-grew : goal.returns-then-spans-clause-grew
returns-then-spans-clause-grew c = copied_to c.args.rows.now c.vector_of-x.result c.args.row.now c.requires.size c.vector_of-x.ensures c.if-spans.ensures

pub returns-clause-span : goal.returns-clause-span
returns-clause-span c = copied_same (length c.args.rows.now) c.args.rows.now c.absorb.new.rows c.vector_of-x.result c.args.row.now c.requires.size c.vector_of-x.ensures c.absorb.ensures.span

pub returns-clause-grew : goal.returns-clause-grew
returns-clause-grew c h = c.if-spans.ensures (copied_from c.args.rows.now c.vector_of-x.result c.args.row.now c.requires.size c.vector_of-x.ensures h)
