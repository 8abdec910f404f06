use Rattle.domain_laws.specs.Entry.{entry_values}
use Rattle.domain_cells.proofs.Lists.{entry_ends, entry_pushed, field_lines, field_right}
use Rattle.domain_cells.proofs.entry.entry_values.Goals as goal

pub entry_value-requires-clause-right : goal.entry_value-requires-clause-right
entry_value-requires-clause-right g c = field_right c.args.fields.now c.loop-i.i _ c.loop-i-test.true c.requires.right

pub entry_value-requires-clause-lines : goal.entry_value-requires-clause-lines
entry_value-requires-clause-lines g c = field_lines c.args.fields.now c.loop-i.i _ c.loop-i-test.true c.args.lines.now c.requires.lines

pub loop-i-preserved : goal.loop-i-preserved
loop-i-preserved g c =
    let b = g.B.Base.algebra in
    let ctx = c.args.ctx.now in
    let cap = g.B.Base.CAP in
    entry_pushed b ctx cap c.args.lines.now c.entry_value.result c.args.fields.now c.loop-i.i _ c.loop-i.out.items c.in_ok-out-2.out.items (entry_values b ctx cap c.args.lines.now 1 c.args.fields.now) c.loop-i-test.true c.in_ok-out-2.ensures c.entry_value.ensures c.loop-i.invariant

pub returns : goal.returns
returns g c =
    let b = g.B.Base.algebra in
    let ctx = c.args.ctx.now in
    let cap = g.B.Base.CAP in
    entry_ends b ctx cap c.args.lines.now c.args.fields.now c.loop-i.i c.loop-i.out.items (entry_values b ctx cap c.args.lines.now 1 c.args.fields.now) c.loop-i-test.false c.loop-i.invariant
