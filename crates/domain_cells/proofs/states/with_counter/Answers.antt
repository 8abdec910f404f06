use Rattle.domain_cells.proofs.Lists.{counted}
use Rattle.domain_cells.proofs.states.with_counter.Goals as goal

pub returns : goal.returns
returns g c = counted c.counter.result (g.B.Base.algebra.words.constant c.args.ctx.now 32 c.args.pc) c.in_ok-room.room.items c.in_ok-first.first.items c.args.values.now c.copied_behind.result c.in_ok-room.ensures.items c.in_ok-first.ensures c.counter.ensures c.copied_behind.ensures
