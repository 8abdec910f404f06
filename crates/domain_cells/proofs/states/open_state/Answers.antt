use Rattle.domain_cells.proofs.Lists.{opened_is}
use Rattle.domain_cells.proofs.states.open_state.Goals as goal

pub returns : goal.returns
returns g c = opened_is c.args.number (g.B.Base.algebra.words.constant c.args.ctx.now 32 c.args.pc) c.in_ok-fields.fields.items c.args.values.now c.in_ok-cases.cases c.in_ok-cases.ensures c.in_ok-fields.ensures
