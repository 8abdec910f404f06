use Rattle.abstract_map.proofs.Whole.{absorbed_is, absorbed_not}
use Rattle.abstract_map.proofs.abstract_maps.AbstractMap.absorbs.Goals as goal

pub returns-then-absorbs_listed : goal.returns-then-absorbs_listed
returns-then-absorbs_listed g c =
    absorbed_is g.B.Base.algebra c.args.ctx.now _ _ c.args.self.now c.args.new.now c.absorbs_listed.result c.absorbs.result c.self.view_is c.new.view_is c.absorbs_listed.ensures.value c.absorbs.ensures.value c.if-absorbs_listed.true

pub returns-else-absorbs_listed : goal.returns-else-absorbs_listed
returns-else-absorbs_listed g c = absorbed_not g.B.Base.algebra c.args.ctx.now c.args.self.now c.args.new.now c.absorbs_listed.result c.absorbs_listed.ensures.value c.if-absorbs_listed.false
