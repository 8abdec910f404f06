use Rattle.support_command_line.specs.declared.bases.BaseName.TheVariants as b
use Rattle.spec_ir.specs.Views.{specification}
use Rattle.program_common.specs.Outcomes.{answer_of}
use Rattle.program_base_tasks.proofs.Bases.{over_it, work_over}
use Rattle.program_base_tasks.proofs.named.over_base.Goals as goal

pub returns-in-Const-clause-gives : goal.returns-in-Const-clause-gives
returns-in-Const-clause-gives g c = let s = c.args.it.now in over_it (specification s.spec.now) s.image.now s.task c.args.base b.Const answer_of c.over_cells.result c.in-Const.is c.over_cells.ensures.gives

pub returns-in-Const-clause-work : goal.returns-in-Const-clause-work
returns-in-Const-clause-work g c = let s = c.args.it.now in work_over (specification s.spec.now) s.image.now s.task c.args.base b.Const c.args.steps.now c.over_cells.new.steps c.in-Const.is c.over_cells.ensures.work

pub returns-in-KSet-clause-gives : goal.returns-in-KSet-clause-gives
returns-in-KSet-clause-gives g c = let s = c.args.it.now in over_it (specification s.spec.now) s.image.now s.task c.args.base b.KSet answer_of c.over_cells-in-KSet.result c.in-KSet.is c.over_cells-in-KSet.ensures.gives

pub returns-in-KSet-clause-work : goal.returns-in-KSet-clause-work
returns-in-KSet-clause-work g c = let s = c.args.it.now in work_over (specification s.spec.now) s.image.now s.task c.args.base b.KSet c.args.steps.now c.over_cells-in-KSet.new.steps c.in-KSet.is c.over_cells-in-KSet.ensures.work

pub returns-in-Interval-clause-gives : goal.returns-in-Interval-clause-gives
returns-in-Interval-clause-gives g c = let s = c.args.it.now in over_it (specification s.spec.now) s.image.now s.task c.args.base b.Interval answer_of c.over_cells-in-Interval.result c.in-Interval.is c.over_cells-in-Interval.ensures.gives

pub returns-in-Interval-clause-work : goal.returns-in-Interval-clause-work
returns-in-Interval-clause-work g c = let s = c.args.it.now in work_over (specification s.spec.now) s.image.now s.task c.args.base b.Interval c.args.steps.now c.over_cells-in-Interval.new.steps c.in-Interval.is c.over_cells-in-Interval.ensures.work

pub returns-in-Affine-clause-gives : goal.returns-in-Affine-clause-gives
returns-in-Affine-clause-gives g c = let s = c.args.it.now in over_it (specification s.spec.now) s.image.now s.task c.args.base b.Affine answer_of c.over_relations.result c.in-Affine.is c.over_relations.ensures.gives

pub returns-in-Affine-clause-work : goal.returns-in-Affine-clause-work
returns-in-Affine-clause-work g c = let s = c.args.it.now in work_over (specification s.spec.now) s.image.now s.task c.args.base b.Affine c.args.steps.now c.over_relations.new.steps c.in-Affine.is c.over_relations.ensures.work

pub returns-in-DefUse-clause-gives : goal.returns-in-DefUse-clause-gives
returns-in-DefUse-clause-gives g c = let s = c.args.it.now in over_it (specification s.spec.now) s.image.now s.task c.args.base b.DefUse answer_of c.over_cells-in-DefUse.result c.in-DefUse.is c.over_cells-in-DefUse.ensures.gives

pub returns-in-DefUse-clause-work : goal.returns-in-DefUse-clause-work
returns-in-DefUse-clause-work g c = let s = c.args.it.now in work_over (specification s.spec.now) s.image.now s.task c.args.base b.DefUse c.args.steps.now c.over_cells-in-DefUse.new.steps c.in-DefUse.is c.over_cells-in-DefUse.ensures.work

pub returns-in-ConstInterval-clause-gives : goal.returns-in-ConstInterval-clause-gives
returns-in-ConstInterval-clause-gives g c = let s = c.args.it.now in over_it (specification s.spec.now) s.image.now s.task c.args.base b.ConstInterval answer_of c.over_both.result c.in-ConstInterval.is c.over_both.ensures.gives

pub returns-in-ConstInterval-clause-work : goal.returns-in-ConstInterval-clause-work
returns-in-ConstInterval-clause-work g c = let s = c.args.it.now in work_over (specification s.spec.now) s.image.now s.task c.args.base b.ConstInterval c.args.steps.now c.over_both.new.steps c.in-ConstInterval.is c.over_both.ensures.work

pub returns-in-KSetInterval-clause-gives : goal.returns-in-KSetInterval-clause-gives
returns-in-KSetInterval-clause-gives g c = let s = c.args.it.now in over_it (specification s.spec.now) s.image.now s.task c.args.base b.KSetInterval answer_of c.over_both-in-KSetInterval.result c.in-KSetInterval.is c.over_both-in-KSetInterval.ensures.gives

pub returns-in-KSetInterval-clause-work : goal.returns-in-KSetInterval-clause-work
returns-in-KSetInterval-clause-work g c = let s = c.args.it.now in work_over (specification s.spec.now) s.image.now s.task c.args.base b.KSetInterval c.args.steps.now c.over_both-in-KSetInterval.new.steps c.in-KSetInterval.is c.over_both-in-KSetInterval.ensures.work

pub returns-in-KSetAffine-clause-gives : goal.returns-in-KSetAffine-clause-gives
returns-in-KSetAffine-clause-gives g c = let s = c.args.it.now in over_it (specification s.spec.now) s.image.now s.task c.args.base b.KSetAffine answer_of c.over_cells_and_relations.result c.in-KSetAffine.is c.over_cells_and_relations.ensures.gives

pub returns-in-KSetAffine-clause-work : goal.returns-in-KSetAffine-clause-work
returns-in-KSetAffine-clause-work g c = let s = c.args.it.now in work_over (specification s.spec.now) s.image.now s.task c.args.base b.KSetAffine c.args.steps.now c.over_cells_and_relations.new.steps c.in-KSetAffine.is c.over_cells_and_relations.ensures.work

pub returns-in-KSetDefUse-clause-gives : goal.returns-in-KSetDefUse-clause-gives
returns-in-KSetDefUse-clause-gives g c = let s = c.args.it.now in over_it (specification s.spec.now) s.image.now s.task c.args.base b.KSetDefUse answer_of c.over_both-in-KSetDefUse.result c.in-KSetDefUse.is c.over_both-in-KSetDefUse.ensures.gives

pub returns-in-KSetDefUse-clause-work : goal.returns-in-KSetDefUse-clause-work
returns-in-KSetDefUse-clause-work g c = let s = c.args.it.now in work_over (specification s.spec.now) s.image.now s.task c.args.base b.KSetDefUse c.args.steps.now c.over_both-in-KSetDefUse.new.steps c.in-KSetDefUse.is c.over_both-in-KSetDefUse.ensures.work

pub returns-in-IntervalAffine-clause-gives : goal.returns-in-IntervalAffine-clause-gives
returns-in-IntervalAffine-clause-gives g c = let s = c.args.it.now in over_it (specification s.spec.now) s.image.now s.task c.args.base b.IntervalAffine answer_of c.over_cells_and_relations-in-IntervalAffine.result c.in-IntervalAffine.is c.over_cells_and_relations-in-IntervalAffine.ensures.gives

pub returns-in-IntervalAffine-clause-work : goal.returns-in-IntervalAffine-clause-work
returns-in-IntervalAffine-clause-work g c = let s = c.args.it.now in work_over (specification s.spec.now) s.image.now s.task c.args.base b.IntervalAffine c.args.steps.now c.over_cells_and_relations-in-IntervalAffine.new.steps c.in-IntervalAffine.is c.over_cells_and_relations-in-IntervalAffine.ensures.work

pub returns-in-IntervalDefUse-clause-gives : goal.returns-in-IntervalDefUse-clause-gives
returns-in-IntervalDefUse-clause-gives g c = let s = c.args.it.now in over_it (specification s.spec.now) s.image.now s.task c.args.base b.IntervalDefUse answer_of c.over_both-in-IntervalDefUse.result c.in-IntervalDefUse.is c.over_both-in-IntervalDefUse.ensures.gives

pub returns-in-IntervalDefUse-clause-work : goal.returns-in-IntervalDefUse-clause-work
returns-in-IntervalDefUse-clause-work g c = let s = c.args.it.now in work_over (specification s.spec.now) s.image.now s.task c.args.base b.IntervalDefUse c.args.steps.now c.over_both-in-IntervalDefUse.new.steps c.in-IntervalDefUse.is c.over_both-in-IntervalDefUse.ensures.work

pub returns-in-AffineDefUse-clause-gives : goal.returns-in-AffineDefUse-clause-gives
returns-in-AffineDefUse-clause-gives g c = let s = c.args.it.now in over_it (specification s.spec.now) s.image.now s.task c.args.base b.AffineDefUse answer_of c.over_relations_and_cells.result c.in-AffineDefUse.is c.over_relations_and_cells.ensures.gives

pub returns-in-AffineDefUse-clause-work : goal.returns-in-AffineDefUse-clause-work
returns-in-AffineDefUse-clause-work g c = let s = c.args.it.now in work_over (specification s.spec.now) s.image.now s.task c.args.base b.AffineDefUse c.args.steps.now c.over_relations_and_cells.new.steps c.in-AffineDefUse.is c.over_relations_and_cells.ensures.work

pub returns-in-Bits-clause-gives : goal.returns-in-Bits-clause-gives
returns-in-Bits-clause-gives g c = let s = c.args.it.now in over_it (specification s.spec.now) s.image.now s.task c.args.base b.Bits answer_of c.over_cells-in-Bits.result c.in-Bits.is c.over_cells-in-Bits.ensures.gives

pub returns-in-Bits-clause-work : goal.returns-in-Bits-clause-work
returns-in-Bits-clause-work g c = let s = c.args.it.now in work_over (specification s.spec.now) s.image.now s.task c.args.base b.Bits c.args.steps.now c.over_cells-in-Bits.new.steps c.in-Bits.is c.over_cells-in-Bits.ensures.work

pub returns-in-KSetBits-clause-gives : goal.returns-in-KSetBits-clause-gives
returns-in-KSetBits-clause-gives g c = let s = c.args.it.now in over_it (specification s.spec.now) s.image.now s.task c.args.base b.KSetBits answer_of c.over_both-in-KSetBits.result c.in-KSetBits.is c.over_both-in-KSetBits.ensures.gives

pub returns-in-KSetBits-clause-work : goal.returns-in-KSetBits-clause-work
returns-in-KSetBits-clause-work g c = let s = c.args.it.now in work_over (specification s.spec.now) s.image.now s.task c.args.base b.KSetBits c.args.steps.now c.over_both-in-KSetBits.new.steps c.in-KSetBits.is c.over_both-in-KSetBits.ensures.work

pub returns-in-IntervalBits-clause-gives : goal.returns-in-IntervalBits-clause-gives
returns-in-IntervalBits-clause-gives g c = let s = c.args.it.now in over_it (specification s.spec.now) s.image.now s.task c.args.base b.IntervalBits answer_of c.over_both-in-IntervalBits.result c.in-IntervalBits.is c.over_both-in-IntervalBits.ensures.gives

pub returns-in-IntervalBits-clause-work : goal.returns-in-IntervalBits-clause-work
returns-in-IntervalBits-clause-work g c = let s = c.args.it.now in work_over (specification s.spec.now) s.image.now s.task c.args.base b.IntervalBits c.args.steps.now c.over_both-in-IntervalBits.new.steps c.in-IntervalBits.is c.over_both-in-IntervalBits.ensures.work

pub returns-in-BitsDefUse-clause-gives : goal.returns-in-BitsDefUse-clause-gives
returns-in-BitsDefUse-clause-gives g c = let s = c.args.it.now in over_it (specification s.spec.now) s.image.now s.task c.args.base b.BitsDefUse answer_of c.over_both-in-BitsDefUse.result c.in-BitsDefUse.is c.over_both-in-BitsDefUse.ensures.gives

pub returns-in-BitsDefUse-clause-work : goal.returns-in-BitsDefUse-clause-work
returns-in-BitsDefUse-clause-work g c = let s = c.args.it.now in work_over (specification s.spec.now) s.image.now s.task c.args.base b.BitsDefUse c.args.steps.now c.over_both-in-BitsDefUse.new.steps c.in-BitsDefUse.is c.over_both-in-BitsDefUse.ensures.work

pub returns-in-Strides-clause-gives : goal.returns-in-Strides-clause-gives
returns-in-Strides-clause-gives g c = let s = c.args.it.now in over_it (specification s.spec.now) s.image.now s.task c.args.base b.Strides answer_of c.over_cells-in-Strides.result c.in-Strides.is c.over_cells-in-Strides.ensures.gives

pub returns-in-Strides-clause-work : goal.returns-in-Strides-clause-work
returns-in-Strides-clause-work g c = let s = c.args.it.now in work_over (specification s.spec.now) s.image.now s.task c.args.base b.Strides c.args.steps.now c.over_cells-in-Strides.new.steps c.in-Strides.is c.over_cells-in-Strides.ensures.work

pub returns-in-StridesAffine-clause-gives : goal.returns-in-StridesAffine-clause-gives
returns-in-StridesAffine-clause-gives g c = let s = c.args.it.now in over_it (specification s.spec.now) s.image.now s.task c.args.base b.StridesAffine answer_of c.over_cells_and_relations-in-StridesAffine.result c.in-StridesAffine.is c.over_cells_and_relations-in-StridesAffine.ensures.gives

pub returns-in-StridesAffine-clause-work : goal.returns-in-StridesAffine-clause-work
returns-in-StridesAffine-clause-work g c = let s = c.args.it.now in work_over (specification s.spec.now) s.image.now s.task c.args.base b.StridesAffine c.args.steps.now c.over_cells_and_relations-in-StridesAffine.new.steps c.in-StridesAffine.is c.over_cells_and_relations-in-StridesAffine.ensures.work

pub returns-in-StridesDefUse-clause-gives : goal.returns-in-StridesDefUse-clause-gives
returns-in-StridesDefUse-clause-gives g c = let s = c.args.it.now in over_it (specification s.spec.now) s.image.now s.task c.args.base b.StridesDefUse answer_of c.over_both-in-StridesDefUse.result c.in-StridesDefUse.is c.over_both-in-StridesDefUse.ensures.gives

pub returns-in-StridesDefUse-clause-work : goal.returns-in-StridesDefUse-clause-work
returns-in-StridesDefUse-clause-work g c = let s = c.args.it.now in work_over (specification s.spec.now) s.image.now s.task c.args.base b.StridesDefUse c.args.steps.now c.over_both-in-StridesDefUse.new.steps c.in-StridesDefUse.is c.over_both-in-StridesDefUse.ensures.work
