-- Branches and arms of the code as plain data.
use Rattle.eval_code.specs.Views.{end, node, stretch, tail}
use Rattle.evaluator.specs.declared.arms.Branch.{Branch as BranchHere}
use Rattle.evaluator.specs.declared.arms.Branch.TheVariants as b
use Rattle.evaluator.specs.declared.arms.Arms.{Arms as ArmsHere}
use Rattle.evaluator.specs.declared.arms.Arms.TheVariants as a
use Rattle.evaluator.specs.Arms.{Arms, Branch, arms_of, tail_branch, tail_arms, stretch_branch, stretch_arms, ways_of}

abbrev pub branch : BranchHere → Branch
branch (b.Value s) = stretch_branch (stretch s.now)
branch (b.Turn t) = tail_branch (tail t.now)

abbrev pub arms : ArmsHere → Arms
arms (a.OfNode n) = stretch_arms (arms_of (node n.now))
arms (a.OfEnd e) = tail_arms (ways_of (end e.now))
