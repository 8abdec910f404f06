use Rattle.std.proofs.Common.{length}
use Rattle.spec_ir.specs.Views.{specification}
use Rattle.eval_memo.specs.Memos.{entries}
use Rattle.evaluator.proofs.evaluation.eval.Given as goal

abbrev pub ghosts-evaluate_known-K-Specified : goal.ghosts-evaluate_known-K-Specified
ghosts-evaluate_known-K-Specified g a = record { spec = specification a.setting.now.spec.now }

abbrev pub ghosts-evaluate_known-K-Counted : goal.ghosts-evaluate_known-K-Counted
ghosts-evaluate_known-K-Counted g a = record { before = length (entries a.memo.now); ticked = a.steps.now }

abbrev pub ghosts-evaluate_known-K-Placed : goal.ghosts-evaluate_known-K-Placed
ghosts-evaluate_known-K-Placed g a = record { at = a.setting.now.at; policy = a.setting.now.policy }
