use Rattle.std.proofs.Common.{length}
use Rattle.spec_ir.specs.Views.{specification}
use Rattle.eval_memo.specs.Memos.{entries}
use Rattle.evaluator.proofs.evaluation.evaluate_counted.Given as goal

abbrev pub ghosts-evaluate_unkept-K-Specified : goal.ghosts-evaluate_unkept-K-Specified
ghosts-evaluate_unkept-K-Specified g a = record { spec = specification a.setting.now.spec.now }

abbrev pub ghosts-evaluate_unkept-K-Counted : goal.ghosts-evaluate_unkept-K-Counted
ghosts-evaluate_unkept-K-Counted g a = record { before = length (entries a.memo.now); ticked = a.steps.now }

abbrev pub ghosts-evaluate_unkept-K-Placed : goal.ghosts-evaluate_unkept-K-Placed
ghosts-evaluate_unkept-K-Placed g a = record { at = a.setting.now.at; policy = a.setting.now.policy }
