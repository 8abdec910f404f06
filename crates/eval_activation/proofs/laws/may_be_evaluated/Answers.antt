use Rattle.eval_activation.proofs.Readiness.{may_evaluate}
use Rattle.eval_activation.proofs.laws.may_be_evaluated.Goals as goal

pub returns : goal.returns
returns g c calls ok code_is room turn joins right = may_evaluate g.B.Base.algebra g.met.B.Base.laws g.B.Base.CAP c.args._setting.now calls ok code_is room turn joins right
