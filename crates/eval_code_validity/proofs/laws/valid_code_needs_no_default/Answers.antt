use Rattle.eval_code_validity.specs.Readings.{or_else}
use Rattle.eval_code_validity.proofs.Written.{code_same, or_else_right}
use Rattle.eval_code_validity.proofs.laws.valid_code_needs_no_default.Goals as goal

pub returns : goal.returns
returns g c spec ctx cap a calls x f xs l ok long = code_same g.B.Base.algebra ctx cap spec a calls (or_else x) (or_else_right x) f xs ok long l
